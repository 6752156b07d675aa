-- What a tiling is to its tiles and to the cells.
use Rattle.std.proofs.Common.{◌≡◌, true, ◌&&◌, List, sym, subst}
use Rattle.std.specs.Prelude.{◌==◌, count_by}
use Rattle.std.specs.List.{list_all}
use Rattle.std.proofs.lemmas.Bool.{and_parts, eqb-true}
use Rattle.tl_definitions.specs.declared.Cell.{Cell}
use Rattle.tl_definitions.specs.declared.Tile.{Tile}
use Rattle.tl_definitions.specs.Lattice.{cell_lt, are_neighbours}
use Rattle.tl_definitions.specs.Region.{Region, has}
use Rattle.tl_lists.specs.Lists.{linked}
use Rattle.tl_definitions.specs.Tiling.{tile_lt, tile_eq, covers, is_tile, is_tiling}
use Rattle.tl_definitions.proofs.Cells.{cell_eq-same, In-any, cell_lt-irreflexive}
use Rattle.tl_lists.proofs.Members.{In, In-list_all}
use Rattle.tl_lists.proofs.Counts.{Only, only-count_by}

pub tile_eq-same : (s t : Tile) → tile_eq s t ≡ true → s ≡ t
tile_eq-same s t e =
    let p = and_parts _ _ e in
    let f : s.first ≡ t.first = cell_eq-same _ _ p.0 in
    let g : s.second ≡ t.second = cell_eq-same _ _ p.1 in
    λ i. record { first = f i; second = g i }

pub record TileParts (R : Region) (t : Tile) : Type 0 where
  pub first : In t.first R.cells
  pub second : In t.second R.cells
  pub order : cell_lt t.first t.second ≡ true
  pub near : are_neighbours R.kind t.first t.second ≡ true
  pub differ : t.first ≡ t.second → ⊥

pub tile-parts : (R : Region) (t : Tile) → is_tile R t ≡ true → TileParts R t
tile-parts R t e =
    let p : ((has R t.first && has R t.second && cell_lt t.first t.second) ≡ true) × (are_neighbours R.kind t.first t.second ≡ true) = and_parts _ _ e in
    let q : ((has R t.first && has R t.second) ≡ true) × (cell_lt t.first t.second ≡ true) = and_parts _ _ p.0 in
    let r : (has R t.first ≡ true) × (has R t.second ≡ true) = and_parts _ _ q.0 in
    record {
      first = In-any t.first R.cells r.0;
      second = In-any t.second R.cells r.1;
      order = q.1;
      near = p.1;
      differ = λ same. cell_lt-irreflexive t.first (subst (λ (x : Cell). cell_lt t.first x ≡ true) (sym same) q.1);
    }

pub record TilingParts (R : Region) (A : List Tile) : Type 0 where
  pub order : linked tile_lt A ≡ true
  pub tiles : (t : Tile) → In t A → TileParts R t
  pub covered : (a : Cell) → In a R.cells → (t : Tile) × Only (λ s. covers s a) A t

pub tiling-parts : (R : Region) (A : List Tile) → is_tiling R A ≡ true → TilingParts R A
tiling-parts R A e =
    let p : ((linked tile_lt A && list_all (is_tile R) A) ≡ true) × (list_all (λ a. count_by (λ t. covers t a) A == 1) R.cells ≡ true) = and_parts _ _ e in
    let q : (linked tile_lt A ≡ true) × (list_all (is_tile R) A ≡ true) = and_parts _ _ p.0 in
    record {
      order = q.0;
      tiles = λ t i. tile-parts R t (In-list_all (is_tile R) A t q.1 i);
      covered = λ a i. only-count_by (λ t. covers t a) A (eqb-true _ _ (In-list_all (λ a. count_by (λ t. covers t a) A == 1) R.cells a p.1 i));
    }
