-- The order of tiles, and that every tiling is one of the ascending lists of the tiles of its region.
use Rattle.std.proofs.Common.{◌≡◌, ◌⊎◌, inl, inr, true, ◌&&◌, subst, sym, ◌∙◌, map, List, [], ◌∷◌}
use Rattle.std.proofs.lemmas.Bool.{and_parts, or_cases, and_from, or_left, or_right}
use Rattle.tl_definitions.specs.declared.Tile.{Tile}
use Rattle.tl_definitions.specs.Lattice.{cell_eq, cell_lt, neighbours, are_neighbours}
use Rattle.tl_definitions.specs.Tiling.{tile_lt, is_tile, tiles, is_tiling}
use Rattle.tl_definitions.proofs.Cells.{cell_eq-same, cell_eq-refl, cell_lt-irreflexive, cell_lt-transitive, In-any, In-present}
use Rattle.tl_definitions.specs.declared.Cell.{Cell}
use Rattle.std.specs.Prelude.{filter}
use Rattle.tl_definitions.specs.Region.{Region, has}
use Rattle.tl_lists.specs.Lists.{present, linked}
use Rattle.tl_lists.proofs.Members.{In, In-map, In-filter, In-flat_map, AllIn}
use Rattle.std.specs.List.{list_all}
use Rattle.tl_lists.proofs.Orders.{sublists, In-sublists}

pub tile_lt-cases : (s t : Tile) → tile_lt s t ≡ true → (cell_lt s.first t.first ≡ true) ⊎ ((s.first ≡ t.first) × (cell_lt s.second t.second ≡ true))
tile_lt-cases s t e = go (or_cases (cell_lt s.first t.first) _ e)
  where
    go : (cell_lt s.first t.first ≡ true) ⊎ ((cell_eq s.first t.first && cell_lt s.second t.second) ≡ true)
        → (cell_lt s.first t.first ≡ true) ⊎ ((s.first ≡ t.first) × (cell_lt s.second t.second ≡ true))
    go (inl h) = inl h
    go (inr h) = inr (cell_eq-same _ _ (and_parts _ _ h).0, (and_parts _ _ h).1)

pub tile_lt-from : (s t : Tile) → (cell_lt s.first t.first ≡ true) ⊎ ((s.first ≡ t.first) × (cell_lt s.second t.second ≡ true)) → tile_lt s t ≡ true
tile_lt-from s t (inl h) = or_left (cell_lt s.first t.first) _ h
tile_lt-from s t (inr h) =
    or_right (cell_lt s.first t.first) _ (and_from _ _ (subst (λ a. cell_eq s.first a ≡ true) h.0 (cell_eq-refl s.first)) h.1)

pub tile_lt-irreflexive : (t : Tile) → tile_lt t t ≡ true → ⊥
tile_lt-irreflexive t e = go (tile_lt-cases t t e)
  where
    go : (cell_lt t.first t.first ≡ true) ⊎ ((t.first ≡ t.first) × (cell_lt t.second t.second ≡ true)) → ⊥
    go (inl h) = cell_lt-irreflexive t.first h
    go (inr h) = cell_lt-irreflexive t.second h.1

pub tile_lt-transitive : (s t u : Tile) → tile_lt s t ≡ true → tile_lt t u ≡ true → tile_lt s u ≡ true
tile_lt-transitive s t u e f = tile_lt-from s u (go (tile_lt-cases s t e) (tile_lt-cases t u f))
  where
    go : (cell_lt s.first t.first ≡ true) ⊎ ((s.first ≡ t.first) × (cell_lt s.second t.second ≡ true))
        → (cell_lt t.first u.first ≡ true) ⊎ ((t.first ≡ u.first) × (cell_lt t.second u.second ≡ true))
        → (cell_lt s.first u.first ≡ true) ⊎ ((s.first ≡ u.first) × (cell_lt s.second u.second ≡ true))
    go (inl h) (inl k) = inl (cell_lt-transitive s.first t.first u.first h k)
    go (inl h) (inr k) = inl (subst (λ a. cell_lt s.first a ≡ true) k.0 h)
    go (inr h) (inl k) = inl (subst (λ a. cell_lt a u.first ≡ true) (sym h.0) k)
    go (inr h) (inr k) = inr (h.0 ∙ k.0, cell_lt-transitive s.second t.second u.second h.1 k.1)

abbrev pub pair : Cell → Cell → Tile
pair a b = record { first = a; second = b }

pub In-tiles : (R : Region) (t : Tile) → is_tile R t ≡ true → In t (tiles R)
In-tiles R t e =
    let p : ((has R t.first && has R t.second && cell_lt t.first t.second) ≡ true) × (are_neighbours R.kind t.first t.second ≡ true) = and_parts _ _ e in
    let q : ((has R t.first && has R t.second) ≡ true) × (cell_lt t.first t.second ≡ true) = and_parts _ _ p.0 in
    let r : (has R t.first ≡ true) × (has R t.second ≡ true) = and_parts _ _ q.0 in
    In-flat_map (λ a. filter (is_tile R) (map (λ b. pair a b) (present (neighbours R.kind a)))) t t.first R.cells
    (In-any t.first R.cells r.0)
    (In-filter (is_tile R) t (map (λ b. pair t.first b) (present (neighbours R.kind t.first))) e
    (In-map (λ b. pair t.first b) t.second (present (neighbours R.kind t.first)) (In-present t.second (neighbours R.kind t.first) p.1)))

pub AllIn-tiles : (R : Region) (A : List Tile) → list_all (is_tile R) A ≡ true → AllIn A (tiles R)
AllIn-tiles R [] e = tt
AllIn-tiles R (t ∷ A) e = (In-tiles R t (and_parts _ _ e).0, AllIn-tiles R A (and_parts _ _ e).1)

-- every tiling is among the sublists of the tiles that are tilings
pub In-tilings : (R : Region) (A : List Tile) → linked tile_lt (tiles R) ≡ true → is_tiling R A ≡ true
    → In A (filter (is_tiling R) (sublists (tiles R)))
In-tilings R A l e =
    let p = and_parts (linked tile_lt A && list_all (is_tile R) A) _ e in
    let q = and_parts (linked tile_lt A) (list_all (is_tile R) A) p.0 in
    In-filter (is_tiling R) A (sublists (tiles R)) e
    (In-sublists tile_lt tile_lt-irreflexive tile_lt-transitive (tiles R) A l q.0 (AllIn-tiles R A q.1))
