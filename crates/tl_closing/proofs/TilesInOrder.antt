-- The list of all tiles of a region is ascending.
use Rattle.std.proofs.Common.{◌≡◌, ◌+◌, ◌<◌, ◌⊎◌, inl, inr, Bool, true, false, List, [], ◌∷◌, ◌&&◌, map, filter, flat_map, cond, Option, Some, None, refl, sym, ◌∙◌, ap, subst, arith}
use Rattle.std.specs.List.{cons_option}
use Rattle.std.proofs.lemmas.Bool.{and_parts, false_from_ne_true}
use Rattle.tl_definitions.specs.declared.Kind.{Kind}
use Rattle.tl_definitions.specs.declared.Kind.TheVariants.{Square, Triangle}
use Rattle.tl_definitions.specs.declared.Cell.{Cell}
use Rattle.tl_definitions.specs.declared.Tile.{Tile}
use Rattle.tl_definitions.specs.Lattice.{cell, cell_lt, left, above, below, neighbours, is_dark}
use Rattle.tl_definitions.specs.Region.{Region}
use Rattle.tl_lists.specs.Lists.{present, linked}
use Rattle.tl_definitions.specs.Accepted.{IsPlaced}
use Rattle.tl_definitions.specs.Tiling.{tile_lt, is_tile, tiles}
use Rattle.tl_definitions.proofs.Tiles.{pair, tile_lt-from, tile_lt-irreflexive, tile_lt-transitive}
use Rattle.tl_definitions.proofs.Cells.{cell_lt-cases, cell_lt-from, cell_lt-irreflexive, cell_lt-transitive}
use Rattle.tl_lists.proofs.Members.{In, In-map_parts, In-flat_map_parts, In-filter_parts}
use Rattle.tl_lists.proofs.Orders.{later, linked-tail, linked-append, linked-filter}
use Rattle.tl_definitions.proofs.Partners.{cells-linked}
use Rattle.tl_closing.proofs.Shared.{left-coordinates, above-coordinates}

-- the tiles of a cell and its neighbours
abbrev piece : (Tile → Bool) → Kind → Cell → List Tile
piece p k a = filter p (map (λ b. pair a b) (present (neighbours k a)))

module _ (p : Tile → Bool) (a : Cell) (order : (b : Cell) → p (pair a b) ≡ true → cell_lt a b ≡ true) where
  skip : (o : Option Cell) (rest : List Cell) → ((b : Cell) → o ≡ Some b → p (pair a b) ≡ false)
      → filter p (map (λ b. pair a b) (cons_option o rest)) ≡ filter p (map (λ b. pair a b) rest)
  skip None rest f = refl
  skip (Some b) rest f = ap (λ (t : Bool). cond t (pair a b ∷ filter p (map (λ b. pair a b) rest)) (filter p (map (λ b. pair a b) rest))) (f b refl)

  left-no : (b : Cell) → left a ≡ Some b → p (pair a b) ≡ false
  left-no b e = false_from_ne_true (p (pair a b)) (λ h. go (left-coordinates a b e) (cell_lt-cases a b (order b h)))
    where
      go : (a.r ≡ b.r) × (a.c ≡ b.c + 1) → (a.r < b.r) ⊎ ((a.r ≡ b.r) × (a.c < b.c)) → ⊥
      go q (inl l) = omega (arith, q, l)
      go q (inr l) = omega (arith, q, l)

  above-no : (b : Cell) → above a ≡ Some b → p (pair a b) ≡ false
  above-no b e = false_from_ne_true (p (pair a b)) (λ h. go (above-coordinates a b e) (cell_lt-cases a b (order b h)))
    where
      go : (b.r + 1 ≡ a.r) × (b.c ≡ a.c) → (a.r < b.r) ⊎ ((a.r ≡ b.r) × (a.c < b.c)) → ⊥
      go q (inl l) = omega (arith, q, l)
      go q (inr l) = omega (arith, q, l)

  abbrev two_tiles : List Tile
  two_tiles = pair a (cell a.r (a.c + 1)) ∷ pair a (cell (a.r + 1) a.c) ∷ []

  two-linked : linked tile_lt two_tiles ≡ true
  two-linked =
      ap (λ (t : Bool). t && true)
      (tile_lt-from (pair a (cell a.r (a.c + 1))) (pair a (cell (a.r + 1) a.c)) (inr (refl, cell_lt-from (cell a.r (a.c + 1)) (cell (a.r + 1) a.c) (inl (omega arith)))))

  keep : (x : Tile) (ys zs : List Tile) → filter p ys ≡ filter p zs → filter p (x ∷ ys) ≡ filter p (x ∷ zs)
  keep x ys zs e = ap (λ (l : List Tile). cond (p x) (x ∷ l) l) e

  piece-linked : (k : Kind) → linked tile_lt (piece p k a) ≡ true
  piece-linked Square =
      subst (λ (ts : List Tile). linked tile_lt ts ≡ true) (sym same) (linked-filter tile_lt tile_lt-irreflexive tile_lt-transitive p two_tiles two-linked)
    where
      same : piece p Square a ≡ filter p two_tiles
      same =
          skip (left a) (cell a.r (a.c + 1) ∷ cons_option (above a) (cell (a.r + 1) a.c ∷ [])) left-no
          ∙ keep (pair a (cell a.r (a.c + 1))) (map (λ b. pair a b) (cons_option (above a) (cell (a.r + 1) a.c ∷ []))) (pair a (cell (a.r + 1) a.c) ∷ [])
          (skip (above a) (cell (a.r + 1) a.c ∷ []) above-no)
  piece-linked Triangle = go (is_dark a)
    where
      rest : Bool → List Cell
      rest t = cons_option (cond t (below a) (above a)) []

      third : (t : Bool) → linked tile_lt (filter p (map (λ b. pair a b) (cell a.r (a.c + 1) ∷ rest t))) ≡ true
      third true = linked-filter tile_lt tile_lt-irreflexive tile_lt-transitive p two_tiles two-linked
      third false =
          subst (λ (ts : List Tile). linked tile_lt ts ≡ true)
          (sym (keep (pair a (cell a.r (a.c + 1))) (map (λ b. pair a b) (cons_option (above a) [])) [] (skip (above a) [] above-no)))
          (linked-filter tile_lt tile_lt-irreflexive tile_lt-transitive p (pair a (cell a.r (a.c + 1)) ∷ []) refl)

      go : (t : Bool) → linked tile_lt (filter p (map (λ b. pair a b) (cons_option (left a) (cell a.r (a.c + 1) ∷ rest t)))) ≡ true
      go t = subst (λ (ts : List Tile). linked tile_lt ts ≡ true) (sym (skip (left a) (cell a.r (a.c + 1) ∷ rest t) left-no)) (third t)

is_tile-order : (R : Region) (t : Tile) → is_tile R t ≡ true → cell_lt t.first t.second ≡ true
is_tile-order R t e = (and_parts _ _ (and_parts _ _ e).0).1

pieces-linked : (R : Region) (cells : List Cell) → linked cell_lt cells ≡ true → linked tile_lt (flat_map (piece (is_tile R) R.kind) cells) ≡ true
pieces-linked R [] l = refl
pieces-linked R (a ∷ cells) l =
    linked-append tile_lt tile_lt-irreflexive tile_lt-transitive (piece (is_tile R) R.kind a) (flat_map (piece (is_tile R) R.kind) cells)
    (piece-linked (is_tile R) a (λ b h. is_tile-order R (pair a b) h) R.kind)
    (pieces-linked R cells (linked-tail cell_lt cell_lt-irreflexive cell_lt-transitive a cells l))
    (λ s t i j. after s t (first-of a s i) (In-flat_map_parts (piece (is_tile R) R.kind) t cells j))
  where
    first-of : (c : Cell) (s : Tile) → In s (piece (is_tile R) R.kind c) → s.first ≡ c
    first-of c s i = go (In-map_parts (λ b. pair c b) s (present (neighbours R.kind c)) (In-filter_parts (is_tile R) s (map (λ b. pair c b) (present (neighbours R.kind c))) i).0)
      where
        go : (b : Cell) × In b (present (neighbours R.kind c)) × (s ≡ pair c b) → s.first ≡ c
        go (b, j, e) = ap (λ (t : Tile). t.first) e

    after : (s t : Tile) → s.first ≡ a → (b : Cell) × In b cells × In t (piece (is_tile R) R.kind b) → tile_lt s t ≡ true
    after s t e (b, j, k) =
        tile_lt-from s t (inl (subst (λ (x : Cell). cell_lt x t.first ≡ true) (sym e)
        (subst (λ (x : Cell). cell_lt a x ≡ true) (sym (first-of b t k)) (later cell_lt cell_lt-irreflexive cell_lt-transitive a cells b l j))))

pub tiles-linked : (R : Region) → IsPlaced R → linked tile_lt (tiles R) ≡ true
tiles-linked R placed = pieces-linked R R.cells (cells-linked R placed)
