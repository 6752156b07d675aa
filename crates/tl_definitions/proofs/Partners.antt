-- A tiling and its partners determine each other.
use Rattle.std.proofs.Common.{◌≡◌, ℕ, zero, suc, ◌+◌, ◌≤◌, ◌⊎◌, inl, inr, Bool, true, false, List, [], ◌∷◌, refl, sym, ◌∙◌, ap, subst, arith, Option, Some, None}
use Rattle.std.specs.Prelude.{flat_map, count_by, ◌==◌, if◌then◌else◌, option_map}
use Rattle.std.specs.List.{cons_option, range_with_len}
use Rattle.std.proofs.lemmas.Bool.{and_from, or_cases, or_left, or_right, eq-eqb}
use Rattle.tl_definitions.specs.declared.Cell.{Cell}
use Rattle.tl_definitions.specs.declared.Tile.{Tile}
use Rattle.tl_definitions.specs.Lattice.{cell, cell_eq, cell_lt, are_neighbours}
use Rattle.tl_definitions.specs.Region.{Region, has, places, row_part}
use Rattle.tl_definitions.specs.Accepted.{IsPlaced}
use Rattle.tl_lists.specs.Lists.{linked}
use Rattle.tl_definitions.specs.Tiling.{tile_lt, covers, is_tile, is_tiling, other_cell, partner, later_tile, tiles_by}
use Rattle.tl_definitions.proofs.Cells.{cell_eq-same, In-any, cell_lt-from, cell_lt-irreflexive, cell_lt-transitive, cell_eq-refl, In-has, cell_lt-total}
use Rattle.tl_lists.proofs.Tests.{some_same}
use Rattle.tl_definitions.proofs.Neighbours.{neighbours-back, neighbours-differ}
use Rattle.tl_definitions.proofs.Tiles.{tile_lt-from, tile_lt-irreflexive, tile_lt-transitive}
use Rattle.tl_lists.proofs.Members.{In, In-append_cases, list_all-In, In-filter_map, In-filter_map_parts}
use Rattle.tl_lists.proofs.Orders.{later, linked-tail, linked-cons, linked-append, linked-filter, count_by-only}
use Rattle.tl_lists.proofs.Searches.{find-only}
use Rattle.tl_lists.proofs.Counts.{Only}

-- ---- cells in raster order

row-cell : (a : Cell) (r c n : ℕ) → In a (row_part r c n) → (a.r ≡ r) × (c ≤ a.c)
row-cell a r c zero i = absurd i
row-cell a r c (suc n) (inl e) = (ap (λ (b : Cell). b.r) e, omega (arith, ap (λ (b : Cell). b.c) e))
row-cell a r c (suc n) (inr i) = let p = row-cell a r (c + 1) n i in (p.0, omega (arith, p.1))

row-linked : (r c n : ℕ) → linked cell_lt (row_part r c n) ≡ true
row-linked r c zero = refl
row-linked r c (suc n) =
    linked-cons cell_lt cell_lt-irreflexive cell_lt-transitive (cell r c) (row_part r (c + 1) n)
    (λ z i. let p = row-cell z r (c + 1) n i in cell_lt-from (cell r c) z (inr (sym p.0, omega (arith, p.1))))
    (row-linked r (c + 1) n)

rows-cell : (a : Cell) (columns r n : ℕ) → In a (flat_map (λ r. row_part r 0 columns) (range_with_len r n)) → r ≤ a.r
rows-cell a columns r zero i = absurd i
rows-cell a columns r (suc n) i = go (In-append_cases a (row_part r 0 columns) (flat_map (λ r. row_part r 0 columns) (range_with_len (r + 1) n)) i) (rows-cell a columns (r + 1) n)
  where
    go : In a (row_part r 0 columns) ⊎ In a (flat_map (λ r. row_part r 0 columns) (range_with_len (r + 1) n))
        → (In a (flat_map (λ r. row_part r 0 columns) (range_with_len (r + 1) n)) → r + 1 ≤ a.r) → r ≤ a.r
    go (inl j) ih = omega (arith, (row-cell a r 0 columns j).0)
    go (inr j) ih = omega (arith, ih j)

pub rows-linked : (columns r n : ℕ) → linked cell_lt (flat_map (λ r. row_part r 0 columns) (range_with_len r n)) ≡ true
rows-linked columns r zero = refl
rows-linked columns r (suc n) =
    linked-append cell_lt cell_lt-irreflexive cell_lt-transitive (row_part r 0 columns) (flat_map (λ r. row_part r 0 columns) (range_with_len (r + 1) n))
    (row-linked r 0 columns) (rows-linked columns (r + 1) n)
    (λ x y i j. cell_lt-from x y (inl (omega (arith, (row-cell x r 0 columns i).0, rows-cell y columns (r + 1) n j))))

-- the cells of a region stand in raster order
pub cells-linked : (R : Region) → IsPlaced R → linked cell_lt R.cells ≡ true
cells-linked R placed =
    subst (λ (cells : List Cell). linked cell_lt cells ≡ true) (sym placed)
    (linked-filter cell_lt cell_lt-irreflexive cell_lt-transitive (has R) (places R.rows R.columns) (rows-linked R.columns 0 R.rows))

-- ---- from partners to a tiling

-- each cell of the region has a neighbour in it as its partner, whose partner it is
abbrev pub IsMatched : Region → (Cell → Option Cell) → Cell → Type 0
IsMatched R f a = (b : Cell) × (f a ≡ Some b) × (has R b ≡ true) × (are_neighbours R.kind a b ≡ true) × (f b ≡ Some a)

abbrev pub AreMatched : Region → (Cell → Option Cell) → Type 0
AreMatched R f = (a : Cell) → has R a ≡ true → IsMatched R f a

-- a tile of the partners, and the partner of its first cell
later-parts : (a : Cell) (o : Option Cell) (t : Tile) → later_tile a o ≡ Some t → (t.first ≡ a) × (o ≡ Some t.second) × (cell_lt t.first t.second ≡ true)
later-parts a None t e = cc e
later-parts a (Some b) t e = go (cell_lt a b) refl e
  where
    go : (v : Bool) → cell_lt a b ≡ v → (if v then Some (record { first = a; second = b }) else None) ≡ Some t → (t.first ≡ a) × (Some b ≡ Some t.second) × (cell_lt t.first t.second ≡ true)
    go true h k =
        let same : record { first = a; second = b } ≡ t = cc k in
        (sym (ap (λ (s : Tile). s.first) same), ap (λ (s : Tile). Some s.second) same, subst (λ (s : Tile). cell_lt s.first s.second ≡ true) same h)
    go false h k = cc k

later-from : (a b : Cell) (o : Option Cell) → o ≡ Some b → cell_lt a b ≡ true → later_tile a o ≡ Some (record { first = a; second = b })
later-from a b o e h = ap (later_tile a) e ∙ rw h refl

In-tiles_by : (f : Cell → Option Cell) (cells : List Cell) (t : Tile) → In t (tiles_by f cells)
    → In t.first cells × (f t.first ≡ Some t.second) × (cell_lt t.first t.second ≡ true)
In-tiles_by f cells t i =
    let (a, j, e) = In-filter_map_parts (λ a. later_tile a (f a)) t cells i in
    let p : (t.first ≡ a) × (f a ≡ Some t.second) × (cell_lt t.first t.second ≡ true) = later-parts a (f a) t e in
    (subst (λ c. In c cells) (sym p.0) j, ap f p.0 ∙ p.1, p.2)

tiles_by-In : (f : Cell → Option Cell) (cells : List Cell) (a b : Cell) → In a cells → f a ≡ Some b → cell_lt a b ≡ true
    → In (record { first = a; second = b }) (tiles_by f cells)
tiles_by-In f cells a b i e h = In-filter_map (λ a. later_tile a (f a)) a (record { first = a; second = b }) cells i (later-from a b (f a) e h)

tiles_by-linked : (f : Cell → Option Cell) (cells : List Cell) → linked cell_lt cells ≡ true → linked tile_lt (tiles_by f cells) ≡ true
tiles_by-linked f [] l = refl
tiles_by-linked f (a ∷ cells) l = go (later_tile a (f a)) refl (tiles_by-linked f cells (linked-tail cell_lt cell_lt-irreflexive cell_lt-transitive a cells l))
  where
    go : (o : Option Tile) → later_tile a (f a) ≡ o → linked tile_lt (tiles_by f cells) ≡ true → linked tile_lt (cons_option o (tiles_by f cells)) ≡ true
    go None e m = m
    go (Some t) e m =
        linked-cons tile_lt tile_lt-irreflexive tile_lt-transitive t (tiles_by f cells)
        (λ s i.
        let first : t.first ≡ a = (later-parts a (f a) t e).0 in
        tile_lt-from t s (inl (subst (λ c. cell_lt c s.first ≡ true) (sym first)
        (later cell_lt cell_lt-irreflexive cell_lt-transitive a cells s.first l (In-tiles_by f cells s i).0))))
        m

module _ (R : Region) (f : Cell → Option Cell) (placed : IsPlaced R) (matched : AreMatched R f) where
  A : List Tile
  A = tiles_by f R.cells

  -- a tile that covers a cell is that of the cell and its partner
  covered : (a b : Cell) (t : Tile) → f a ≡ Some b → In t A → covers t a ≡ true
      → ((t.first ≡ a) × (t.second ≡ b)) ⊎ ((t.first ≡ b) × (t.second ≡ a))
  unfolding A
  covered a b t e i c = go (or_cases (cell_eq t.first a) _ c)
    where
      p : In t.first R.cells × (f t.first ≡ Some t.second) × (cell_lt t.first t.second ≡ true)
      p = In-tiles_by f R.cells t i

      go : (cell_eq t.first a ≡ true) ⊎ (cell_eq t.second a ≡ true) → ((t.first ≡ a) × (t.second ≡ b)) ⊎ ((t.first ≡ b) × (t.second ≡ a))
      go (inl h) =
          let same : t.first ≡ a = cell_eq-same t.first a h in
          inl (same, some_same _ _ (sym p.1 ∙ ap f same ∙ e))
      go (inr h) =
          let same : t.second ≡ a = cell_eq-same t.second a h in
          let (d, to, in_R, near, back) = matched t.first (In-has t.first R.cells p.0) in
          let other : d ≡ t.second = some_same _ _ (sym to ∙ p.1) in
          inr (some_same _ _ (sym back ∙ (ap f (other ∙ same) ∙ e)), same)

  pub stands_in_one : (a b : Cell) → has R a ≡ true → f a ≡ Some b → (t : Tile) × Only (λ s. covers s a) (tiles_by f R.cells) t × (other_cell t a ≡ b)
  unfolding A
  stands_in_one a b h e = go (cell_lt-total a b (neighbours-differ R.kind a b near))
    where
      m : IsMatched R f a
      m = matched a h

      same : m.0 ≡ b
      same = some_same _ _ (sym m.1 ∙ e)

      in_R : has R b ≡ true
      in_R = subst (λ c. has R c ≡ true) same m.2

      near : are_neighbours R.kind a b ≡ true
      near = subst (λ c. are_neighbours R.kind a c ≡ true) same m.3

      back : f b ≡ Some a
      back = subst (λ c. f c ≡ Some a) same m.4

      pair_same : (s : Tile) (c d : Cell) → s.first ≡ c → s.second ≡ d → s ≡ record { first = c; second = d }
      pair_same s c d p q = λ i. record { first = p i; second = q i }

      turned_pair : (s : Tile) (c d : Cell) → In s (tiles_by f R.cells) → s.first ≡ d → s.second ≡ c → cell_lt c d ≡ true → ⊥
      turned_pair s c d i p q l =
          let o : cell_lt s.first s.second ≡ true = (In-tiles_by f R.cells s i).2 in
          let o' : cell_lt d c ≡ true = subst (λ x. cell_lt x c ≡ true) p (subst (λ x. cell_lt s.first x ≡ true) q o) in
          cell_lt-irreflexive c (cell_lt-transitive c d c l o')

      go : (cell_lt a b ≡ true) ⊎ (cell_lt b a ≡ true) → (t : Tile) × Only (λ s. covers s a) (tiles_by f R.cells) t × (other_cell t a ≡ b)
      go (inl l) = (
        record { first = a; second = b },
        record {
          inside = tiles_by-In f R.cells a b (In-any a R.cells h) e l;
          passes = or_left _ _ (cell_eq-refl a);
          only = λ s i c. elim (covered a b s e i c) [ inl p ↦ pair_same s a b p.0 p.1 | inr p ↦ absurd (turned_pair s a b i p.0 p.1 l) ];
        },
        rw (cell_eq-refl a) refl,
      )
      go (inr l) = (
        record { first = b; second = a },
        record {
          inside = tiles_by-In f R.cells b a (In-any b R.cells in_R) back l;
          passes = or_right (cell_eq b a) _ (cell_eq-refl a);
          only = λ s i c. elim (covered a b s e i c) [ inl p ↦ absurd (turned_pair s b a i p.0 p.1 l) | inr p ↦ pair_same s b a p.0 p.1 ];
        },
        rw (other_not b) refl,
      )
        where
          other_not : (c : Cell) → cell_eq b a ≡ false
          other_not c = neighbours-differ R.kind b a (neighbours-back R.kind a b near)

  -- the tiles of the partners are a tiling
  pub tiles_by-tiling : is_tiling R (tiles_by f R.cells) ≡ true
  tiles_by-tiling =
      and_from _ _
      (and_from _ _ (tiles_by-linked f R.cells (cells-linked R placed)) (list_all-In (is_tile R) (tiles_by f R.cells) tile_of_R))
      (list_all-In (λ a. count_by (λ t. covers t a) (tiles_by f R.cells) == 1) R.cells covered_once)
    where
      tile_of_R : (t : Tile) → In t (tiles_by f R.cells) → is_tile R t ≡ true
      tile_of_R t i =
          let p : In t.first R.cells × (f t.first ≡ Some t.second) × (cell_lt t.first t.second ≡ true) = In-tiles_by f R.cells t i in
          let first : has R t.first ≡ true = In-has t.first R.cells p.0 in
          let (b, to, in_R, near, back) = matched t.first first in
          let same : b ≡ t.second = some_same _ _ (sym to ∙ p.1) in
          and_from _ _ (and_from _ _ (and_from _ _ first (subst (λ c. has R c ≡ true) same in_R)) p.2) (subst (λ c. are_neighbours R.kind t.first c ≡ true) same near)

      covered_once : (a : Cell) → In a R.cells → (count_by (λ t. covers t a) (tiles_by f R.cells) == 1) ≡ true
      covered_once a i =
          let h : has R a ≡ true = In-has a R.cells i in
          let (t, o, other) = stands_in_one a (matched a h).0 h (matched a h).1 in
          eq-eqb _ 1
          (count_by-only tile_lt tile_lt-irreflexive tile_lt-transitive (λ s. covers s a) (tiles_by f R.cells) t
          (tiles_by-linked f R.cells (cells-linked R placed)) o.inside o.passes o.only)

  -- and their partners are these
  pub partner-tiles_by : (a : Cell) → has R a ≡ true → partner (tiles_by f R.cells) a ≡ f a
  partner-tiles_by a h =
      let (t, o, other) = stands_in_one a (matched a h).0 h (matched a h).1 in
      ap (λ (x : Option Tile). option_map (λ s. other_cell s a) x) (find-only (λ s. covers s a) (tiles_by f R.cells) t o.inside o.passes o.only)
      ∙ (ap (λ (c : Cell). Some c) other ∙ sym (matched a h).1)
