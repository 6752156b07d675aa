-- Round a corner: the cells of its ring, and its left neighbour. A corner of a region is an inner corner, or a boundary
-- side begins there.
use Rattle.std.proofs.Common.{◌≡◌, ℕ, ◌+◌, ◌%◌, ◌⊎◌, inl, inr, Bool, true, false, List, [], ◌∷◌, cond, Option, Some, None, refl, sym, ◌∙◌, ap, subst, arith}
use Rattle.std.specs.List.{list_all}
use Rattle.std.proofs.lemmas.Bool.{and_parts, eqb-true}
use Rattle.tl_definitions.specs.declared.Kind.{Kind}
use Rattle.tl_definitions.specs.declared.Kind.TheVariants.{Square, Triangle}
use Rattle.tl_definitions.specs.declared.Cell.{Cell}
use Rattle.tl_definitions.specs.declared.Corner.{Corner}
use Rattle.tl_definitions.specs.Lattice.{corner, corner_eq, cell_at, cell_back, less, is_corner, is_dark, corners, ring, Side, side, sides, cell_width}
use Rattle.tl_definitions.specs.Region.{Region, has_at, boundary, is_corner_of, is_inner, is_step}
use Rattle.tl_lists.proofs.Members.{In, In-map, any-In, In-any_of}
use Rattle.tl_definitions.proofs.Corners.{corner-same, corner_eq-same, corner_eq-refl}
use Rattle.tl_definitions.proofs.InnerCorners.{inner_or_boundary, not_inner_and_boundary}
use Rattle.tl_definitions.proofs.Darts.{less-of, less-some, cell_at-some}
use Rattle.tl_closing.specs.Closing.{step_along, steps_round}
use Rattle.tl_closing.proofs.Sides.{dark-from, directed}
use Rattle.tl_closing.proofs.Edges.{has-In, round-corners, corner_of-from, corner_of-parts, corner-near, is_step-from}

-- a boundary side begins at the corner
abbrev pub BeginsAt : Region → Corner → Type 0
BeginsAt R v = (s : Side) × In s (boundary R) × (s.from ≡ v)

-- ---- the cells of a ring

-- a cell of the list lies so many rows up and columns left of the corner's own coordinates
abbrev pub HasBack : List Cell → Corner → ℕ → ℕ → Type 0
HasBack cells v rows columns = (a : Cell) × In a cells × (a.r + rows ≡ v.r) × (a.c + columns ≡ v.x)

-- each place of the ring has a cell of the list
abbrev pub HasRing : Kind → List Cell → Corner → Type 0
HasRing Square cells v = HasBack cells v 1 1 × HasBack cells v 1 0 × HasBack cells v 0 0 × HasBack cells v 0 1
HasRing Triangle cells v =
    HasBack cells v 1 2 × HasBack cells v 1 1 × HasBack cells v 1 0 × HasBack cells v 0 0 × HasBack cells v 0 1 × HasBack cells v 0 2

-- the sides of a triangle that points up, and of one that points down
abbrev pub up_sides : Cell → List Side
up_sides a =
    side a (corner a.r (a.c + 1)) (corner (a.r + 1) a.c) ∷ side a (corner (a.r + 1) a.c) (corner (a.r + 1) (a.c + 2))
    ∷ side a (corner (a.r + 1) (a.c + 2)) (corner a.r (a.c + 1)) ∷ []

abbrev pub down_sides : Cell → List Side
down_sides a =
    side a (corner a.r a.c) (corner (a.r + 1) (a.c + 1)) ∷ side a (corner (a.r + 1) (a.c + 1)) (corner a.r (a.c + 2))
    ∷ side a (corner a.r (a.c + 2)) (corner a.r a.c) ∷ []

pub among-up : (a : Cell) (s : Side) → is_dark a ≡ true → In s (up_sides a) → In s (sides Triangle a)
among-up a s dark i = subst (λ (t : Bool). In s (cond t (up_sides a) (down_sides a))) (sym dark) i

pub among-down : (a : Cell) (s : Side) → is_dark a ≡ false → In s (down_sides a) → In s (sides Triangle a)
among-down a s light i = subst (λ (t : Bool). In s (cond t (up_sides a) (down_sides a))) (sym light) i

-- ---- inner corners

pub back-is : (v : Corner) (rows columns : ℕ) (a : Cell) → a.r + rows ≡ v.r → a.c + columns ≡ v.x → cell_back v rows columns ≡ Some a
back-is v rows columns a row column =
    ap (λ (o : Option ℕ). cell_at o (less v.x columns)) (less-of v.r rows a.r (sym row)) ∙ ap (λ (o : Option ℕ). cell_at (Some a.r) o) (less-of v.x columns a.c (sym column))

has-back : (R : Region) (v : Corner) (rows columns : ℕ) → has_at R (cell_back v rows columns) ≡ true → HasBack R.cells v rows columns
has-back R v rows columns e = go (cell_back v rows columns) refl e
  where
    go : (o : Option Cell) → cell_back v rows columns ≡ o → has_at R o ≡ true → HasBack R.cells v rows columns
    go None f g = cc g
    go (Some a) f g =
        let p = cell_at-some (less v.r rows) (less v.x columns) a f in
        (a, has-In R a g, sym (less-some v.r rows a.r p.0), sym (less-some v.x columns a.c p.1))

-- A corner of a region is an inner corner, or a boundary side begins there.
pub inner-or-boundary : (R : Region) (v : Corner) → is_corner_of R v ≡ true → BeginsAt R v ⊎ (is_inner R v ≡ true)
inner-or-boundary R v e = go (corner_of-parts R v e)
  where
    begins : (s : Side) × In s (boundary R) × (corner_eq s.from v ≡ true) → BeginsAt R v
    begins (s, i, same) = (s, i, corner_eq-same s.from v same)

    go : (a : Cell) × In a R.cells × In v (corners R.kind a) → BeginsAt R v ⊎ (is_inner R v ≡ true)
    go (a, i, j) = elim (inner_or_boundary R v (corner-near R.kind a v j).2 e) [
      | inl inner ↦ inr inner
      | inr edge ↦ inl (begins (any-In (λ s. corner_eq s.from v) (boundary R) edge))
    ]

-- and never both
pub inner-off_boundary : (R : Region) (v : Corner) → is_inner R v ≡ true → (s : Side) → In s (boundary R) → s.from ≡ v → ⊥
inner-off_boundary R v inner s i from =
    not_inner_and_boundary R v inner
    (In-any_of (λ s. corner_eq s.from v) s (boundary R) i (subst (λ (u : Corner). corner_eq s.from u ≡ true) from (corner_eq-refl s.from)))

-- An inner corner has its whole ring.
pub inner-ring : (R : Region) (v : Corner) → is_inner R v ≡ true → HasRing R.kind R.cells v
inner-ring R v e = go R.kind (and_parts _ _ e).1
  where
    go : (k : Kind) → list_all (has_at R) (ring k v) ≡ true → HasRing k R.cells v
    go Square h =
        let p = and_parts (has_at R (cell_back v 1 1)) _ h in
        let q = and_parts (has_at R (cell_back v 1 0)) _ p.1 in
        let r = and_parts (has_at R (cell_back v 0 0)) _ q.1 in
        let s = and_parts (has_at R (cell_back v 0 1)) _ r.1 in
        (has-back R v 1 1 p.0, has-back R v 1 0 q.0, has-back R v 0 0 r.0, has-back R v 0 1 s.0)
    go Triangle h =
        let p = and_parts (has_at R (cell_back v 1 2)) _ h in
        let q = and_parts (has_at R (cell_back v 1 1)) _ p.1 in
        let r = and_parts (has_at R (cell_back v 1 0)) _ q.1 in
        let s = and_parts (has_at R (cell_back v 0 0)) _ r.1 in
        let t = and_parts (has_at R (cell_back v 0 1)) _ s.1 in
        let u = and_parts (has_at R (cell_back v 0 2)) _ t.1 in
        (has-back R v 1 2 p.0, has-back R v 1 1 q.0, has-back R v 1 0 r.0, has-back R v 0 0 s.0, has-back R v 0 1 t.0, has-back R v 0 2 u.0)

-- The left neighbour of an inner corner is a corner of the region, and a directed step joins the two.
pub record LeftNeighbour (R : Region) (v w : Corner) : Type 0 where
  pub row : w.r ≡ v.r
  pub column : w.x + cell_width R.kind ≡ v.x
  pub of_region : is_corner_of R w ≡ true
  pub joined : (is_step R w v ≡ true) ⊎ (is_step R v w ≡ true)

-- a side to the corner from its left neighbour
abbrev SideFromLeft : Kind → List Cell → Corner → Type 0
SideFromLeft k cells v = (a : Cell) × In a cells × ((w : Corner) × In (side a w v) (sides k a) × (w.r ≡ v.r) × (w.x + cell_width k ≡ v.x))

side-to : (a : Cell) (w u v : Corner) → u ≡ v → side a w v ≡ side a w u
side-to a w u v e = λ i. side a w (sym e i)

side-from-left : (k : Kind) (cells : List Cell) (v : Corner) → is_corner k v ≡ true → HasRing k cells v → SideFromLeft k cells v
side-from-left Square cells v odd ((a, i, row, column), p, q, r) =
    (a, i, (corner (a.r + 1) a.c, inr (inl (side-to a _ _ v (corner-same _ v row column))), row, column))
side-from-left Triangle cells v odd ((a, i, row, column), p, q, r, s, t) =
    let odd_sum : (v.r + v.x) % 2 ≡ 1 = eqb-true _ _ odd in
    let dark : is_dark a ≡ true = dark-from a (omega (arith, odd_sum, row, column)) in
    (a, i, (corner (a.r + 1) a.c, rw dark (inr (inl (side-to a _ _ v (corner-same _ v row column)))), row, column))

pub inner-left : (R : Region) (v : Corner) → is_inner R v ≡ true → (w : Corner) × LeftNeighbour R v w
inner-left R v e = go (side-from-left R.kind R.cells v (and_parts _ _ e).0 (inner-ring R v e))
  where
    with_side : (a : Cell) (w : Corner) → In a R.cells → In (side a w v) (sides R.kind a) → w.r ≡ v.r → w.x + cell_width R.kind ≡ v.x → LeftNeighbour R v w
    with_side a w i j row column = either (is_dark a) (In-map step_along (side a w v) (sides R.kind a) j)
      where
        either : (t : Bool) → In (directed t w v) (steps_round R.kind a) → LeftNeighbour R v w
        either true k = record {
          row = row;
          column = column;
          of_region = corner_of-from R a w i (round-corners R.kind a (w, v) k).0;
          joined = inl (is_step-from R a w v i k);
        }
        either false k = record {
          row = row;
          column = column;
          of_region = corner_of-from R a w i (round-corners R.kind a (v, w) k).1;
          joined = inr (is_step-from R a v w i k);
        }

    go : SideFromLeft R.kind R.cells v → (w : Corner) × LeftNeighbour R v w
    go (a, i, (w, j, row, column)) = (w, with_side a w i j row column)
