-- Inner corners: where they lie, and the number of each.
use Rattle.std.proofs.Common.{◌≡◌, ℕ, zero, suc, ◌+◌, ◌-◌, ◌<◌, ◌≤◌, ◌⊎◌, inl, inr, Bool, true, false, ◌&&◌, List, [], ◌∷◌, refl, sym, ◌∙◌, ap, subst, arith, Option, Some}
use Rattle.std.specs.Prelude.{filter, nat_lt, slice_get, position, is_some}
use Rattle.std.specs.List.{list_any, list_all, position_or_len}
use Rattle.std.proofs.lemmas.Bool.{and_parts, or_left, or_right, cases_Bool, false_from_ne_true, lt-ltb, le-ltb, cases_lt}
use Rattle.std.proofs.lemmas.Map.Views.{any-filter_same}
use Rattle.tl_definitions.specs.declared.Kind.{Kind}
use Rattle.tl_definitions.specs.declared.Kind.TheVariants.{Square, Triangle}
use Rattle.tl_definitions.specs.declared.Corner.{Corner}
use Rattle.tl_definitions.specs.Lattice.{cell, corner_eq, corner_lt, is_corner, cell_back, ring}
use Rattle.tl_definitions.specs.Region.{Region, has, has_at, corner_places, is_inner, inner_corners, corner_rows}
use Rattle.tl_definitions.specs.Accepted.{IsPlaced}
use Rattle.tl_lists.specs.Lists.{linked}
use Rattle.tl_lists.proofs.Orders.{later, linked-tail, linked-filter}
use Rattle.tl_lists.proofs.Members.{slice_get-In, In-filter_parts}
use Rattle.tl_definitions.proofs.Regions.{has-within}
use Rattle.tl_lists.proofs.Tests.{same_test}
use Rattle.tl_definitions.proofs.CornerRows.{any-corner_rows, corner_rows-linked}
use Rattle.tl_definitions.proofs.Corners.{corner_lt-irreflexive, corner_lt-transitive, corner_eq-same, corner_eq-refl}
use Rattle.tl_lists.proofs.Positions.{filter-filter, position-some, position-missing}

-- ---- where they lie

-- a place of the ring with a cell of the region
back-there : (R : Region) (v : Corner) (rows columns : ℕ) → IsPlaced R → has_at R (cell_back v rows columns) ≡ true
    → (rows ≤ v.r) × (columns ≤ v.x) × (v.r - rows < R.rows) × (v.x - columns < R.columns)
back-there R v rows columns placed e = go (cases_lt v.r rows) (cases_lt v.x columns)
  where
    go : (v.r < rows) ⊎ (rows ≤ v.r) → (v.x < columns) ⊎ (columns ≤ v.x) → (rows ≤ v.r) × (columns ≤ v.x) × (v.r - rows < R.rows) × (v.x - columns < R.columns)
    go (inl h) k = cc (rw (lt-ltb v.r rows h) at e)
    go (inr h) (inl k) = cc (rw (le-ltb v.r rows h, lt-ltb v.x columns k) at e)
    go (inr h) (inr k) =
        let inside : has R (cell (v.r - rows) (v.x - columns)) ≡ true = rw (le-ltb v.r rows h, le-ltb v.x columns k) at e in
        let p : (v.r - rows < R.rows) × (v.x - columns < R.columns) = has-within R (cell (v.r - rows) (v.x - columns)) placed inside in
        (h, k, p.0, p.1)

-- An inner corner lies between the cells: its row and its column are among theirs, and neither is the first.
pub record IsAmongCells (R : Region) (v : Corner) : Type 0 where
  pub below_first_row : 1 ≤ v.r
  pub row : v.r < R.rows
  pub right_of_first_column : 1 ≤ v.x
  pub column : v.x < R.columns

among : (R : Region) (k : Kind) (v : Corner) → IsPlaced R → list_all (has_at R) (ring k v) ≡ true → IsAmongCells R v
among R Square v placed e =
    let p : (has_at R (cell_back v 1 1) ≡ true) × (list_all (has_at R) (cell_back v 1 0 ∷ cell_back v 0 0 ∷ cell_back v 0 1 ∷ []) ≡ true) = and_parts _ _ e in
    let q : (has_at R (cell_back v 1 0) ≡ true) × (list_all (has_at R) (cell_back v 0 0 ∷ cell_back v 0 1 ∷ []) ≡ true) = and_parts _ _ p.1 in
    let s : (has_at R (cell_back v 0 0) ≡ true) × (list_all (has_at R) (cell_back v 0 1 ∷ []) ≡ true) = and_parts _ _ q.1 in
    let first = back-there R v 1 1 placed p.0 in
    let last = back-there R v 0 0 placed s.0 in
    record { below_first_row = first.0; row = omega (arith, last.2); right_of_first_column = first.1; column = omega (arith, last.3) }
among R Triangle v placed e =
    let p : (has_at R (cell_back v 1 2) ≡ true) × (list_all (has_at R) (cell_back v 1 1 ∷ cell_back v 1 0 ∷ cell_back v 0 0 ∷ cell_back v 0 1 ∷ cell_back v 0 2 ∷ []) ≡ true) = and_parts _ _ e in
    let q : (has_at R (cell_back v 1 1) ≡ true) × (list_all (has_at R) (cell_back v 1 0 ∷ cell_back v 0 0 ∷ cell_back v 0 1 ∷ cell_back v 0 2 ∷ []) ≡ true) = and_parts _ _ p.1 in
    let s : (has_at R (cell_back v 1 0) ≡ true) × (list_all (has_at R) (cell_back v 0 0 ∷ cell_back v 0 1 ∷ cell_back v 0 2 ∷ []) ≡ true) = and_parts _ _ q.1 in
    let t : (has_at R (cell_back v 0 0) ≡ true) × (list_all (has_at R) (cell_back v 0 1 ∷ cell_back v 0 2 ∷ []) ≡ true) = and_parts _ _ s.1 in
    let first = back-there R v 1 1 placed q.0 in
    let last = back-there R v 0 0 placed t.0 in
    record { below_first_row = first.0; row = omega (arith, last.2); right_of_first_column = first.1; column = omega (arith, last.3) }

pub inner-among : (R : Region) (v : Corner) → IsPlaced R → is_inner R v ≡ true → IsAmongCells R v
inner-among R v placed e = among R R.kind v placed (and_parts _ _ e).1

-- ---- which corners are listed

-- the inner corners, of all corners in raster order
pub inner_corners-rows : (R : Region) → inner_corners R ≡ filter (is_inner R) (corner_rows (R.columns + 2) (R.rows + 1))
inner_corners-rows R = filter-filter (is_inner R) (is_corner R.kind) (λ v e. (and_parts _ _ e).0) (corner_rows (R.columns + 2) (R.rows + 1))

-- every inner corner is one of them
pub any-inner_corners : (R : Region) (v : Corner) → IsPlaced R → list_any (corner_eq v) (inner_corners R) ≡ is_inner R v
any-inner_corners R v placed =
    ap (list_any (corner_eq v)) (inner_corners-rows R)
    ∙ any-filter_same (corner_eq v) (is_inner R) (is_inner R v) (λ u e. ap (is_inner R) (sym (corner_eq-same v u e))) (corner_rows (R.columns + 2) (R.rows + 1))
    ∙ ap (λ (t : Bool). is_inner R v && t) (any-corner_rows v (R.columns + 2) (R.rows + 1))
    ∙ same_test _ _ (λ e. (and_parts _ _ e).0) back
  where
    back : is_inner R v ≡ true → (is_inner R v && (nat_lt v.r (R.rows + 1) && nat_lt v.x (R.columns + 2))) ≡ true
    back e =
        let p = inner-among R v placed e in
        rw (e, lt-ltb v.r (R.rows + 1) (omega (arith, p.row)), lt-ltb v.x (R.columns + 2) (omega (arith, p.column))) refl

-- ---- their numbers

pub inner_corners-linked : (R : Region) → linked corner_lt (inner_corners R) ≡ true
inner_corners-linked R =
    ap (linked corner_lt) (inner_corners-rows R)
    ∙ linked-filter corner_lt corner_lt-irreflexive corner_lt-transitive (is_inner R) (corner_rows (R.columns + 2) (R.rows + 1)) (corner_rows-linked (R.columns + 2) (R.rows + 1))

number-linked : (vs : List Corner) (n : ℕ) (v : Corner) → linked corner_lt vs ≡ true → slice_get vs n ≡ Some v
    → (list_any (corner_eq v) vs ≡ true) × (position_or_len (corner_eq v) vs ≡ n)
number-linked [] zero v l e = cc e
number-linked [] (suc n) v l e = cc e
number-linked (u ∷ us) zero v l e =
    let u_is : u ≡ v = cc e in
    let same : corner_eq v u ≡ true = ap (corner_eq v) u_is ∙ corner_eq-refl v in
    (or_left (corner_eq v u) _ same, rw same refl)
number-linked (u ∷ us) (suc n) v l e =
    let rest = number-linked us n v (linked-tail corner_lt corner_lt-irreflexive corner_lt-transitive u us l) e in
    let above : corner_lt u v ≡ true = later corner_lt corner_lt-irreflexive corner_lt-transitive u us v l (slice_get-In us n v e) in
    let differ : corner_eq v u ≡ false = false_from_ne_true _ (λ t. corner_lt-irreflexive v (subst (λ w. corner_lt w v ≡ true) (sym (corner_eq-same v u t)) above)) in
    (or_right (corner_eq v u) _ rest.0, rw differ (omega (arith, rest.1)))

-- and no other number is its number
pub inner-number : (R : Region) (v : Corner) (n : ℕ) → slice_get (inner_corners R) n ≡ Some v → position (corner_eq v) (inner_corners R) ≡ Some n
inner-number R v n e =
    let p = number-linked (inner_corners R) n v (inner_corners-linked R) e in
    position-some (corner_eq v) (inner_corners R) p.0 ∙ ap (λ (i : ℕ). Some i) p.1

-- what stands in the list is an inner corner
pub inner-at : (R : Region) (v : Corner) (n : ℕ) → slice_get (inner_corners R) n ≡ Some v → is_inner R v ≡ true
inner-at R v n e = (In-filter_parts (is_inner R) v (corner_places R) (slice_get-In (inner_corners R) n v e)).1

-- A pair has a number exactly where it is an inner corner.
pub is_some-number : (R : Region) (v : Corner) → IsPlaced R → is_some (position (corner_eq v) (inner_corners R)) ≡ is_inner R v
is_some-number R v placed = go (cases_Bool (list_any (corner_eq v) (inner_corners R)))
  where
    go : (list_any (corner_eq v) (inner_corners R) ≡ true) ⊎ (list_any (corner_eq v) (inner_corners R) ≡ false) → is_some (position (corner_eq v) (inner_corners R)) ≡ is_inner R v
    go (inl h) = ap (λ (o : Option ℕ). is_some o) (position-some (corner_eq v) (inner_corners R) h) ∙ sym h ∙ any-inner_corners R v placed
    go (inr h) = ap (λ (o : Option ℕ). is_some o) (position-missing (corner_eq v) (inner_corners R) h) ∙ sym h ∙ any-inner_corners R v placed
