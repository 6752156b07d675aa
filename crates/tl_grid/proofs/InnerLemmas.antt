-- The inner corners as a rising list of places.
use Rattle.std.proofs.Common.{◌≡◌, ℕ, zero, suc, ◌+◌, ◌*◌, ◌/◌, ◌%◌, ◌<◌, ◌≤◌, inl, inr, true, List, [], ◌∷◌, map, length, Some, None, Ok, Err, refl, sym, ◌∙◌, ap, arith, get_or, nat_cmp}
use Rattle.std.specs.Prelude.{position, slice_get}
use Rattle.std.specs.List.Sorted.{IsBinarySearchResult}
use Rattle.std.specs.declared.result.Result.{Result}
use Rattle.std.specs.Result.{MatchResult}
use Rattle.std.proofs.lemmas.Bool.{false_from_ne_true, cases_lt}
use Rattle.std.proofs.lemmas.List.{get_or-map, length-map}
use Rattle.std.proofs.lemmas.List.Sorted.{searched}
use Rattle.std.proofs.lemmas.List.Sums.{length-filter, count_by-le-length}
use Rattle.std.proofs.lemmas.Nat.{mul-add-lt, mod_below, div-add-mod'}
use Rattle.std.proofs.lemmas.Option.{slice_get-get_or, slice_get_within, get_or_from_slice_get}
use Rattle.std.proofs.Math.Nat.{mul_comm, mul-le-mul}
use Rattle.tl_definitions.specs.declared.Corner.{Corner}
use Rattle.tl_definitions.specs.declared.TheConstants.{SIDE_LIMIT}
use Rattle.tl_definitions.specs.Lattice.{corner, corner_eq, corner_lt}
use Rattle.tl_definitions.specs.Limits.{most_corners}
use Rattle.tl_definitions.specs.Region.{Region, corner_places, is_inner, inner_corners, corner_rows}
use Rattle.tl_definitions.proofs.Corners.{same_place, corner_eq-same, corner_lt-cases, corner_lt-irreflexive, corner_lt-transitive}
use Rattle.tl_definitions.proofs.CornerRows.{length-corner_rows}
use Rattle.tl_definitions.proofs.InnerNumbers.{IsAmongCells, inner-among, inner-at, inner-number, inner_corners-rows, inner_corners-linked, any-inner_corners}
use Rattle.tl_lists.specs.Lists.{linked}
use Rattle.tl_lists.proofs.Members.{In, any-In, In-slice_get, slice_get-In, In-filter_parts}
use Rattle.tl_lists.proofs.Orders.{later, linked-tail}
use Rattle.tl_lists.proofs.Positions.{position-missing}
use Rattle.tl_grid.specs.Grid.{IsGrid}
use Rattle.tl_grid.specs.Survey.{place_in, inner_places}

-- ---- they rise

place-less : (w : ℕ) (u v : Corner) → u.x < w → corner_lt u v ≡ true → place_in w u < place_in w v
place-less w u v h e = elim (corner_lt-cases u v e) [
  | inl k ↦ omega (arith, mul-add-lt u.r w u.x v.r k h, mul_comm w v.r)
  | inr k ↦ omega (arith, ap (λ (n : ℕ). n * w) k.0, k.1)
]

places-rise : (w : ℕ) (vs : List Corner) → linked corner_lt vs ≡ true → ((v : Corner) → In v vs → v.x < w)
    → (i j : ℕ) → i ≤ j → j < length (map (place_in w) vs) → get_or (map (place_in w) vs) i 0 ≤ get_or (map (place_in w) vs) j 0
places-rise w [] l f i j h k = absurd (omega (arith, k))
places-rise w (v ∷ vs) l f zero zero h k = omega arith
places-rise w (v ∷ vs) l f (suc i) zero h k = absurd (omega (arith, h))
places-rise w (v ∷ vs) l f zero (suc j) h k =
    let room : j < length vs = omega (arith, k, length-map vs (place_in w)) in
    let among : In (get_or vs j v) vs = slice_get-In vs j (get_or vs j v) (slice_get-get_or vs j v room) in
    omega (arith, get_or-map (place_in w) vs j v 0 room, place-less w v (get_or vs j v) (f v (inl refl)) (later corner_lt corner_lt-irreflexive corner_lt-transitive v vs (get_or vs j v) l among))
places-rise w (v ∷ vs) l f (suc i) (suc j) h k =
    places-rise w vs (linked-tail corner_lt corner_lt-irreflexive corner_lt-transitive v vs l) (λ u q. f u (inr q)) i j (omega (arith, h)) (omega (arith, k))

-- ---- a number and its place

module _ (R : Region) (is_grid : IsGrid R) where
  abbrev width : ℕ
  width = R.columns + 2

  column : (v : Corner) → is_inner R v ≡ true → v.x < width
  column v e = let p = inner-among R v is_grid.placed e in omega (arith, p.column)

  rise : (i j : ℕ) → i ≤ j → j < length (inner_places R) → get_or (inner_places R) i 0 ≤ get_or (inner_places R) j 0
  rise = places-rise width (inner_corners R) (inner_corners-linked R) (λ v i. column v (In-filter_parts (is_inner R) v (corner_places R) i).1)

  -- the place tells the corner
  at-place : (v : Corner) (n : ℕ) → n < length (inner_corners R) → v.x < width → get_or (inner_places R) n 0 ≡ place_in width v → slice_get (inner_corners R) n ≡ Some v
  at-place v n h k e =
      let u = get_or (inner_corners R) n v in
      let at = slice_get-get_or (inner_corners R) n v h in
      at ∙ ap (λ (w : Corner). Some w)
      (same_place u v width (column u (inner-at R u n at)) k (sym (get_or-map (place_in width) (inner_corners R) n v 0 h) ∙ e))

  pub inner-at_place : (n : ℕ) → n < length (inner_corners R)
      → slice_get (inner_corners R) n ≡ Some (corner (get_or (inner_places R) n 0 / (R.columns + 2)) (get_or (inner_places R) n 0 % (R.columns + 2)))
  inner-at_place n h = at-place _ n h (mod_below _ width (omega arith)) (sym (div-add-mod' (get_or (inner_places R) n 0) width))

  -- what a search for a corner's place tells
  pub number-searched : (v : Corner) (r : Result ℕ ℕ) → v.x < R.columns + 2 → IsBinarySearchResult (λ y. nat_cmp y (place_in (R.columns + 2) v)) (inner_places R) r
      → MatchResult r (λ n. Some n ≡ position (corner_eq v) (inner_corners R)) (λ n. None ≡ position (corner_eq v) (inner_corners R))
  number-searched v (Ok n) k s =
      let p = searched (inner_places R) (place_in width v) (Ok n) s rise in
      sym (inner-number R v n (at-place v n (omega (arith, p.0, length-map (inner_corners R) (place_in width))) k p.1))
  number-searched v (Err n) k s =
      let p = searched (inner_places R) (place_in width v) (Err n) s rise in
      sym (position-missing (corner_eq v) (inner_corners R) (false_from_ne_true _ (λ e.
      let (u, among, same) = any-In (corner_eq v) (inner_corners R) e in
      let (k, at) = In-slice_get (place_in width) u (inner_corners R) among in
      let here = get_or_from_slice_get (inner_places R) k (place_in width u) 0 at ∙ ap (place_in width) (sym (corner_eq-same v u same)) in
      elim (cases_lt k n) [
        | inl l ↦ omega (arith, here, p.1 k l)
        | inr l ↦ omega (arith, here, p.2 k l (slice_get_within (inner_places R) k _ at))
      ])))

  pub missing-outside : (v : Corner) → (IsAmongCells R v → ⊥) → None ≡ position (corner_eq v) (inner_corners R)
  missing-outside v out =
      sym (position-missing (corner_eq v) (inner_corners R) (any-inner_corners R v is_grid.placed ∙ false_from_ne_true _ (λ e. out (inner-among R v is_grid.placed e))))

  pub few_inner : length (inner_places R) ≤ most_corners
  few_inner =
      let rows : R.rows + 1 ≤ SIDE_LIMIT + 1 = omega (arith, is_grid.rows_within) in
      let columns : R.columns + 2 ≤ SIDE_LIMIT + 2 = omega (arith, is_grid.columns_within) in
      omega (arith, length-map (inner_corners R) (place_in width), ap length (inner_corners-rows R), length-filter (is_inner R) (corner_rows width (R.rows + 1)), count_by-le-length (is_inner R) (corner_rows width (R.rows + 1)), length-corner_rows width (R.rows + 1), mul-le-mul rows columns)
