-- Steps at the same corners with the same bits keep the order of heights.
use Rattle.std.proofs.Common.{◌≡◌, ℕ, ◌+◌, ◌*◌, ◌/◌, ◌%◌, ◌<◌, ◌≤◌, ◌⊎◌, inl, inr, Bool, true, false, ◌&&◌, List, map, get_or, Some, refl, sym, ◌∙◌, subst, arith, ℤ, pos, ◌≤ℤ◌}
use Rattle.std.specs.Prelude.{slice_get}
use Rattle.std.proofs.Math.Nat.{div-lt_iff_lt-mul}
use Rattle.std.proofs.lemmas.Bool.{and_parts, cases_lt, cases_Bool, lt-ltb, and_from}
use Rattle.std.proofs.lemmas.Int.{ints}
use Rattle.std.proofs.lemmas.List.{get_or_past, map-id}
use Rattle.std.proofs.lemmas.Nat.{div-add-mod', mod_below}
use Rattle.tl_definitions.specs.declared.Corner.{Corner}
use Rattle.tl_definitions.specs.Lattice.{corner}
use Rattle.tl_definitions.specs.Region.{Region, corner_rows, inner_corners, is_corner_of, is_inner}
use Rattle.tl_definitions.specs.Heights.{height, height_count}
use Rattle.tl_definitions.proofs.CornerRows.{any-corner_rows}
use Rattle.tl_definitions.proofs.InnerNumbers.{inner_corners-rows}
use Rattle.tl_definitions.proofs.Walks.{corner-In}
use Rattle.tl_lists.proofs.Members.{In, In-filter, In-slice_get}
use Rattle.tl_lawful.specs.Order.{LieBelow}
use Rattle.tl_steps.specs.Stepping.{AreSwept, stepped_height}
use Rattle.tl_steps.proofs.Read.{beside-corner, stepped-below}

-- an inner corner within the rows and the columns has a number
numbered : (R : Region) (v : Corner) → is_inner R v ≡ true → v.r < R.rows + 1 → v.x < R.columns + 2 → (i : ℕ) × (slice_get (inner_corners R) i ≡ Some v)
numbered R v inner row column = go (In-slice_get (λ (u : Corner). u) v (inner_corners R) among)
  where
    place : In v (corner_rows (R.columns + 2) (R.rows + 1))
    place =
        corner-In v (corner_rows (R.columns + 2) (R.rows + 1))
        (any-corner_rows v (R.columns + 2) (R.rows + 1) ∙ and_from _ _ (lt-ltb v.r (R.rows + 1) row) (lt-ltb v.x (R.columns + 2) column))

    among : In v (inner_corners R)
    among = subst (λ (us : List Corner). In v us) (sym (inner_corners-rows R)) (In-filter (is_inner R) v (corner_rows (R.columns + 2) (R.rows + 1)) inner place)

    go : (i : ℕ) × (slice_get (map (λ (u : Corner). u) (inner_corners R)) i ≡ Some v) → (i : ℕ) × (slice_get (inner_corners R) i ≡ Some v)
    go (i, e) = (i, subst (λ (us : List Corner). slice_get us i ≡ Some v) (map-id (inner_corners R)) e)

same-below : (x y x' y' : ℤ) → x' ≡ x → y' ≡ y → x ≤ℤ y → x' ≤ℤ y'
same-below x y x' y' e f l = omega (arith, ints, e, f, l)

module _ (R : Region) (a b a' b' : List ℤ) (bits : ℕ → Bool) (some : Corner → Bool) (below : LieBelow R a b) (swept_a : AreSwept R a a' bits some) (swept_b : AreSwept R b b' bits some) where
  at-corner : (v : Corner) → v.r < R.rows + 1 → v.x < R.columns + 2 → is_corner_of R v ≡ true → height R a' v ≤ℤ height R b' v
  at-corner v row column of_region = go (is_inner R v && some v) refl
    where
      stepped : (i : ℕ) → slice_get (inner_corners R) i ≡ Some v → is_inner R v ≡ true → some v ≡ true → height R a' v ≤ℤ height R b' v
      stepped i e inner h =
          same-below (stepped_height R a v (bits i)) (stepped_height R b v (bits i)) (height R a' v) (height R b' v) (swept_a.stepped i v e h) (swept_b.stepped i v e h)
          (stepped-below R a b v (bits i) (λ u beside. below u (beside-corner R v u inner beside)))

      go : (t : Bool) → (is_inner R v && some v) ≡ t → height R a' v ≤ℤ height R b' v
      go true e = let p = and_parts (is_inner R v) (some v) e in let (i, f) = numbered R v p.0 row column in stepped i f p.0 p.1
      go false e = same-below (height R a v) (height R b v) (height R a' v) (height R b' v) (swept_a.kept v of_region e) (swept_b.kept v of_region e) (below v of_region)

  at-place : (v : Corner) → v.r < R.rows + 1 → v.x < R.columns + 2 → height R a' v ≤ℤ height R b' v
  at-place v row column = go (cases_Bool (is_corner_of R v))
    where
      go : (is_corner_of R v ≡ true) ⊎ (is_corner_of R v ≡ false) → height R a' v ≤ℤ height R b' v
      go (inl e) = at-corner v row column e
      go (inr e) =
          same-below (pos 0) (pos 0) (height R a' v) (height R b' v) (swept_a.heights.elsewhere v column e) (swept_b.heights.elsewhere v column e) (omega (arith, ints))

  -- Whatever pair it is, its number stands at a place within the rows and the columns, or past the end.
  pub swept-below : LieBelow R a' b'
  swept-below v of_region = go (cases_lt place (height_count R))
    where
      place : ℕ
      place = v.r * (R.columns + 2) + v.x

      go : (place < height_count R) ⊎ (height_count R ≤ place) → height R a' v ≤ℤ height R b' v
      go (inl within) =
          subst (λ (n : ℕ). get_or a' n (pos 0) ≤ℤ get_or b' n (pos 0)) (div-add-mod' place (R.columns + 2))
          (at-place (corner (place / (R.columns + 2)) (place % (R.columns + 2))) ((div-lt_iff_lt-mul (omega arith)).1 within) (mod_below place (R.columns + 2) (omega arith)))
      go (inr past) =
          same-below (pos 0) (pos 0) (height R a' v) (height R b' v) (get_or_past a' place (pos 0) (subst (λ (n : ℕ). n ≤ place) (sym swept_a.heights.count) past))
          (get_or_past b' place (pos 0) (subst (λ (n : ℕ). n ≤ place) (sym swept_b.heights.count) past)) (omega (arith, ints))
