-- Heights of which one is changed: how far they are then from others. And a step that rises to a corner under a target
-- begins at an inner corner that is under it, too.
use Rattle.std.proofs.Common.{◌≡◌, ℕ, ◌+◌, ◌-◌, ◌*◌, ◌<◌, ◌⊎◌, inl, inr, Bool, true, false, List, length, get_or, refl, sym, ◌∙◌, subst, arith, ℤ, pos, negsuc, ◌+ℤ◌, ◌-ℤ◌, ◌*ℤ◌, ◌<ℤ◌, ◌≤ℤ◌}
use Rattle.std.specs.Prelude.{unsigned_abs, IsTrue}
use Rattle.std.proofs.lemmas.Bool.{cases_Bool}
use Rattle.std.proofs.lemmas.Int.{ints}
use Rattle.std.proofs.lemmas.List.{ext_get_or}
use Rattle.std.proofs.Math.ListN.{set}
use Rattle.tl_definitions.specs.declared.Corner.{Corner}
use Rattle.tl_definitions.specs.declared.Kind.{Kind}
use Rattle.tl_definitions.specs.declared.Kind.TheVariants.{Square, Triangle}
use Rattle.tl_definitions.specs.Lattice.{corner_eq, rise}
use Rattle.tl_definitions.specs.Region.{Region, is_corner_of, is_inner, is_step}
use Rattle.tl_definitions.specs.Accepted.{Accepted}
use Rattle.tl_definitions.specs.Heights.{height, AreHeightsOf, AreLawful}
use Rattle.tl_lists.specs.Lists.{put_at}
use Rattle.tl_lists.proofs.Puts.{put_at-one}
use Rattle.tl_definitions.proofs.Corners.{corner_eq-same}
use Rattle.tl_closing.specs.Changed.{IsChangedAt}
use Rattle.tl_closing.proofs.Stated.{place-within, put-changed, same-residue, step-ends}
use Rattle.tl_lawful.specs.HeightGap.{height_gap}
use Rattle.tl_lawful.proofs.Gaps.{gap-set}
use Rattle.tl_lawful.proofs.Numbers.{raised-nearer, lowered-nearer}
use Rattle.tl_lawful.proofs.OneFlip.{with_more}
use Rattle.tl_lawful.proofs.Places.{each-place}
use Rattle.tl_lawful.proofs.UnderTarget.{apart-inner}

module _ (R : Region) (a b others : List ℤ) (v : Corner) (more : ℤ) (accepted : Accepted R) (a_lawful : AreLawful R a) (b_lawful : AreLawful R b) (of_region : is_corner_of R v ≡ true) (changed : IsChangedAt R a others v more) where
  within : v.r * (R.columns + 2) + v.x < length a
  within = place-within R a v accepted.placed a_lawful.heights of_region

  put : IsChangedAt R a (with_more R a v more) v more
  put = put-changed R a v more accepted.placed a_lawful.heights of_region

  -- numbers are told by the heights
  changed-is : others ≡ set a (v.r * (R.columns + 2) + v.x) (height R a v +ℤ more)
  changed-is =
      ext_get_or (pos 0) others (with_more R a v more) (changed.heights.count ∙ sym put.heights.count)
      (λ k l. each-place R others (with_more R a v more) (λ y z. y ≡ z) changed.heights put.heights refl same k)
      ∙ put_at-one (v.r * (R.columns + 2) + v.x) (height R a v +ℤ more) a within
    where
      same : (w : Corner) → is_corner_of R w ≡ true → height R others w ≡ height R (with_more R a v more) w
      same w e = go (cases_Bool (corner_eq w v))
        where
          go : (corner_eq w v ≡ true) ⊎ (corner_eq w v ≡ false) → height R others w ≡ height R (with_more R a v more) w
          go (inl f) = subst (λ (u : Corner). height R others u ≡ height R (with_more R a v more) u) (sym (corner_eq-same w v f)) (changed.here ∙ sym put.here)
          go (inr f) = changed.elsewhere w e f ∙ sym (put.elsewhere w e f)

  changed-gap : height_gap others b + unsigned_abs (height R a v -ℤ height R b v) ≡ height_gap a b + unsigned_abs ((height R a v +ℤ more) -ℤ height R b v)
  changed-gap =
      subst (λ (c : List ℤ). height_gap c b + unsigned_abs (height R a v -ℤ height R b v) ≡ height_gap a b + unsigned_abs ((height R a v +ℤ more) -ℤ height R b v)) (sym changed-is)
      (gap-set a b (v.r * (R.columns + 2) + v.x) (height R a v +ℤ more) (a_lawful.heights.count ∙ sym b_lawful.heights.count) within)

module _ (R : Region) (a b others : List ℤ) (v : Corner) (accepted : Accepted R) (a_lawful : AreLawful R a) (b_lawful : AreLawful R b) (of_region : is_corner_of R v ≡ true) where
  sums : (g g' d d' m : ℕ) → g' + d ≡ g + d' → d' + m ≡ d → g' + m ≡ g
  sums g g' d d' m e l = omega (arith, e, l)

  -- a height raised under the target, or lowered over it, takes the rise off the gap
  pub raised-gap : IsChangedAt R a others v (pos (rise R.kind)) → height R a v <ℤ height R b v → height_gap others b + rise R.kind ≡ height_gap a b
  raised-gap changed under =
      let (j, e) = same-residue R a b accepted a_lawful b_lawful v of_region in
      sums (height_gap a b) (height_gap others b) (unsigned_abs (height R a v -ℤ height R b v)) (unsigned_abs ((height R a v +ℤ pos (rise R.kind)) -ℤ height R b v)) (rise R.kind)
      (changed-gap R a b others v (pos (rise R.kind)) accepted a_lawful b_lawful of_region changed)
      (raised-nearer R.kind (height R a v) (height R b v) j e under)

  pub lowered-gap : IsChangedAt R a others v (negsuc (rise R.kind - 1)) → height R b v <ℤ height R a v → height_gap others b + rise R.kind ≡ height_gap a b
  lowered-gap changed over =
      let (j, e) = same-residue R a b accepted a_lawful b_lawful v of_region in
      sums (height_gap a b) (height_gap others b) (unsigned_abs (height R a v -ℤ height R b v)) (unsigned_abs ((height R a v +ℤ negsuc (rise R.kind - 1)) -ℤ height R b v)) (rise R.kind)
      (changed-gap R a b others v (negsuc (rise R.kind - 1)) accepted a_lawful b_lawful of_region changed)
      (lowered-nearer R.kind (height R a v) (height R b v) j e over)

-- the heights rise along the step, so it joins two corners of which the first is under as well
module _ (R : Region) (a b : List ℤ) (u v : Corner) (accepted : Accepted R) (a_lawful : AreLawful R a) (b_lawful : AreLawful R b) (step : IsTrue (is_step R u v)) (rises : height R a v ≡ height R a u +ℤ pos 1) where
  pub source-under : height R a v <ℤ height R b v → (is_inner R u ≡ true) × (height R a u <ℤ height R b u)
  source-under under =
      let most = b_lawful.least u v step in
      let also : height R a u <ℤ height R b u = omega (arith, ints, rises, under, most) in
      (apart-inner R a b accepted a_lawful b_lawful u (step-ends R u v step).0 (λ same. omega (arith, ints, also, same)), also)

  pub end-over : height R b u <ℤ height R a u → (is_inner R v ≡ true) × (height R b v <ℤ height R a v)
  end-over over =
      let most = b_lawful.least u v step in
      let also : height R b v <ℤ height R a v = omega (arith, ints, rises, over, most) in
      (apart-inner R a b accepted a_lawful b_lawful v (step-ends R u v step).1 (λ same. omega (arith, ints, also, same)), also)

-- a height short of the target is short of it by the rise at least
pub rise-fits : (R : Region) (a b : List ℤ) (v : Corner) → Accepted R → AreLawful R a → AreLawful R b → is_corner_of R v ≡ true
    → (height R a v <ℤ height R b v → (height R a v +ℤ pos (rise R.kind)) ≤ℤ height R b v)
    × (height R b v <ℤ height R a v → height R b v ≤ℤ (height R a v +ℤ negsuc (rise R.kind - 1)))
rise-fits R a b v accepted a_lawful b_lawful of_region =
    let (j, e) = same-residue R a b accepted a_lawful b_lawful v of_region in
    (up R.kind (height R a v) (height R b v) j e, down R.kind (height R a v) (height R b v) j e)
  where
    up : (k : Kind) (x y j : ℤ) → y ≡ x +ℤ (pos (rise k) *ℤ j) → x <ℤ y → (x +ℤ pos (rise k)) ≤ℤ y
    up Square x y j e l = omega (arith, ints, e, l)
    up Triangle x y j e l = omega (arith, ints, e, l)

    down : (k : Kind) (x y j : ℤ) → y ≡ x +ℤ (pos (rise k) *ℤ j) → y <ℤ x → y ≤ℤ (x +ℤ negsuc (rise k - 1))
    down Square x y j e l = omega (arith, ints, e, l)
    down Triangle x y j e l = omega (arith, ints, e, l)
