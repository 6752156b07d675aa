-- Heights of one region, place by place: what holds at each corner of the region and of two zeros holds at each place.
use Rattle.std.proofs.Common.{◌≡◌, ℕ, ◌+◌, ◌*◌, ◌/◌, ◌%◌, ◌<◌, ◌≤◌, ◌⊎◌, inl, inr, Bool, true, false, List, get_or, refl, sym, ◌∙◌, subst, arith, ℤ, pos, ◌-ℤ◌, ◌<ℤ◌, int_lt, ◌||◌, length}
use Rattle.std.proofs.lemmas.Bool.{cases_Bool, or_cases}
use Rattle.std.proofs.lemmas.Int.{ints}
use Rattle.std.specs.Prelude.{unsigned_abs}
use Rattle.std.specs.List.{list_any}
use Rattle.std.proofs.lemmas.Nat.{div-add-mod', mod_below}
use Rattle.tl_definitions.specs.declared.Corner.{Corner}
use Rattle.tl_definitions.specs.Lattice.{corner, rise}
use Rattle.tl_definitions.specs.Region.{Region, corner_places, is_corner_of}
use Rattle.tl_definitions.specs.Accepted.{Accepted}
use Rattle.tl_definitions.specs.Heights.{height, AreHeightsOf, AreLawful}
use Rattle.tl_lists.proofs.Members.{In-any_of, In-filter_parts, any-In}
use Rattle.tl_closing.proofs.Stated.{In-vertices, lt-true, place-within, same-residue, vertices}
use Rattle.tl_lawful.specs.HeightGap.{height_gap}
use Rattle.tl_lawful.proofs.Gaps.{IsMultiple, apart-gap, gap-multiple, gap-none}
use Rattle.tl_lawful.proofs.Numbers.{apart-multiple, apart-same, same-apart}

pub each-place : (R : Region) (a b : List ℤ) (P : ℤ → ℤ → Type 0) → AreHeightsOf R a → AreHeightsOf R b → P (pos 0) (pos 0)
    → ((v : Corner) → is_corner_of R v ≡ true → P (height R a v) (height R b v)) → (k : ℕ) → P (get_or a k (pos 0)) (get_or b k (pos 0))
each-place R a b P p q zeros corners k =
    subst (λ (n : ℕ). P (get_or a n (pos 0)) (get_or b n (pos 0))) (div-add-mod' k (R.columns + 2))
    (at (corner (k / (R.columns + 2)) (k % (R.columns + 2))) (mod_below k (R.columns + 2) (omega arith)) (cases_Bool (is_corner_of R (corner (k / (R.columns + 2)) (k % (R.columns + 2))))))
  where
    at : (v : Corner) → v.x < R.columns + 2 → (is_corner_of R v ≡ true) ⊎ (is_corner_of R v ≡ false) → P (height R a v) (height R b v)
    at v l (inl e) = corners v e
    at v l (inr e) =
        subst (λ (y : ℤ). P y (height R b v)) (sym (p.elsewhere v l e)) (subst (λ (z : ℤ). P (pos 0) z) (sym (q.elsewhere v l e)) zeros)

module _ (R : Region) (a b : List ℤ) (accepted : Accepted R) (a_lawful : AreLawful R a) (b_lawful : AreLawful R b) where
  same-length : length a ≡ length b
  same-length = a_lawful.heights.count ∙ sym b_lawful.heights.count

  -- lawful heights are a multiple of the rise apart
  pub lawful-multiple : IsMultiple (rise R.kind) (height_gap a b)
  lawful-multiple =
      gap-multiple (rise R.kind) a b same-length
      (each-place R a b (λ y z. IsMultiple (rise R.kind) (unsigned_abs (y -ℤ z))) a_lawful.heights b_lawful.heights (0, omega arith) corners)
    where
      corners : (v : Corner) → is_corner_of R v ≡ true → IsMultiple (rise R.kind) (unsigned_abs (height R a v -ℤ height R b v))
      corners v e =
          let (j, f) = same-residue R a b accepted a_lawful b_lawful v e in
          (unsigned_abs j, apart-multiple R.kind (height R a v) (height R b v) j f)

  -- heights that agree at the corners have no gap
  pub agreeing-gap : ((v : Corner) → is_corner_of R v ≡ true → height R a v ≡ height R b v) → height_gap a b ≡ 0
  agreeing-gap agree =
      gap-none a b same-length
      (each-place R a b (λ y z. unsigned_abs (y -ℤ z) ≡ 0) a_lawful.heights b_lawful.heights refl
      (λ v e. same-apart (height R a v) (height R b v) (agree v e)))

  -- and heights with no gap agree at the corners
  pub gap-agreeing : height_gap a b ≡ 0 → (v : Corner) → is_corner_of R v ≡ true → height R a v ≡ height R b v
  gap-agreeing none v e =
      let near = apart-gap a b (v.r * (R.columns + 2) + v.x) same-length (place-within R a v accepted.placed a_lawful.heights e) in
      apart-same (height R a v) (height R b v) (none_less (height_gap a b) (unsigned_abs (height R a v -ℤ height R b v)) none near)
    where
      none_less : (g d : ℕ) → g ≡ 0 → d ≤ g → d ≡ 0
      none_less g d e l = omega (arith, e, l)

  abbrev differ : Corner → Bool
  differ v = int_lt (height R a v) (height R b v) || int_lt (height R b v) (height R a v)

  -- where there is a gap, one is under the other at some corner
  pub gap-differ : (height_gap a b ≡ 0 → ⊥)
      → (w : Corner) × (is_corner_of R w ≡ true) × ((height R a w <ℤ height R b w) ⊎ (height R b w <ℤ height R a w))
  gap-differ some = go (cases_Bool (list_any differ (vertices R)))
    where
      same : (y z : ℤ) → (int_lt y z || int_lt z y) ≡ false → y ≡ z
      same y z e = grind (arith, ints)

      parted : (y z : ℤ) → (int_lt y z || int_lt z y) ≡ true → (y <ℤ z) ⊎ (z <ℤ y)
      parted y z e = elim (or_cases (int_lt y z) (int_lt z y) e) [ inl f ↦ inl (lt-true y z f) | inr f ↦ inr (lt-true z y f) ]

      agree : list_any differ (vertices R) ≡ false → (v : Corner) → is_corner_of R v ≡ true → height R a v ≡ height R b v
      agree none v e = each (cases_Bool (differ v))
        where
          each : (differ v ≡ true) ⊎ (differ v ≡ false) → height R a v ≡ height R b v
          each (inl f) = cc (sym none, In-any_of differ v (vertices R) (In-vertices R accepted.placed v e) f)
          each (inr f) = same (height R a v) (height R b v) f

      go : (list_any differ (vertices R) ≡ true) ⊎ (list_any differ (vertices R) ≡ false)
          → (w : Corner) × (is_corner_of R w ≡ true) × ((height R a w <ℤ height R b w) ⊎ (height R b w <ℤ height R a w))
      go (inl e) =
          let (w, i, f) = any-In differ (vertices R) e in
          (w, (In-filter_parts (is_corner_of R) w (corner_places R) i).1, parted (height R a w) (height R b w) f)
      go (inr e) = absurd (some (agreeing-gap (agree e)))
