-- The coins of a region by slots: each inner corner has its bit at both of its slots.
use Rattle.std.proofs.Common.{◌≡◌, ℕ, ◌+◌, ◌-◌, ◌≤◌, ◌⊎◌, inl, inr, Bool, true, false, ◌&&◌, ◌||◌, List, Some, sym, ◌∙◌, ap, subst, arith, refl}
use Rattle.std.specs.Prelude.{slice_get}
use Rattle.std.proofs.lemmas.Bool.{and_from, and_parts, cases_eq, eq-eqb, eqb-true, or_cases, or_left, or_right}
use Rattle.tl_definitions.specs.declared.Corner.{Corner}
use Rattle.tl_definitions.specs.Region.{Region, corner_rows, inner_corners, is_inner}
use Rattle.tl_definitions.specs.Accepted.{Accepted}
use Rattle.tl_definitions.proofs.InnerNumbers.{inner-at, inner-number, inner_corners-rows}
use Rattle.tl_lists.proofs.Members.{In, In-any_of, In-filter_parts, any-In, slice_get-In}
use Rattle.tl_steps.specs.Stepping.{is_of_class}
use Rattle.tl_strings.specs.Strings.{row_of, slot_of}
use Rattle.tl_layout.specs.declared.layout.Layout.{Layout}
use Rattle.tl_layout.specs.Layouts.{IsLayoutOf}
use Rattle.tl_layout.specs.Slots.{is_at}
use Rattle.tl_packing.specs.Packing.{HasCoinBits, IsFrame}
use Rattle.tl_packing.proofs.Stated.{inner-corner, one-corner}
use Rattle.tl_coupling.specs.Carried.{number_of}
use Rattle.tl_string_sweep.proofs.Inner.{frame-of}
use Rattle.tl_courses.specs.Coins.{bit_numbered, coin_of}

true-same : (t u : Bool) → (t ≡ true → u ≡ true) → (u ≡ true → t ≡ true) → t ≡ u
true-same true u p q = sym (p refl)
true-same false true p q = q refl
true-same false false p q = refl

module _ (R : Region) (l : Layout) (k : ℕ) (bits : ℕ → Bool) (accepted : Accepted R) (layout : IsLayoutOf R l) where
  abbrev first : ℕ
  first = l.first

  frame : IsFrame R l.height first
  frame = frame-of R l layout

  -- the corner is of the class, and one of its two slots is this one of the row
  abbrev has : ℕ → ℕ → Corner → Bool
  has row slot v = is_at R.kind first k row slot v || is_at R.kind first k row (slot - 1) v

  abbrev tells : ℕ → ℕ → Corner → Bool
  tells row slot v = has row slot v && bit_numbered bits (number_of R v)

  is-at : (v : Corner) (slot : ℕ) → is_of_class R k v ≡ true → slot ≡ slot_of R.kind first v → is_at R.kind first k (row_of v) slot v ≡ true
  is-at v slot of_class e = and_from _ _ of_class (and_from _ _ (eq-eqb (row_of v) (row_of v) refl) (eq-eqb (slot_of R.kind first v) slot (sym e)))

  at-parts : (v : Corner) (row slot : ℕ) → is_at R.kind first k row slot v ≡ true → (is_of_class R k v ≡ true) × (row_of v ≡ row) × (slot_of R.kind first v ≡ slot)
  at-parts v row slot at =
      let (of_class, there) = and_parts _ _ at in
      let (row_is, slot_is) = and_parts _ _ there in
      (of_class, eqb-true _ _ row_is, eqb-true _ _ slot_is)

  -- the corner itself
  own : (v : Corner) (shift : ℕ) → is_of_class R k v ≡ true → shift ≤ 1 → has (row_of v) (slot_of R.kind first v + shift) v ≡ true
  own v shift of_class either = go (cases_eq shift 0)
    where
      go : (shift ≡ 0) ⊎ ((shift ≡ 0) → ⊥) → has (row_of v) (slot_of R.kind first v + shift) v ≡ true
      go (inl e) = or_left _ _ (is-at v (slot_of R.kind first v + shift) of_class (omega (arith, e)))
      go (inr e) = or_right _ _ (is-at v (slot_of R.kind first v + shift - 1) of_class (omega (arith, e, either)))

  -- and no other
  other : (v w : Corner) (shift slot : ℕ) → is_inner R v ≡ true → is_inner R w ≡ true → is_of_class R k v ≡ true → shift ≤ 1
      → slot ≤ slot_of R.kind first v + shift → slot_of R.kind first v + shift ≤ slot + 1
      → is_at R.kind first k (row_of v) slot w ≡ true → w ≡ v
  other v w shift slot inner inner' of_class either below above at =
      let (of_class', row_is, slot_is) = at-parts w (row_of v) slot at in
      let columns = frame.columns v inner in
      let columns' = frame.columns w inner' in
      one-corner R.kind w v (inner-corner R w inner') (inner-corner R v inner) (eqb-true _ _ of_class' ∙ sym (eqb-true _ _ of_class)) (omega (arith, row_is))
      (omega (arith, slot_is, below, above, either, columns, columns')) (omega (arith, slot_is, below, above, either, columns, columns'))

  among-inner : (w : Corner) → In w (inner_corners R) → is_inner R w ≡ true
  among-inner w among =
      (In-filter_parts (is_inner R) w (corner_rows (R.columns + 2) (R.rows + 1)) (subst (λ (vs : List Corner). In w vs) (inner_corners-rows R) among)).1

  told : (i : ℕ) (v : Corner) → slice_get (inner_corners R) i ≡ Some v → bit_numbered bits (number_of R v) ≡ bits i
  told i v at = ap (bit_numbered bits) (inner-number R v i at)

  pub coin_bits : HasCoinBits R first k bits (coin_of R first bits k)
  coin_bits i shift v at of_class either = true-same _ _ only there
    where
      place : ℕ
      place = slot_of R.kind first v + shift

      inner : is_inner R v ≡ true
      inner = inner-at R v i at

      there : bits i ≡ true → coin_of R first bits k (row_of v) place ≡ true
      there e =
          In-any_of (tells (row_of v) place) v (inner_corners R) (slice_get-In (inner_corners R) i v at)
          (and_from _ _ (own v shift of_class either) (told i v at ∙ e))

      only : coin_of R first bits k (row_of v) place ≡ true → bits i ≡ true
      only e =
          let (w, among, tell) = any-In (tells (row_of v) place) (inner_corners R) e in
          let (has, bit) = and_parts _ _ tell in
          let same : w ≡ v = one w among (or_cases _ _ has) in
          sym (told i v at) ∙ (ap (λ (u : Corner). bit_numbered bits (number_of R u)) (sym same) ∙ bit)
        where
          one : (w : Corner) → In w (inner_corners R) → (is_at R.kind first k (row_of v) place w ≡ true) ⊎ (is_at R.kind first k (row_of v) (place - 1) w ≡ true) → w ≡ v
          one w among (inl at') = other v w shift place inner (among-inner w among) of_class either (omega arith) (omega arith) at'
          one w among (inr at') = other v w shift (place - 1) inner (among-inner w among) of_class either (omega arith) (omega arith) at'
