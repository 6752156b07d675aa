-- Where inner corners stand in strings of a layout, and so which slots are low, and which are free.
use Rattle.std.proofs.Common.{◌≡◌, ℕ, ◌+◌, ◌-◌, ◌*◌, ◌%◌, ◌<◌, ◌≤◌, ◌⊎◌, inl, inr, true, false, ◌||◌, List, length, sym, ◌∙◌, ap, subst, arith}
use Rattle.std.specs.Int.{bit_at}
use Rattle.std.specs.Prelude.{◌==◌}
use Rattle.std.proofs.lemmas.Bool.{and_from, and_parts, cases_lt, eq-eqb, eqb-true, false_from_ne_true, or_cases, or_from}
use Rattle.std.proofs.lemmas.List.{get_or_past}
use Rattle.std.proofs.lemmas.Nat.Bits.{bit_at-zero}
use Rattle.tl_lists.proofs.Members.{any-In, In-any_of}
use Rattle.tl_lists.proofs.Positions.{position-at}
use Rattle.tl_definitions.specs.declared.Corner.{Corner}
use Rattle.tl_definitions.specs.Lattice.{corner_eq}
use Rattle.tl_definitions.specs.Region.{Region, inner_corners, is_inner}
use Rattle.tl_definitions.proofs.Corners.{corner_eq-same}
use Rattle.tl_definitions.proofs.InnerNumbers.{any-inner_corners, inner-at}
use Rattle.tl_steps.specs.Stepping.{is_of_class}
use Rattle.tl_strings.specs.Strings.{row_of, slot_of, string_bit, word_place}
use Rattle.tl_layout.specs.declared.layout.Layout.{Layout}
use Rattle.tl_layout.specs.Layouts.{IsLayoutOf, size_of}
use Rattle.tl_layout.specs.Slots.{AreFree, AreSlotsOf, is_at}
use Rattle.tl_packing.specs.Packing.{AreFreeSlots, AreLowSlots, IsFrame}
use Rattle.tl_packed.proofs.InnerWords.{corner-inner}
use Rattle.tl_string_sweep.specs.Sweeps.{AreInside}

-- no bit is set past the words
pub past-false : (height : ℕ) (words : List ℕ) (row slot : ℕ) → length words ≤ word_place height row slot → string_bit height words row slot ≡ false
past-false height words row slot past =
    (λ i. bit_at (get_or_past words (word_place height row slot) 0 past i) (slot % 64) == 1) ∙ ap (λ (bit : ℕ). bit == 1) (bit_at-zero (slot % 64))

module _ (R : Region) (l : Layout) (layout : IsLayoutOf R l) where
  pub frame-of : IsFrame R l.height l.first
  frame-of = record { rows = omega (arith, layout.height); columns = λ v inner. (layout.stands v inner).column }

  -- strings with an inner corner have room for the words beside its own
  pub inner-room : (v : Corner) → is_inner R v ≡ true → 2 * l.height + 5 ≤ size_of l
  inner-room v inner =
      let place = corner-inner R l layout v (slot_of R.kind l.first v) inner (omega arith) (omega arith) in
      omega (arith, place.0, place.1)

  module _ (class : ℕ) (lows : List ℕ) (slots : AreSlotsOf R l class lows) where
    -- a low slot is that of an inner corner of the class
    low-corner : (row slot : ℕ) → row < l.height → string_bit l.height lows row slot ≡ true
        → (v : Corner) × (is_inner R v ≡ true) × (is_of_class R class v ≡ true) × (row_of v ≡ row) × (slot_of R.kind l.first v ≡ slot)
    low-corner row slot within low =
        let (v, at, is) = position-at (is_at R.kind l.first class row slot) (inner_corners R) (sym (slots.each row slot within) ∙ low) in
        let (of_class, there) = and_parts _ _ is in
        let (row_is, slot_is) = and_parts _ _ there in
        (v, inner-at R v _ at, of_class, eqb-true _ _ row_is, eqb-true _ _ slot_is)

    corner-low : (v : Corner) → is_inner R v ≡ true → is_of_class R class v ≡ true → string_bit l.height lows (row_of v) (slot_of R.kind l.first v) ≡ true
    corner-low v inner of_class =
        let (u, among, same) = any-In (corner_eq v) (inner_corners R) (any-inner_corners R v layout.placed ∙ inner) in
        let at : is_at R.kind l.first class (row_of v) (slot_of R.kind l.first v) u ≡ true =
        ap (is_at R.kind l.first class (row_of v) (slot_of R.kind l.first v)) (sym (corner_eq-same v u same))
        ∙ and_from _ _ of_class (and_from _ _ (eq-eqb (row_of v) (row_of v) (omega arith)) (eq-eqb (slot_of R.kind l.first v) (slot_of R.kind l.first v) (omega arith)))
        in
        slots.each (row_of v) (slot_of R.kind l.first v) (omega (arith, (layout.stands v inner).row)) ∙ In-any_of _ u (inner_corners R) among at

    pub low-slots : AreLowSlots R l.height l.first class lows
    low-slots = record { has = corner-low; only = low-corner }

    abbrev IsInside : ℕ → ℕ → Type 0
    IsInside row slot = (l.height + 2 ≤ word_place l.height row slot) × (word_place l.height row slot + l.height + 3 < size_of l)

    -- a low slot and the slot after it stand in rows of inner corners
    low-inside : (row slot place : ℕ) → row < l.height → string_bit l.height lows row slot ≡ true → slot ≤ place → place ≤ slot + 1 → IsInside row place
    low-inside row slot place within low from to =
        let (v, inner, of_class, row_is, slot_is) = low-corner row slot within low in
        subst (λ (r : ℕ). IsInside r place) row_is (corner-inner R l layout v place inner (omega (arith, slot_is, from)) (omega (arith, slot_is, to)))

    before-inside : (row slot : ℕ) → row < l.height → 1 ≤ slot → string_bit l.height lows row (slot - 1) ≡ true → IsInside row slot
    before-inside row slot within some low = low-inside row (slot - 1) slot within low (omega arith) (omega (arith, some))

    module _ (free : List ℕ) (are_free : AreFree l.height lows free) where
      pub free-slots : AreFreeSlots l.height lows free
      free-slots row slot within some = go (cases_lt (word_place l.height row slot) (length lows))
        where
          go : (word_place l.height row slot < length lows) ⊎ (length lows ≤ word_place l.height row slot)
              → string_bit l.height free row slot ≡ (string_bit l.height lows row slot || string_bit l.height lows row (slot - 1))
          go (inl inside) = are_free.each row slot within inside
          go (inr past) =
              past-false l.height free row slot (omega (arith, past, are_free.size))
              ∙ sym (or_from _ _ (past-false l.height lows row slot past)
              (false_from_ne_true _ (λ low. omega (arith, (before-inside row slot within some low).1, past, slots.size))))

      free-place : (row slot : ℕ) → row < l.height → 1 ≤ slot → string_bit l.height free row slot ≡ true → IsInside row slot
      free-place row slot within some is_free = go (or_cases _ _ (sym (free-slots row slot within some) ∙ is_free))
        where
          go : (string_bit l.height lows row slot ≡ true) ⊎ (string_bit l.height lows row (slot - 1) ≡ true) → IsInside row slot
          go (inl low) = low-inside row slot slot within low (omega arith) (omega arith)
          go (inr low) = before-inside row slot within some low

      pub free-inside : AreInside l.height free
      free-inside = record {
        behind = λ row slot within some is_free. (free-place row slot within some is_free).0;
        each = λ row slot within some is_free. omega (arith, (free-place row slot within some is_free).1, slots.size, are_free.size);
      }
