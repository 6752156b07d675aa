-- Slots of inner corners stand in inner words: a layout has words on all sides of them.
use Rattle.std.proofs.Common.{◌≡◌, ℕ, ◌+◌, ◌*◌, ◌/◌, ◌%◌, ◌<◌, ◌≤◌, true, false, List, length, get_or, refl, sym, ◌∙◌, ap, subst, arith}
use Rattle.std.specs.Prelude.{◌==◌}
use Rattle.std.proofs.lemmas.List.{get_or_past}
use Rattle.std.proofs.lemmas.Nat.{div-add-mod'}
use Rattle.std.proofs.lemmas.Nat.Bits.{bit_at-zero}
use Rattle.std.proofs.Math.Nat.{mul-le-mul_right}
use Rattle.tl_definitions.specs.declared.Kind.{Kind}
use Rattle.tl_definitions.specs.declared.Kind.TheVariants.{Square, Triangle}
use Rattle.tl_definitions.specs.Lattice.{classes}
use Rattle.tl_definitions.specs.declared.Corner.{Corner}
use Rattle.tl_definitions.specs.Region.{Region, is_inner}
use Rattle.tl_definitions.proofs.InnerNumbers.{inner-among}
use Rattle.tl_strings.specs.Strings.{row_of, slot_of, string_bit, word_place}
use Rattle.tl_strings.specs.Words.{bit}
use Rattle.tl_layout.specs.declared.layout.Layout.{Layout}
use Rattle.tl_layout.specs.Layouts.{IsLayoutOf, size_of}
use Rattle.tl_layout.specs.Slots.{AreSlotsOf}
use Rattle.tl_packed.specs.declared.strings.Strings.{Strings}
use Rattle.tl_packed.specs.Inner.{AreInner, IsInner}
use Rattle.tl_packed.specs.OfClasses.{AreLows, third_size}
use Rattle.tl_packed.proofs.Inside.{two-more}
use Rattle.tl_packed.proofs.PartEnds.{low-has}

-- the row and the slot of a bit of a word
pub record HasBit (height at x row slot : ℕ) : Type 0 where
  pub low : row < height
  pub word : word_place height row slot ≡ at
  pub bit_is : slot % 64 ≡ x

pub has-bit : (height at x : ℕ) → 0 < height → x < 64 → HasBit height at x (at % height) (at / height * 64 + x)
has-bit height at x some small =
    let strip : (at / height * 64 + x) / 64 ≡ at / height = omega (arith, small) in
    record {
      low = omega arith;
      word = ap (λ (n : ℕ). n * height + at % height) strip ∙ div-add-mod' at height;
      bit_is = omega (arith, small);
    }

-- a slot behind the first strip and before the last, in a row of inner corners
inner-slot : (height row slot strips : ℕ) → 2 ≤ row → row + 3 < height → 64 ≤ slot → slot / 64 + 2 ≤ strips
    → (height + 2 ≤ word_place height row slot) × (word_place height row slot + height + 3 < strips * height)
inner-slot height row slot strips below above behind before =
    let one : 1 ≤ slot / 64 = omega (arith, behind) in
    let start = mul-le-mul_right height one in
    let end = mul-le-mul_right height before in
    (omega (arith, start, below), omega (arith, end, above))

module _ (R : Region) (l : Layout) (layout : IsLayoutOf R l) where
  -- the slot of an inner corner, and the slot after it
  pub corner-inner : (v : Corner) (slot : ℕ) → is_inner R v ≡ true → slot_of R.kind l.first v ≤ slot → slot ≤ slot_of R.kind l.first v + 1
      → (l.height + 2 ≤ word_place l.height (row_of v) slot) × (word_place l.height (row_of v) slot + l.height + 3 < size_of l)
  corner-inner v slot inner from to =
      let stands = layout.stands v inner in
      let among = inner-among R v layout.placed inner in
      let last = two-more ((slot_of R.kind l.first v + 1) / 64) l.strips l.height (row_of v) stands.inside in
      inner-slot l.height (row_of v) slot l.strips (omega (arith, among.below_first_row)) (omega (arith, among.row, layout.height)) (omega (arith, stands.slot, from))
      (omega (arith, last, to))

  class-inner : (class : ℕ) (lows : List ℕ) → AreSlotsOf R l class lows → IsInner l.height lows
  class-inner class lows are at x small set =
      let row = at % l.height in
      let slot = at / l.height * 64 + x in
      let has : HasBit l.height at x row slot = has-bit l.height at x (omega (arith, layout.height)) small in
      let low : string_bit l.height lows row slot ≡ true = (λ i. bit (get_or lows (has.word i) 0) (has.bit_is i)) ∙ set in
      let (v, inner, stood) = low-has R l layout class lows are row slot has.low low in
      let word : word_place l.height (row_of v) (slot_of R.kind l.first v) ≡ at = (λ i. word_place l.height (stood.row_is i) (stood.slot_is i)) ∙ has.word in
      let within = corner-inner v (slot_of R.kind l.first v) inner (omega arith) (omega arith) in
      (omega (arith, within.0, word), omega (arith, within.1, word, are.size))

  pub lows-inner : (lows : Strings) → AreLows R l lows → AreInner l.height lows
  lows-inner lows are = record { first = class-inner 0 lows.first.items (are.each 0 (some R.kind)); second = class-inner 1 lows.second.items (are.each 1 (more R.kind)); third = third R.kind refl }
    where
      some : (k : Kind) → 0 < classes k
      some Square = omega arith
      some Triangle = omega arith

      more : (k : Kind) → 1 < classes k
      more Square = omega arith
      more Triangle = omega arith

      third : (k : Kind) → R.kind ≡ k → IsInner l.height lows.third.items
      third Triangle e = class-inner 2 lows.third.items (are.each 2 (subst (λ (k : Kind). 2 < classes k) (sym e) (omega arith)))
      third Square e = λ at x small set.
          let none : length lows.third.items ≡ 0 = are.size.third ∙ ap (λ (k : Kind). third_size k (size_of l)) (layout.kind ∙ e) in
          let zero : get_or lows.third.items at 0 ≡ 0 = get_or_past lows.third.items at 0 (omega (arith, none)) in
          let differ : true ≡ false = sym set ∙ (ap (λ (n : ℕ). bit n x) zero ∙ ap (λ (d : ℕ). d == 1) (bit_at-zero x)) in
          absurd (cc differ)
