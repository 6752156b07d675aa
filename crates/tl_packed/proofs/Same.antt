-- Packed tilings are the same where their strings are, at the slots of the inner corners.
use Rattle.std.proofs.Common.{◌≡◌, ℕ, ◌+◌, ◌*◌, ◌/◌, ◌%◌, ◌<◌, ◌≤◌, true, false, List, length, get_or, refl, sym, ◌∙◌, ap, subst, arith, ℤ}
use Rattle.std.specs.Prelude.{◌==◌}
use Rattle.std.proofs.lemmas.List.{get_or_past}
use Rattle.std.proofs.lemmas.Nat.Bits.{bit_at-zero}
use Rattle.std.proofs.lemmas.Bool.{and_from, and_parts, eqb-true, eq-eqb}
use Rattle.tl_lists.proofs.Members.{any-In, In-any_of, In-filter_parts}
use Rattle.tl_definitions.specs.declared.Kind.{Kind}
use Rattle.tl_definitions.specs.declared.Kind.TheVariants.{Square, Triangle}
use Rattle.tl_definitions.specs.declared.Corner.{Corner}
use Rattle.tl_definitions.specs.Lattice.{class_of, classes}
use Rattle.tl_definitions.specs.Region.{Region, corner_places, inner_corners, is_inner}
use Rattle.tl_definitions.proofs.InnerNumbers.{any-inner_corners}
use Rattle.tl_definitions.proofs.Walks.{corner-In}
use Rattle.tl_closing.proofs.Stated.{inner-of_region}
use Rattle.tl_marks.specs.Marks.{mark}
use Rattle.tl_marks.proofs.Stated.{numbers-told}
use Rattle.tl_strings.specs.Strings.{column, row_of, slot_of, string_bit, word_place}
use Rattle.tl_strings.specs.Words.{bit}
use Rattle.tl_layout.specs.declared.layout.Layout.{Layout}
use Rattle.tl_layout.specs.Layouts.{size_of}
use Rattle.tl_layout.specs.Slots.{is_at}
use Rattle.tl_packed.specs.declared.strings.Strings.{Strings}
use Rattle.tl_packed.specs.Masked.{AllAgreeUnder, ClassesAgreeUnder}
use Rattle.tl_packed.specs.OfClasses.{AreLows, of_class, third_size}
use Rattle.tl_packed.specs.Packs.{IsFramed, Packs}
use Rattle.tl_packed.proofs.Classes.{by-class}
use Rattle.tl_packed.proofs.Inside.{row-inside}
use Rattle.tl_packed.proofs.InnerWords.{HasBit, has-bit}

class-few : (k : Kind) (v : Corner) → class_of k v < classes k
class-few Square v = omega arith
class-few Triangle v = omega arith

module _ (R : Region) (l : Layout) (lows s t : Strings) (numbers others : List ℤ) (framed : IsFramed R l) (are : AreLows R l lows)
    (packs : Packs R l s numbers) (other_packs : Packs R l t others)
  where
    -- the mark of an inner corner stands at its slot
    at-slot : (u : Strings) (held : List ℤ) → Packs R l u held → (v : Corner) → is_inner R v ≡ true
        → string_bit l.height (of_class u (class_of R.kind v)) (row_of v) (slot_of R.kind l.first v + 0) ≡ mark R held v
    at-slot u held p v inner =
        let near : l.first ≤ column R.kind v + 1 = omega (arith, (framed.layout.stands v inner).column) in
        let reached : column R.kind v ≤ column R.kind v + 1 = omega arith in
        p.holds v (inner-of_region R v inner) near (v, inner, reached)

    of-classes : ClassesAgreeUnder lows s t → (class : ℕ) → class < classes R.kind → AllAgreeUnder (of_class lows class) (of_class s class) (of_class t class)
    of-classes agree = by-class R.kind (λ class. AllAgreeUnder (of_class lows class) (of_class s class) (of_class t class)) agree.first agree.second (λ _. agree.third)

    pub agree-same : ClassesAgreeUnder lows s t → others ≡ numbers
    agree-same agree = numbers-told R numbers others framed.accepted packs.lawful other_packs.lawful marks
      where
        marks : (w : Corner) → is_inner R w ≡ true → mark R others w ≡ mark R numbers w
        marks w inner =
            let class = class_of R.kind w in
            let slot = slot_of R.kind l.first w + 0 in
            let same : slot_of R.kind l.first w ≡ slot = omega arith in
            let here : is_at R.kind l.first class (row_of w) slot w ≡ true = and_from _ _ (eq-eqb class class refl) (and_from _ _ (eq-eqb (row_of w) (row_of w) refl) (eq-eqb _ _ same)) in
            let low : string_bit l.height (of_class lows class) (row_of w) slot ≡ true =
            (are.each class (class-few R.kind w)).each (row_of w) slot (row-inside R l framed.layout w (inner-of_region R w inner))
            ∙ In-any_of (is_at R.kind l.first class (row_of w) slot) w (inner_corners R) (corner-In w (inner_corners R) (any-inner_corners R w framed.layout.placed ∙ inner)) here in
            sym (at-slot t others other_packs w inner)
            ∙ (sym (of-classes agree class (class-few R.kind w) (word_place l.height (row_of w) slot) (slot % 64) (omega arith) low) ∙ at-slot s numbers packs w inner)

    module _ (same : others ≡ numbers) where
      class-agrees : (class : ℕ) → class < classes R.kind → AllAgreeUnder (of_class lows class) (of_class s class) (of_class t class)
      class-agrees class few at x small set =
          let row = at % l.height in
          let slot = at / l.height * 64 + x in
          let has : HasBit l.height at x row slot = has-bit l.height at x (omega (arith, framed.layout.height)) small in
          let low : string_bit l.height (of_class lows class) row slot ≡ true = (λ i. bit (get_or (of_class lows class) (has.word i) 0) (has.bit_is i)) ∙ set in
          let (v, among, here) = any-In (is_at R.kind l.first class row slot) (inner_corners R) (sym ((are.each class few).each row slot has.low) ∙ low) in
          let inner = (In-filter_parts (is_inner R) v (corner_places R) among).1 in
          let parts = and_parts _ _ here in
          let places = and_parts _ _ parts.1 in
          let class_is : class_of R.kind v ≡ class = eqb-true _ _ parts.0 in
          let row_is : row_of v ≡ row = eqb-true _ _ places.0 in
          let slot_at : slot_of R.kind l.first v ≡ slot = eqb-true _ _ places.1 in
          let slot_is : slot_of R.kind l.first v + 0 ≡ slot = omega (arith, slot_at) in
          let of_s = (λ i. string_bit l.height (of_class s (sym class_is i)) (sym row_is i) (sym slot_is i)) ∙ at-slot s numbers packs v inner in
          let of_t = (λ i. string_bit l.height (of_class t (sym class_is i)) (sym row_is i) (sym slot_is i)) ∙ at-slot t others other_packs v inner in
          (λ i. bit (get_or (of_class s class) (sym has.word i) 0) (sym has.bit_is i))
          ∙ (of_s ∙ (ap (λ (n : List ℤ). mark R n v) (sym same) ∙ (sym of_t ∙ (λ i. bit (get_or (of_class t class) (has.word i) 0) (has.bit_is i)))))

      third-agrees : (k : Kind) → R.kind ≡ k → AllAgreeUnder lows.third.items s.third.items t.third.items
      third-agrees Triangle e at x small set = class-agrees 2 (subst (λ (k : Kind). 2 < classes k) (sym e) (omega arith)) at x small set
      third-agrees Square e at x small set =
          let none : length lows.third.items ≡ 0 = are.size.third ∙ ap (λ (k : Kind). third_size k (size_of l)) (framed.layout.kind ∙ e) in
          let zero : get_or lows.third.items at 0 ≡ 0 = get_or_past lows.third.items at 0 (omega (arith, none)) in
          let differ : true ≡ false = sym set ∙ (ap (λ (n : ℕ). bit n x) zero ∙ ap (λ (d : ℕ). d == 1) (bit_at-zero x)) in
          absurd (cc (differ))

      pub same-agree : ClassesAgreeUnder lows s t
      same-agree = record {
        first = class-agrees 0 (some R.kind);
        second = class-agrees 1 (more R.kind);
        third = third-agrees R.kind refl;
      }
        where
          some : (k : Kind) → 0 < classes k
          some Square = omega arith
          some Triangle = omega arith

          more : (k : Kind) → 1 < classes k
          more Square = omega arith
          more Triangle = omega arith
