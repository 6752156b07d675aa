-- Both ends taken apart: each gets its marks at the inner corners, and keeps those on the boundary.
use Rattle.std.proofs.Common.{◌≡◌, ℕ, ◌+◌, ◌<◌, ◌≤◌, ◌⊎◌, inl, inr, Bool, true, false, cond, List, length, refl, sym, ◌∙◌, ap, subst, arith, ℤ}
use Rattle.std.specs.Int.{bit_at}
use Rattle.std.specs.Prelude.{◌==◌, ◌%◌}
use Rattle.std.proofs.lemmas.Bool.{and_from, and_parts, cases_Bool, cases_lt, cond-false, cond-true, eq-eqb, eqb-true, false_from_ne_true}
use Rattle.std.proofs.lemmas.List.{get_or_past}
use Rattle.std.proofs.lemmas.Nat.Bits.{bit_at-zero}
use Rattle.tl_lists.proofs.Members.{any-In, In-any_of, In-filter_parts}
use Rattle.tl_definitions.specs.declared.Kind.{Kind}
use Rattle.tl_definitions.specs.declared.Corner.{Corner}
use Rattle.tl_definitions.specs.Lattice.{class_of, classes}
use Rattle.tl_definitions.specs.Region.{Region, corner_places, inner_corners, is_corner_of, is_inner}
use Rattle.tl_definitions.specs.Accepted.{Accepted}
use Rattle.tl_definitions.specs.Heights.{AreLawful}
use Rattle.tl_definitions.proofs.InnerNumbers.{any-inner_corners}
use Rattle.tl_definitions.proofs.Walks.{corner-In}
use Rattle.tl_closing.proofs.Stated.{corner-within, inner-of_region}
use Rattle.tl_marks.specs.Marks.{mark}
use Rattle.tl_marks.proofs.Stated.{mark-same}
use Rattle.tl_strings.specs.Strings.{column, row_of, slot_of, string_bit, word_place}
use Rattle.tl_layout.specs.declared.layout.Layout.{Layout}
use Rattle.tl_layout.specs.Layouts.{IsLayoutOf, size_of}
use Rattle.tl_layout.specs.Slots.{AreSlotsOf, is_at}
use Rattle.tl_packing.specs.Packing.{HoldsMarks, IsReached}
use Rattle.tl_packing.proofs.Stated.{inner-corner}
use Rattle.tl_pack.specs.Packs.{HasSlot}
use Rattle.tl_pack.proofs.Stated.{boundary-filled}
use Rattle.tl_packed.specs.declared.strings.Strings.{Strings}
use Rattle.tl_packed.specs.OfClasses.{AreLows, of_class}
use Rattle.tl_packed.specs.Packs.{IsPacked, Packs}
use Rattle.tl_packed.specs.Ends.{AreParted}
use Rattle.tl_packed.proofs.EndsClasses.{class-few, class-size}
use Rattle.tl_packed.proofs.Inside.{row-inside, slot-alone, slot-inside}
use Rattle.tl_packed.proofs.EndsSeen.{packs-moved}

-- a word past the end has no bits
past-end : (height : ℕ) (words : List ℕ) (row slot : ℕ) → length words ≤ word_place height row slot → string_bit height words row slot ≡ false
past-end height words row slot past =
    ap (λ (word : ℕ). bit_at word (slot % 64) == 1) (get_or_past words (word_place height row slot) 0 past)
    ∙ ap (λ (bit : ℕ). bit == 1) (bit_at-zero (slot % 64))

module _ (R : Region) (l : Layout) (layout : IsLayoutOf R l) where
  -- ---- the slots of inner corners

  module _ (class : ℕ) (lows : List ℕ) (are : AreSlotsOf R l class lows) where
    low-set : (v : Corner) → is_inner R v ≡ true → class_of R.kind v ≡ class → string_bit l.height lows (row_of v) (slot_of R.kind l.first v) ≡ true
    low-set v inner class_is =
        are.each (row_of v) (slot_of R.kind l.first v) (row-inside R l layout v (inner-of_region R v inner))
        ∙ In-any_of (is_at R.kind l.first class (row_of v) (slot_of R.kind l.first v)) v (inner_corners R)
        (corner-In v (inner_corners R) (any-inner_corners R v layout.placed ∙ inner))
        (and_from _ _ (eq-eqb _ _ class_is) (and_from _ _ (eq-eqb (row_of v) (row_of v) refl) (eq-eqb (slot_of R.kind l.first v) (slot_of R.kind l.first v) refl)))

    pub low-has : (row slot : ℕ) → row < l.height → string_bit l.height lows row slot ≡ true → (w : Corner) × (is_inner R w ≡ true) × HasSlot R.kind l.first class row slot w
    low-has row slot within set =
        let (w, among, at) = any-In (is_at R.kind l.first class row slot) (inner_corners R) (sym (are.each row slot within) ∙ set) in
        let inner = (In-filter_parts (is_inner R) w (corner_places R) among).1 in
        let parts = and_parts _ _ at in
        let place = and_parts _ _ parts.1 in
        let behind : l.first ≤ column R.kind w = (layout.stands w inner).column in (
          w,
          inner,
          record {
            is_one = inner-corner R w inner;
            of_class = eqb-true _ _ parts.0;
            not_before = omega (arith, behind);
            row_is = eqb-true _ _ place.0;
            slot_is = eqb-true _ _ place.1;
          },
        )

  -- ---- one end

  module _ (accepted : Accepted R) (shift : ℕ) (both lows old new : Strings) (old_numbers numbers : List ℤ) (are : AreLows R l lows) (parted : AreParted l shift both lows old new)
      (packs : Packs R l old old_numbers) (lawful : AreLawful R numbers) (held : HoldsMarks R l.height l.first numbers (of_class both) shift) where
    few : (class : ℕ) → class < classes R.kind → class < classes l.kind
    few class h = subst (λ (k : Kind). class < classes k) (sym layout.kind) h

    -- on the boundary the marks of all lawful heights are the same
    outer-same : (v : Corner) → is_corner_of R v ≡ true → is_inner R v ≡ false → mark R old_numbers v ≡ mark R numbers v
    outer-same v of_region outer =
        mark-same R numbers old_numbers v
        ((boundary-filled R accepted old_numbers numbers packs.lawful lawful).at v (corner-within R v layout.placed of_region).1 (any-inner_corners R v layout.placed ∙ outer))

    -- the slot of a corner that isn't an inner one is none of theirs
    outer-low : (v : Corner) → is_corner_of R v ≡ true → l.first ≤ column R.kind v + 1 → is_inner R v ≡ false
        → string_bit l.height (of_class lows (class_of R.kind v)) (row_of v) (slot_of R.kind l.first v) ≡ false
    outer-low v of_region near outer =
        false_from_ne_true _
        (λ set.
        let (w, inner, has) = low-has (class_of R.kind v) (of_class lows (class_of R.kind v)) (are.each (class_of R.kind v) (class-few R.kind v)) (row_of v) (slot_of R.kind l.first v)
        (row-inside R l layout v of_region) set in
        let same : w ≡ v = slot-alone R l layout v w (slot_of R.kind l.first v) of_region near has (omega arith) (omega arith) in
        cc (ap (is_inner R) same, inner, outer))

    part-holds : (v : Corner) → is_corner_of R v ≡ true → l.first ≤ column R.kind v + 1 → IsReached R v
        → string_bit l.height (of_class new (class_of R.kind v)) (row_of v) (slot_of R.kind l.first v + 0) ≡ mark R numbers v
    part-holds v of_region near reached = ap (string_bit l.height (of_class new class) (row_of v)) same ∙ step ∙ go (cases_Bool (is_inner R v))
      where
        class : ℕ
        class = class_of R.kind v

        slot : ℕ
        slot = slot_of R.kind l.first v

        same : slot + 0 ≡ slot
        same = omega arith

        bit : Strings → ℕ → Bool
        bit s n = string_bit l.height (of_class s class) (row_of v) n

        step : bit new slot ≡ cond (bit lows slot) (bit both (slot + shift)) (bit old slot)
        step = parted.bits class (row_of v) slot (few class (class-few R.kind v)) (slot-inside R l layout v slot of_region reached (omega arith))

        go : (is_inner R v ≡ true) ⊎ (is_inner R v ≡ false) → cond (bit lows slot) (bit both (slot + shift)) (bit old slot) ≡ mark R numbers v
        go (inl inner) =
            cond-true _ _ _ (low-set class (of_class lows class) (are.each class (class-few R.kind v)) v inner refl)
            ∙ held v of_region near reached
        go (inr outer) =
            cond-false _ _ _ (outer-low v of_region near outer)
            ∙ ap (bit old) (sym same) ∙ packs.holds v of_region near reached ∙ outer-same v of_region outer

    part-only : (class row slot : ℕ) → class < classes R.kind → row < l.height → string_bit l.height (of_class new class) row slot ≡ true
        → ∥ ((v : Corner) × HasSlot R.kind l.first class row slot v) ∥₁
    part-only class row slot h within set = place (cases_lt (word_place l.height row slot) (size_of l))
      where
        bit : Strings → ℕ → Bool
        bit s n = string_bit l.height (of_class s class) row n

        go : (bit lows slot ≡ true) ⊎ (bit lows slot ≡ false) → bit new slot ≡ cond (bit lows slot) (bit both (slot + shift)) (bit old slot)
            → ∥ ((v : Corner) × HasSlot R.kind l.first class row slot v) ∥₁
        go (inl low) step = let (w, inner, has) = low-has class (of_class lows class) (are.each class h) row slot within low in ∣ (w, has) ∣₁
        go (inr none) step = packs.only class row slot h within (sym (step ∙ cond-false _ _ _ none) ∙ set)

        place : (word_place l.height row slot < size_of l) ⊎ (size_of l ≤ word_place l.height row slot) → ∥ ((v : Corner) × HasSlot R.kind l.first class row slot v) ∥₁
        place (inl inside) = go (cases_Bool (bit lows slot)) (parted.bits class row slot (few class h) inside)
        place (inr past) =
            let size = class-size l new parted.size class (few class h) in
            cc (past-end l.height (of_class new class) row slot (omega (arith, size, past)), set)

    pub parted-packs : Packs R l new numbers
    parted-packs = record {
      accepted = ∣ accepted ∣₁;
      layout = ∣ layout ∣₁;
      size = parted.size;
      lawful = lawful;
      holds = part-holds;
      only = part-only;
    }

-- the same of what stands in a packed tiling
pub parted-inside : (R S : Region) (l m k : Layout) (shift : ℕ) (both lows old new : Strings) (numbers : List ℤ) → S ≡ R → k ≡ l → m ≡ l → Accepted R → IsLayoutOf R l
    → AreLows R l lows → AreParted m shift both lows old new → IsPacked S k old → AreLawful R numbers → HoldsMarks R l.height l.first numbers (of_class both) shift
    → Packs S k new numbers
parted-inside R S l m k shift both lows old new numbers e f g accepted layout are parted packs lawful held =
    packs-moved R S l k new numbers (sym e) (sym f)
    (parted-packs R l layout accepted shift both lows old new packs.0 numbers are (subst (λ (j : Layout). AreParted j shift both lows old new) g parted)
    (packs-moved S R k l old packs.0 e f packs.1) lawful held)
