-- What meets the definitions, and what near them doesn't: the square of four cells and the hexagon of six triangles, each with
-- one inner corner, in rows of words of which the second strip has its slots 64 and 65.
use Rattle.std.proofs.Common.{◌≡◌, ℕ, zero, suc, ◌+◌, ◌-◌, ◌%◌, ◌^◌, ◌<◌, ◌≤◌, ◌⊎◌, inl, inr, Bool, true, false, ◌||◌, List, [], ◌∷◌, eqb, refl, sym, ◌∙◌, ap, subst, arith, codes, ℤ, pos, negsuc}
use Rattle.std.specs.Prelude.{slice_index}
use Rattle.std.specs.Int.{bit_at}
use Rattle.std.proofs.lemmas.Bool.{cases_eq, or_from}
use Rattle.std.proofs.lemmas.Nat.Bits.{bit_at-zero, bit_at_above}
use Rattle.tl_definitions.specs.declared.Kind.TheVariants.{Square, Triangle}
use Rattle.tl_definitions.specs.declared.Corner.{Corner}
use Rattle.tl_definitions.specs.Lattice.{class_of, corner}
use Rattle.tl_definitions.specs.Region.{Region, is_corner_of, is_inner}
use Rattle.tl_definitions.proofs.InnerNumbers.{inner-at}
use Rattle.tl_formats.specs.RegionText.{region_of}
use Rattle.tl_lists.proofs.Members.{Each, Each-at}
use Rattle.tl_closing.proofs.Stated.{In-vertices, inner-of_region, vertices}
use Rattle.tl_steps.specs.Stepping.{is_of_class}
use Rattle.tl_marks.specs.Marks.{mark}
use Rattle.tl_strings.specs.Strings.{column, row_of, slot_of, string_bit, word_place}
use Rattle.tl_strings.specs.Steps.{coin_bit, square_bit, triangle_bit}
use Rattle.tl_packing.specs.Packing.{AreBesideSquare, AreBesideTriangle, AreFreeSlots, AreLowSlots, AreSameBut, AreSteppedSquares, AreSteppedTriangles, HasCoins, HoldsBoth, HoldsMarks, IsFrame, StandsAt}
use Rattle.tl_packing.proofs.Places.{inner-within, square-beside, triangle-beside}
use Rattle.tl_packing.proofs.Bounds.{square-bound, triangle-bound}

-- ---- the square of four cells, with 2 or -2 in the middle

abbrev two_two : Region
two_two = region_of Square (codes "##" ∷ codes "##" ∷ [])

abbrev with_middle : ℤ → List ℤ
with_middle h =
    pos 0 ∷ negsuc 0 ∷ pos 0 ∷ pos 0 ∷ pos 1 ∷ h ∷ pos 1 ∷ pos 0 ∷ pos 0 ∷ negsuc 0 ∷ pos 0 ∷ pos 0 ∷ []

abbrev low : List ℤ
low = with_middle (negsuc 1)

abbrev high : List ℤ
high = with_middle (pos 2)

-- what is told of each of its nine corners
each-corner : (P : Corner → Type 0) → Each P (vertices two_two) → (w : Corner) → is_corner_of two_two w ≡ true → P w
each-corner P all w e = Each-at P w (vertices two_two) all (In-vertices two_two refl w e)

only-inner : (P : Corner → Type 0) → P (corner 1 1) → (v : Corner) → is_inner two_two v ≡ true → P v
only-inner P here v inner =
    each-corner (λ w. is_inner two_two w ≡ true → P w)
    (λ e. cc e, (λ e. cc e, (λ e. cc e, (λ e. cc e, (λ e. here, (λ e. cc e, (λ e. cc e, (λ e. cc e, (λ e. cc e, tt)))))))))
    v (inner-of_region two_two v inner) inner

frame : IsFrame two_two 4 1
frame = record { rows = omega arith; columns = λ v inner. omega (arith, inner-within two_two v inner) }

-- neither with a row less nor from a column further
not_frame_low : IsFrame two_two 3 1 → ⊥
not_frame_low few = omega (arith, few.rows)

not_frame_late : IsFrame two_two 4 2 → ⊥
not_frame_late late = let behind : 2 ≤ 1 = late.columns (corner 1 1) refl in omega (arith, behind)

stands : StandsAt two_two 1 1 2 63 (corner 1 0)
stands = record { of_region = refl; not_before = omega arith; reached = (corner 1 1, refl, omega arith); of_class = refl; row_is = refl; slot_is = refl }

not_stands : StandsAt two_two 1 1 2 64 (corner 1 0) → ⊥
not_stands wrong = let same : 63 ≡ 64 = wrong.slot_is in omega (arith, same)

beside : AreBesideSquare two_two 1 (corner 1 1)
beside = square-beside two_two 4 1 frame (corner 1 1) refl refl

not_beside : AreBesideSquare two_two 1 (corner 1 0) → ⊥
not_beside wrong = let same : 63 ≡ 62 = wrong.west.slot_is in omega (arith, same)

-- ---- its strings

-- both ends in the strings of the two classes, with these bits of the middle
abbrev packed : ℕ → ℕ → List ℕ
packed middle zero = 0 ∷ 0 ∷ 0 ∷ 0 ∷ 0 ∷ 6 ∷ middle ∷ 6 ∷ []
packed middle (suc class) = 0 ∷ 0 ∷ 0 ∷ 0 ∷ 0 ∷ 0 ∷ 6 ∷ []

holds_low : HoldsMarks two_two 4 1 low (packed 2) 0
holds_low v of_region near reached =
    each-corner (λ v. 1 ≤ column Square v + 1 → string_bit 4 (packed 2 (class_of Square v)) (row_of v) (slot_of Square 1 v + 0) ≡ mark two_two low v)
    (λ e. refl, (λ e. refl, (λ e. refl, (λ e. refl, (λ e. refl, (λ e. refl, (λ e. refl, (λ e. refl, (λ e. refl, tt))))))))) v of_region near

holds_high : HoldsMarks two_two 4 1 high (packed 2) 1
holds_high v of_region near reached =
    each-corner (λ v. 1 ≤ column Square v + 1 → string_bit 4 (packed 2 (class_of Square v)) (row_of v) (slot_of Square 1 v + 1) ≡ mark two_two high v)
    (λ e. refl, (λ e. refl, (λ e. refl, (λ e. refl, (λ e. refl, (λ e. refl, (λ e. refl, (λ e. refl, (λ e. refl, tt))))))))) v of_region near

holds_both : HoldsBoth two_two 4 1 low high (packed 2)
holds_both = record { low_end = holds_low; high_end = holds_high }

-- The other heights aren't held, nor the two ends the other way round.
not_holds : HoldsMarks two_two 4 1 high (packed 2) 0 → ⊥
not_holds wrong = cc (wrong (corner 1 1) refl (omega arith) (corner 1 1, refl, omega arith))

not_holds_both : HoldsBoth two_two 4 1 high low (packed 2) → ⊥
not_holds_both wrong = not_holds wrong.low_end

same_but : AreSameBut 0 (packed 2) (packed 3)
same_but zero other = absurd (other refl)
same_but (suc class) other = refl

not_same_but : AreSameBut 1 (packed 2) (packed 3) → ⊥
not_same_but wrong = let same : 3 ≡ 2 = ap (λ (words : List ℕ). slice_index words 6) (wrong 0 (λ e. cc e)) in omega (arith, same)

-- ---- strings with one word, that of row 2 in the second strip

abbrev lone : ℕ → List ℕ
lone w = 0 ∷ 0 ∷ 0 ∷ 0 ∷ 0 ∷ 0 ∷ w ∷ []

elsewhere : (w place : ℕ) → (place ≡ 6 → ⊥) → slice_index (lone w) place ≡ 0
elsewhere w zero other = refl
elsewhere w (suc zero) other = refl
elsewhere w (suc (suc zero)) other = refl
elsewhere w (suc (suc (suc zero))) other = refl
elsewhere w (suc (suc (suc (suc zero)))) other = refl
elsewhere w (suc (suc (suc (suc (suc zero))))) other = refl
elsewhere w (suc (suc (suc (suc (suc (suc zero)))))) other = absurd (other refl)
elsewhere w (suc (suc (suc (suc (suc (suc (suc place))))))) other = refl

-- a word below a power has no other bits
no-bit : (w k row slot : ℕ) → w < 2 ^ k → row < 4 → (row ≡ 2 → 64 ≤ slot → slot < 64 + k → ⊥) → string_bit 4 (lone w) row slot ≡ false
no-bit w k row slot small within other = go (cases_eq (word_place 4 row slot) 6)
  where
    zero-bit : (n : ℕ) → n ≡ 0 → eqb n 1 ≡ false
    zero-bit n e = ap (λ (m : ℕ). eqb m 1) e

    go : (word_place 4 row slot ≡ 6) ⊎ ((word_place 4 row slot ≡ 6) → ⊥) → string_bit 4 (lone w) row slot ≡ false
    go (inl e) =
        let above : k ≤ slot % 64 = omega (arith, e, within, other) in
        ap (λ (place : ℕ). eqb (bit_at (slice_index (lone w) place) (slot % 64)) 1) e ∙ zero-bit _ (bit_at_above w k (slot % 64) small above)
    go (inr h) =
        ap (λ (word : ℕ). eqb (bit_at word (slot % 64)) 1) (elsewhere w (word_place 4 row slot) h) ∙ zero-bit _ (bit_at-zero (slot % 64))

-- the slots 64 and 65 of row 2, and all others
abbrev IsOther : ℕ → ℕ → Type 0
IsOther row slot = row ≡ 2 → 64 ≤ slot → slot < 66 → ⊥

by-slot : (P : ℕ → ℕ → Type 0) → P 2 64 → P 2 65 → ((row slot : ℕ) → row < 4 → IsOther row slot → P row slot) → (row slot : ℕ) → row < 4 → P row slot
by-slot P first second others row slot within = go (cases_eq row 2) (cases_eq slot 64) (cases_eq slot 65)
  where
    go : (row ≡ 2) ⊎ ((row ≡ 2) → ⊥) → (slot ≡ 64) ⊎ ((slot ≡ 64) → ⊥) → (slot ≡ 65) ⊎ ((slot ≡ 65) → ⊥) → P row slot
    go (inl e) (inl f) any = subst (λ (r : ℕ). P r slot) (sym e) (subst (P 2) (sym f) first)
    go (inl e) (inr f) (inl g) = subst (λ (r : ℕ). P r slot) (sym e) (subst (P 2) (sym g) second)
    go (inl e) (inr f) (inr g) = others row slot within (λ i l m. omega (arith, f, g, l, m))
    go (inr e) any other = others row slot within (λ i l m. e i)

no-bits : (w row slot : ℕ) → w < 4 → row < 4 → IsOther row slot → string_bit 4 (lone w) row slot ≡ false
no-bits w row slot small within other = no-bit w 2 row slot small within other

-- ---- the fixed strings of class 0

low_slots : AreLowSlots two_two 4 1 0 (lone 1)
low_slots = record {
  has = only-inner (λ v. is_of_class two_two 0 v ≡ true → string_bit 4 (lone 1) (row_of v) (slot_of Square 1 v) ≡ true) (λ e. refl);
  only = by-slot
      (λ row slot. string_bit 4 (lone 1) row slot ≡ true
      → (v : Corner) × (is_inner two_two v ≡ true) × (is_of_class two_two 0 v ≡ true) × (row_of v ≡ row) × (slot_of Square 1 v ≡ slot))
      (λ e. (corner 1 1, refl, refl, refl, refl)) (λ e. cc e) (λ row slot within other e. cc (e, no-bits 1 row slot (omega arith) within other));
}

-- Both slots aren't low, and class 1 has none.
not_low_slots : AreLowSlots two_two 4 1 0 (lone 3) → ⊥
not_low_slots wrong = go (wrong.only 2 65 (omega arith) refl)
  where
    go : (v : Corner) × (is_inner two_two v ≡ true) × (is_of_class two_two 0 v ≡ true) × (row_of v ≡ 2) × (slot_of Square 1 v ≡ 65) → ⊥
    go (v, inner, of, row, slot) = only-inner (λ u. slot_of Square 1 u ≡ 65 → ⊥) (λ (e : 64 ≡ 65). omega (arith, e)) v inner slot

free_slots : AreFreeSlots 4 (lone 1) (lone 3)
free_slots =
    by-slot (λ row slot. 1 ≤ slot → string_bit 4 (lone 3) row slot ≡ (string_bit 4 (lone 1) row slot || string_bit 4 (lone 1) row (slot - 1))) (λ e. refl) (λ e. refl)
    (λ row slot within other l.
    no-bits 3 row slot (omega arith) within other
    ∙ sym (or_from _ _ (no-bits 1 row slot (omega arith) within other) (no-bit 1 1 row (slot - 1) (omega arith) within (λ e m n. other e (omega arith) (omega arith)))))

-- the slot after a low one is free, too
not_free_slots : AreFreeSlots 4 (lone 1) (lone 1) → ⊥
not_free_slots wrong = cc (wrong 2 65 (omega arith) (omega arith))

coins : HasCoins two_two 4 1 (λ i. true) (lone 1)
coins i v at = only-inner (λ u. string_bit 4 (lone 1) (row_of u) (slot_of Square 1 u) ≡ true) refl v (inner-at two_two v i at)

not_coins : HasCoins two_two 4 1 (λ i. false) (lone 1) → ⊥
not_coins wrong = cc (wrong 0 (corner 1 1) refl)

-- ---- a step with the coin 1: it changes the mark of the low end, and leaves that of the high end

-- two packings differ in the word of the middle alone
beside-middle : (a b place : ℕ) → (place ≡ 6 → ⊥) → slice_index (packed a 0) place ≡ slice_index (packed b 0) place
beside-middle a b zero other = refl
beside-middle a b (suc zero) other = refl
beside-middle a b (suc (suc zero)) other = refl
beside-middle a b (suc (suc (suc zero))) other = refl
beside-middle a b (suc (suc (suc (suc zero)))) other = refl
beside-middle a b (suc (suc (suc (suc (suc zero))))) other = refl
beside-middle a b (suc (suc (suc (suc (suc (suc zero)))))) other = absurd (other refl)
beside-middle a b (suc (suc (suc (suc (suc (suc (suc place))))))) other = refl

same-bit : (a b row slot : ℕ) → a < 4 → b < 4 → row < 4 → IsOther row slot → string_bit 4 (packed a 0) row slot ≡ string_bit 4 (packed b 0) row slot
same-bit a b row slot small_a small_b within other = go (cases_eq (word_place 4 row slot) 6)
  where
    at : (w : ℕ) → w < 4 → word_place 4 row slot ≡ 6 → string_bit 4 (packed w 0) row slot ≡ false
    at w small e =
        let above : 2 ≤ slot % 64 = omega (arith, e, within, other) in
        ap (λ (place : ℕ). eqb (bit_at (slice_index (packed w 0) place) (slot % 64)) 1) e
        ∙ ap (λ (bit : ℕ). eqb bit 1) (bit_at_above w 2 (slot % 64) small above)

    go : (word_place 4 row slot ≡ 6) ⊎ ((word_place 4 row slot ≡ 6) → ⊥) → string_bit 4 (packed a 0) row slot ≡ string_bit 4 (packed b 0) row slot
    go (inl e) = at a small_a e ∙ sym (at b small_b e)
    go (inr h) = ap (λ (word : ℕ). eqb (bit_at word (slot % 64)) 1) (beside-middle a b (word_place 4 row slot) h)

abbrev square_step : ℕ → ℕ → Bool
square_step row slot =
    square_bit false (string_bit 4 (packed 2 0) row slot) (string_bit 4 (packed 2 1) row (slot - 1)) (string_bit 4 (packed 2 1) row (slot + 1)) (string_bit 4 (packed 2 1) (row - 1) slot)
    (string_bit 4 (packed 2 1) (row + 1) slot) (coin_bit 4 (lone 1) (lone 1) row slot) (string_bit 4 (lone 3) row slot)

no-step : (row slot : ℕ) → row < 4 → IsOther row slot → string_bit 4 (packed 3 0) row slot ≡ square_step row slot
no-step row slot within other =
    same-bit 3 2 row slot (omega arith) (omega arith) within other
    ∙ sym
    (square-bound false (string_bit 4 (packed 2 0) row slot) (string_bit 4 (packed 2 1) row (slot - 1)) (string_bit 4 (packed 2 1) row (slot + 1)) (string_bit 4 (packed 2 1) (row - 1) slot)
    (string_bit 4 (packed 2 1) (row + 1) slot) (coin_bit 4 (lone 1) (lone 1) row slot) (string_bit 4 (lone 3) row slot) (no-bits 3 row slot (omega arith) within other))

stepped_squares : AreSteppedSquares 4 (packed 2 1) (lone 1) (lone 1) (lone 3) false (packed 2 0) (packed 3 0)
stepped_squares = record {
  stepped = λ row slot above within behind. by-slot (λ row slot. string_bit 4 (packed 3 0) row slot ≡ square_step row slot) refl refl no-step row slot within;
  kept = λ row slot above within before. same-bit 3 2 row slot (omega arith) (omega arith) within (λ e l m. omega (arith, l, before));
}

not_stepped_squares : AreSteppedSquares 4 (packed 2 1) (lone 1) (lone 1) (lone 3) false (packed 2 0) (packed 2 0) → ⊥
not_stepped_squares wrong = cc (wrong.stepped 2 64 (omega arith) (omega arith) (omega arith))

-- and the new strings hold the high heights at both ends
holds_after : HoldsBoth two_two 4 1 high high (packed 3)
holds_after = record {
  low_end = λ v of_region near reached. each-corner (λ v. 1 ≤ column Square v + 1 → string_bit 4 (packed 3 (class_of Square v)) (row_of v) (slot_of Square 1 v + 0) ≡ mark two_two high v)
      (λ e. refl, (λ e. refl, (λ e. refl, (λ e. refl, (λ e. refl, (λ e. refl, (λ e. refl, (λ e. refl, (λ e. refl, tt))))))))) v of_region near;
  high_end = λ v of_region near reached. each-corner (λ v. 1 ≤ column Square v + 1 → string_bit 4 (packed 3 (class_of Square v)) (row_of v) (slot_of Square 1 v + 1) ≡ mark two_two high v)
      (λ e. refl, (λ e. refl, (λ e. refl, (λ e. refl, (λ e. refl, (λ e. refl, (λ e. refl, (λ e. refl, (λ e. refl, tt))))))))) v of_region near;
}

-- ---- the hexagon of six triangles, with -1 or 2 in the middle

abbrev hexagon : Region
hexagon = region_of Triangle (codes "###" ∷ codes "###" ∷ [])

abbrev round_middle : ℤ → List ℤ
round_middle h =
    pos 0 ∷ pos 0 ∷ pos 0 ∷ pos 1 ∷ pos 0 ∷ pos 1 ∷ pos 0 ∷ h ∷ pos 0 ∷ pos 0 ∷ pos 0 ∷ pos 0 ∷ pos 0 ∷ pos 1 ∷ pos 0 ∷ []

frame_hexagon : IsFrame hexagon 4 1
frame_hexagon = record { rows = omega arith; columns = λ v inner. omega (arith, inner-within hexagon v inner) }

beside_hexagon : AreBesideTriangle hexagon 1 (corner 1 2)
beside_hexagon = triangle-beside hexagon 4 1 frame_hexagon (corner 1 2) refl refl

not_beside_hexagon : AreBesideTriangle hexagon 1 (corner 1 0) → ⊥
not_beside_hexagon wrong = let same : 63 ≡ 62 = wrong.west.slot_is in omega (arith, same)

-- The marks of class 0 are all 0. One of class 1 stands in the last slot of the first strip, and its high end in the next.
abbrev ends_of_class_1 : List ℕ
ends_of_class_1 = 0 ∷ 9223372036854775808 ∷ 0 ∷ 0 ∷ 0 ∷ 1 ∷ 6 ∷ 3 ∷ []

abbrev packed_hexagon : ℕ → ℕ → List ℕ
packed_hexagon middle zero = []
packed_hexagon middle (suc zero) = ends_of_class_1
packed_hexagon middle (suc (suc class)) = lone middle

each-of-hexagon : (P : Corner → Type 0) → Each P (vertices hexagon) → (w : Corner) → is_corner_of hexagon w ≡ true → P w
each-of-hexagon P all w e = Each-at P w (vertices hexagon) all (In-vertices hexagon refl w e)

holds_hexagon : HoldsBoth hexagon 4 1 (round_middle (negsuc 0)) (round_middle (pos 2)) (packed_hexagon 1)
holds_hexagon = record {
  low_end = λ v of_region near reached. each-of-hexagon
      (λ v. 1 ≤ column Triangle v + 1 → string_bit 4 (packed_hexagon 1 (class_of Triangle v)) (row_of v) (slot_of Triangle 1 v + 0) ≡ mark hexagon (round_middle (negsuc 0)) v)
      (λ e. refl, (λ e. refl, (λ e. refl, (λ e. refl, (λ e. refl, (λ e. refl, (λ e. refl, tt))))))) v of_region near;
  high_end = λ v of_region near reached. each-of-hexagon
      (λ v. 1 ≤ column Triangle v + 1 → string_bit 4 (packed_hexagon 1 (class_of Triangle v)) (row_of v) (slot_of Triangle 1 v + 1) ≡ mark hexagon (round_middle (pos 2)) v)
      (λ e. refl, (λ e. refl, (λ e. refl, (λ e. refl, (λ e. refl, (λ e. refl, (λ e. refl, tt))))))) v of_region near;
}

-- the coin 1 again
abbrev triangle_step : ℕ → ℕ → Bool
triangle_step row slot =
    triangle_bit 2 (string_bit 4 (lone 1) row slot) (string_bit 4 [] row (slot - 1)) (string_bit 4 [] (row - 1) slot) (string_bit 4 [] (row + 1) (slot + 1))
    (string_bit 4 ends_of_class_1 row (slot + 1)) (string_bit 4 ends_of_class_1 (row - 1) (slot - 1)) (string_bit 4 ends_of_class_1 (row + 1) slot)
    (coin_bit 4 (lone 1) (lone 1) row slot) (string_bit 4 (lone 3) row slot)

no-triangle_step : (row slot : ℕ) → row < 4 → IsOther row slot → string_bit 4 (lone 0) row slot ≡ triangle_step row slot
no-triangle_step row slot within other =
    no-bits 0 row slot (omega arith) within other
    ∙ sym
    (triangle-bound 2 (string_bit 4 (lone 1) row slot) (string_bit 4 [] row (slot - 1)) (string_bit 4 [] (row - 1) slot) (string_bit 4 [] (row + 1) (slot + 1))
    (string_bit 4 ends_of_class_1 row (slot + 1)) (string_bit 4 ends_of_class_1 (row - 1) (slot - 1)) (string_bit 4 ends_of_class_1 (row + 1) slot)
    (coin_bit 4 (lone 1) (lone 1) row slot) (string_bit 4 (lone 3) row slot) (no-bits 3 row slot (omega arith) within other)
    ∙ no-bits 1 row slot (omega arith) within other)

stepped_triangles : AreSteppedTriangles 4 2 [] ends_of_class_1 (lone 1) (lone 1) (lone 3) (lone 1) (lone 0)
stepped_triangles = record {
  stepped = λ row slot above within behind. by-slot (λ row slot. string_bit 4 (lone 0) row slot ≡ triangle_step row slot) refl refl no-triangle_step row slot within;
  kept = λ row slot above within before.
      no-bits 0 row slot (omega arith) within (λ e l m. omega (arith, l, before)) ∙ sym (no-bits 1 row slot (omega arith) within (λ e l m. omega (arith, l, before)));
}

not_stepped_triangles : AreSteppedTriangles 4 2 [] ends_of_class_1 (lone 1) (lone 1) (lone 3) (lone 1) (lone 1) → ⊥
not_stepped_triangles wrong = cc (wrong.stepped 2 64 (omega arith) (omega arith) (omega arith))
