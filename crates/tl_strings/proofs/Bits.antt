-- Bits of words that are made of others by `&`, `|`, `^`, `!` and shifts.
use Rattle.std.proofs.Common.{◌≡◌, ℕ, zero, suc, ◌+◌, ◌-◌, ◌*◌, ◌/◌, ◌%◌, ◌^◌, ◌<◌, ◌≤◌, ◌==◌, ◌⊎◌, inl, inr, Bool, true, false, not, ◌&&◌, ◌||◌, cond, min, max, refl, sym, ap, ◌∙◌, arith, w64}
use Rattle.std.specs.Prelude.{bit_and, bit_or, bit_xor}
use Rattle.std.specs.Int.{bit_at}
use Rattle.std.proofs.lemmas.Bool.{cases_eq, cond-true, cond-false, eq-eqb, ne_eqb}
use Rattle.std.proofs.lemmas.Nat.{pow_pos, shr-shr, shr_split, xor_lt}
use Rattle.std.proofs.lemmas.Nat.Bits.{bit_at-lt, bit_at-zero, bit_at_above, bit_at_and, bit_at_cat_high, bit_at_cat_low, bit_at_not, bit_at_or, bit_at_xor}
use Rattle.tl_strings.specs.Steps.{across, all_three, differ, stepped_bit, upright}
use Rattle.tl_strings.specs.Words.{bit, bit_before, bit_behind}

and_two : (m n : ℕ) → m < 2 → n < 2 → (min m n == 1) ≡ ((m == 1) && (n == 1))
and_two zero zero h k = refl
and_two zero (suc zero) h k = refl
and_two (suc zero) zero h k = refl
and_two (suc zero) (suc zero) h k = refl
and_two (suc (suc m)) n h k = absurd (omega arith)
and_two m (suc (suc n)) h k = absurd (omega arith)

or_two : (m n : ℕ) → m < 2 → n < 2 → (max m n == 1) ≡ ((m == 1) || (n == 1))
or_two zero zero h k = refl
or_two zero (suc zero) h k = refl
or_two (suc zero) zero h k = refl
or_two (suc zero) (suc zero) h k = refl
or_two (suc (suc m)) n h k = absurd (omega arith)
or_two m (suc (suc n)) h k = absurd (omega arith)

xor_two : (m n : ℕ) → m < 2 → n < 2 → ((m + n) % 2 == 1) ≡ differ (m == 1) (n == 1)
xor_two zero zero h k = refl
xor_two zero (suc zero) h k = refl
xor_two (suc zero) zero h k = refl
xor_two (suc zero) (suc zero) h k = refl
xor_two (suc (suc m)) n h k = absurd (omega arith)
xor_two m (suc (suc n)) h k = absurd (omega arith)

not_two : (m : ℕ) → m < 2 → (1 - m == 1) ≡ not (m == 1)
not_two zero h = refl
not_two (suc zero) h = refl
not_two (suc (suc m)) h = absurd (omega arith)

pub bit-and : (a b i : ℕ) → bit (bit_and a b) i ≡ (bit a i && bit b i)
bit-and a b i = ap (λ (d : ℕ). d == 1) (bit_at_and a b i) ∙ and_two (bit_at a i) (bit_at b i) (bit_at-lt a i) (bit_at-lt b i)

pub bit-or : (a b i : ℕ) → bit (bit_or a b) i ≡ (bit a i || bit b i)
bit-or a b i = ap (λ (d : ℕ). d == 1) (bit_at_or a b i) ∙ or_two (bit_at a i) (bit_at b i) (bit_at-lt a i) (bit_at-lt b i)

pub bit-xor : (a b i : ℕ) → bit (bit_xor a b) i ≡ differ (bit a i) (bit b i)
bit-xor a b i = ap (λ (d : ℕ). d == 1) (bit_at_xor a b i) ∙ xor_two (bit_at a i) (bit_at b i) (bit_at-lt a i) (bit_at-lt b i)

pub bit-not : (a i : ℕ) → a < 2 ^ 64 → i < 64 → bit (2 ^ 64 - 1 - a) i ≡ not (bit a i)
bit-not a i fits within = ap (λ (d : ℕ). d == 1) (bit_at_not w64 a i fits within) ∙ not_two (bit_at a i) (bit_at-lt a i)

-- ---- shifts

bit_at-mod : (n k i : ℕ) → i < k → bit_at (n % 2 ^ k) i ≡ bit_at n i
bit_at-mod n k i within = sym (bit_at_cat_low (n / 2 ^ k) k (n % 2 ^ k) i within) ∙ ap (λ (m : ℕ). bit_at m i) (shr_split n k)

-- below the shift there is no bit
pub bit-shl_below : (a k i : ℕ) → i < k → i < 64 → bit (a * 2 ^ k % 2 ^ 64) i ≡ false
bit-shl_below a k i below within =
    ap (λ (d : ℕ). d == 1) (bit_at-mod (a * 2 ^ k) 64 i within ∙ ap (λ (m : ℕ). bit_at m i) (omega arith) ∙ bit_at_cat_low a k 0 i below ∙ bit_at-zero i)

pub bit-shl : (a k i : ℕ) → k ≤ i → i < 64 → bit (a * 2 ^ k % 2 ^ 64) i ≡ bit a (i - k)
bit-shl a k i above within =
    ap (λ (d : ℕ). d == 1) (bit_at-mod (a * 2 ^ k) 64 i within ∙ ap (λ (m : ℕ). bit_at m i) (omega arith) ∙ bit_at_cat_high a k 0 i (pow_pos k) above)

pub bit-shr : (a k i : ℕ) → bit (a / 2 ^ k) i ≡ bit a (k + i)
bit-shr a k i = ap (λ (m : ℕ). m % 2 == 1) (shr-shr a k i)

bit-above : (a i : ℕ) → a < 2 ^ 64 → 64 ≤ i → bit a i ≡ false
bit-above a i fits above = ap (λ (d : ℕ). d == 1) (bit_at_above a 64 i fits above)

pub bit-nothing : (i : ℕ) → bit 0 i ≡ false
bit-nothing i = ap (λ (d : ℕ). d == 1) (bit_at-zero i)

pub or_none : (b : Bool) → (b || false) ≡ b
or_none true = refl
or_none false = refl

-- a word one place up, after its previous one
pub bit-moved_up : (word previous place : ℕ) → previous < 2 ^ 64 → place < 64 → bit (bit_or (word * 2 ^ 1 % 2 ^ 64) (previous / 2 ^ 63)) place ≡ bit_before word previous place
bit-moved_up word previous place fits within = bit-or (word * 2 ^ 1 % 2 ^ 64) (previous / 2 ^ 63) place ∙ go (cases_eq place 0)
  where
    go : (place ≡ 0) ⊎ (place ≡ 0 → ⊥) → (bit (word * 2 ^ 1 % 2 ^ 64) place || bit (previous / 2 ^ 63) place) ≡ bit_before word previous place
    go (inl lowest) =
        let last : 63 + place ≡ 63 = omega (arith, lowest) in
        (λ t. bit-shl_below word 1 place (omega (arith, lowest)) within t || (bit-shr previous 63 place ∙ ap (bit previous) last) t)
        ∙ sym (cond-true (place == 0) (bit previous 63) (bit word (place - 1)) (eq-eqb place 0 lowest))
    go (inr other) =
        let above : 1 ≤ place = omega (arith, other) in
        (λ t. bit-shl word 1 place above within t || (bit-shr previous 63 place ∙ bit-above previous (63 + place) fits (omega arith)) t)
        ∙ or_none (bit word (place - 1)) ∙ sym (cond-false (place == 0) (bit previous 63) (bit word (place - 1)) (ne_eqb place 0 other))

-- a word one place down, before its next one
pub bit-moved_down : (word next place : ℕ) → word < 2 ^ 64 → place < 64 → bit (bit_or (word / 2 ^ 1) (next * 2 ^ 63 % 2 ^ 64)) place ≡ bit_behind word next place
bit-moved_down word next place fits within = bit-or (word / 2 ^ 1) (next * 2 ^ 63 % 2 ^ 64) place ∙ go (cases_eq place 63)
  where
    go : (place ≡ 63) ⊎ (place ≡ 63 → ⊥) → (bit (word / 2 ^ 1) place || bit (next * 2 ^ 63 % 2 ^ 64) place) ≡ bit_behind word next place
    go (inl last) =
        let lowest : place - 63 ≡ 0 = omega (arith, last) in
        (λ t. (bit-shr word 1 place ∙ bit-above word (1 + place) fits (omega (arith, last))) t || (bit-shl next 63 place (omega (arith, last)) within ∙ ap (bit next) lowest) t)
        ∙ sym (cond-true (place == 63) (bit next 0) (bit word (place + 1)) (eq-eqb place 63 last))
    go (inr other) =
        let behind : 1 + place ≡ place + 1 = omega arith in
        (λ t. (bit-shr word 1 place ∙ ap (bit word) behind) t || bit-shl_below next 63 place (omega (arith, other)) within t)
        ∙ or_none (bit word (place + 1)) ∙ sym (cond-false (place == 63) (bit next 0) (bit word (place + 1)) (ne_eqb place 63 other))

-- two words, both after theirs
pub bit_before-and : (a b c d place : ℕ) → bit_before (bit_and a b) (bit_and c d) place ≡ (bit_before a c place && bit_before b d place)
bit_before-and a b c d place = by (place == 0)
  where
    by : (t : Bool) → cond t (bit (bit_and c d) 63) (bit (bit_and a b) (place - 1)) ≡ (cond t (bit c 63) (bit a (place - 1)) && cond t (bit d 63) (bit b (place - 1)))
    by true = bit-and c d 63
    by false = bit-and a b (place - 1)

-- ---- choices and steps

pub choice : (mask one other : Bool) → ((one && mask) || (other && not mask)) ≡ cond mask one other
choice true true true = refl
choice true true false = refl
choice true false true = refl
choice true false false = refl
choice false true true = refl
choice false true false = refl
choice false false true = refl
choice false false false = refl

pub both_ways : (a b : Bool) → (a && b) ≡ (b && a)
both_ways true true = refl
both_ways true false = refl
both_ways false true = refl
both_ways false false = refl

pub bit-chosen : (mask one other place : ℕ) → mask < 2 ^ 64 → place < 64
    → bit (bit_or (bit_and one mask) (bit_and other (2 ^ 64 - 1 - mask))) place ≡ cond (bit mask place) (bit one place) (bit other place)
bit-chosen mask one other place fits within =
    bit-or (bit_and one mask) (bit_and other (2 ^ 64 - 1 - mask)) place
    ∙ (λ t. bit-and one mask place t || (bit-and other (2 ^ 64 - 1 - mask) place ∙ ap (λ b. bit other place && b) (bit-not mask place fits within)) t)
    ∙ choice (bit mask place) (bit one place) (bit other place)

pub bit-stepped : (here all_to all_from coin free place : ℕ) → coin < 2 ^ 64 → place < 64
    → bit (bit_xor here (bit_and (bit_or (bit_and all_to coin) (bit_and all_from (2 ^ 64 - 1 - coin))) free)) place
    ≡ stepped_bit (bit here place) (bit all_to place) (bit all_from place) (bit coin place) (bit free place)
bit-stepped here all_to all_from coin free place fits within =
    let change = bit_or (bit_and all_to coin) (bit_and all_from (2 ^ 64 - 1 - coin)) in
    bit-xor here (bit_and change free) place
    ∙ ap (differ (bit here place))
    (bit-and change free place ∙ both_ways (bit change place) (bit free place) ∙ ap (λ b. bit free place && b) (bit-chosen coin all_to all_from place fits within))

-- ---- edges

pub bit-across_odd : (is_odd : Bool) (here west east place : ℕ) → is_odd ≡ true → here < 2 ^ 64 → east < 2 ^ 64 → place < 64
    → bit (bit_and (bit_xor west here) (2 ^ 64 - 1 - bit_xor east here)) place ≡ across is_odd (bit here place) (bit west place) (bit east place)
bit-across_odd is_odd here west east place odd here_fits east_fits within =
    bit-and (bit_xor west here) (2 ^ 64 - 1 - bit_xor east here) place
    ∙ (λ t. bit-xor west here place t && (bit-not (bit_xor east here) place (xor_lt 64 east here east_fits here_fits) within ∙ ap not (bit-xor east here place)) t)
    ∙ sym (cond-true is_odd _ _ odd)

pub bit-across_even : (is_odd : Bool) (here west east place : ℕ) → is_odd ≡ false → here < 2 ^ 64 → west < 2 ^ 64 → place < 64
    → bit (bit_and (2 ^ 64 - 1 - bit_xor west here) (bit_xor east here)) place ≡ across is_odd (bit here place) (bit west place) (bit east place)
bit-across_even is_odd here west east place even here_fits west_fits within =
    bit-and (2 ^ 64 - 1 - bit_xor west here) (bit_xor east here) place
    ∙ (λ t. (bit-not (bit_xor west here) place (xor_lt 64 west here west_fits here_fits) within ∙ ap not (bit-xor west here place)) t && bit-xor east here place t)
    ∙ sym (cond-false is_odd _ _ even)

pub bit-upright : (here north south place : ℕ) → bit (bit_and (bit_xor north here) (bit_xor south here)) place ≡ upright (bit here place) (bit north place) (bit south place)
bit-upright here north south place =
    bit-and (bit_xor north here) (bit_xor south here) place ∙ (λ t. bit-xor north here place t && bit-xor south here place t)

pub turned : (a b c : Bool) → c ≡ true → differ a (not b) ≡ differ (differ a b) c
turned true true c e = ap (differ false) (sym e)
turned true false c e = ap (differ true) (sym e)
turned false true c e = ap (differ true) (sym e)
turned false false c e = ap (differ false) (sym e)

pub plain : (a b c : Bool) → c ≡ false → differ a b ≡ differ (differ a b) c
plain true true c e = ap (differ false) (sym e)
plain true false c e = ap (differ true) (sym e)
plain false true c e = ap (differ true) (sym e)
plain false false c e = ap (differ false) (sym e)

three : (same first second third place : ℕ)
    → bit (bit_and (bit_and (bit_xor first same) (bit_xor second same)) (bit_xor third same)) place
    ≡ (differ (bit first place) (bit same place) && differ (bit second place) (bit same place) && differ (bit third place) (bit same place))
three same first second third place =
    bit-and (bit_and (bit_xor first same) (bit_xor second same)) (bit_xor third same) place
    ∙ (λ t. (bit-and (bit_xor first same) (bit_xor second same) place ∙ (λ s. bit-xor first same place s && bit-xor second same place s)) t && bit-xor third same place t)

pub bit-three_turned : (is_turned : Bool) (here same first second third place : ℕ) → is_turned ≡ true → same ≡ 2 ^ 64 - 1 - here → here < 2 ^ 64 → place < 64
    → bit (bit_and (bit_and (bit_xor first same) (bit_xor second same)) (bit_xor third same)) place
    ≡ all_three is_turned (bit here place) (bit first place) (bit second place) (bit third place)
bit-three_turned is_turned here same first second third place is e fits within =
    three same first second third place
    ∙ (λ t. side (bit first place) t && side (bit second place) t && side (bit third place) t)
  where
    side : (b : Bool) → differ b (bit same place) ≡ differ (differ b (bit here place)) is_turned
    side b = ap (differ b) (ap (λ (w : ℕ). bit w place) e ∙ bit-not here place fits within) ∙ turned b (bit here place) is_turned is

pub bit-three_plain : (is_turned : Bool) (here same first second third place : ℕ) → is_turned ≡ false → same ≡ here
    → bit (bit_and (bit_and (bit_xor first same) (bit_xor second same)) (bit_xor third same)) place
    ≡ all_three is_turned (bit here place) (bit first place) (bit second place) (bit third place)
bit-three_plain is_turned here same first second third place is e =
    three same first second third place
    ∙ (λ t. side (bit first place) t && side (bit second place) t && side (bit third place) t)
  where
    side : (b : Bool) → differ b (bit same place) ≡ differ (differ b (bit here place)) is_turned
    side b = ap (λ (w : ℕ). differ b (bit w place)) e ∙ plain b (bit here place) is_turned is
