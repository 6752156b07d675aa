-- Words that are compared under a mask.
use Rattle.std.proofs.Common.{◌≡◌, ℕ, ◌^◌, ◌<◌, Bool, true, false, ◌&&◌, refl, sym, ◌∙◌, ap, arith, lt_of_le_of_lt}
use Rattle.std.specs.Prelude.{◌==◌, bit_and, bit_xor}
use Rattle.std.specs.Int.{bit_at}
use Rattle.std.proofs.lemmas.Bool.{eqb-false}
use Rattle.std.proofs.lemmas.Nat.{and_le_l, xor_lt}
use Rattle.std.proofs.lemmas.Nat.Bits.{bit_at-lt, bit_at-zero, same_from_bits_below}
use Rattle.tl_strings.specs.Steps.{differ}
use Rattle.tl_strings.specs.Words.{bit}
use Rattle.tl_strings.proofs.Stated.{bit-and, bit-xor}
use Rattle.tl_packed.specs.Masked.{AgreeUnder}

-- the bits of what is left under the mask
left-bit : (low one other x : ℕ) → bit (bit_and (bit_xor one other) low) x ≡ (differ (bit one x) (bit other x) && bit low x)
left-bit low one other x = bit-and (bit_xor one other) low x ∙ ap (λ b. b && bit low x) (bit-xor one other x)

same-bit : (a b m : Bool) → (differ a b && m) ≡ false → m ≡ true → a ≡ b
same-bit true true m e t = refl
same-bit false false m e t = refl
same-bit true false m e t = absurd (cc (e, t))
same-bit false true m e t = absurd (cc (e, t))

no-bit : (a b m : Bool) → (m ≡ true → a ≡ b) → (differ a b && m) ≡ false
no-bit true true m same = refl
no-bit false false m same = refl
no-bit a b false same = both_false (differ a b)
  where
    both_false : (c : Bool) → (c && false) ≡ false
    both_false true = refl
    both_false false = refl
no-bit true false true same = absurd (cc (same refl))
no-bit false true true same = absurd (cc (same refl))

pub nothing-left : (low one other : ℕ) → bit_and (bit_xor one other) low ≡ 0 → AgreeUnder low one other
nothing-left low one other e x within set = same-bit (bit one x) (bit other x) (bit low x) (sym (left-bit low one other x) ∙ (ap (λ (n : ℕ). bit n x) e ∙ ap (λ (d : ℕ). d == 1) (bit_at-zero x))) set

pub agree-nothing : (low one other : ℕ) → one < 2 ^ 64 → other < 2 ^ 64 → AgreeUnder low one other → bit_and (bit_xor one other) low ≡ 0
agree-nothing low one other one_fits other_fits agree = same_from_bits_below 64 left 0 (lt_of_le_of_lt (and_le_l (bit_xor one other) low) (xor_lt 64 one other one_fits other_fits)) (omega arith) zeros
  where
    left : ℕ
    left = bit_and (bit_xor one other) low

    zeros : (x : ℕ) → x < 64 → bit_at left x ≡ bit_at 0 x
    zeros x within =
        let none = left-bit low one other x ∙ no-bit (bit one x) (bit other x) (bit low x) (agree x within) in
        let few = bit_at-lt left x in
        let not_one : bit_at left x ≡ 1 → ⊥ = eqb-false _ _ none in
        let zero : bit_at left x ≡ 0 = omega (arith, few, not_one) in
        zero ∙ sym (bit_at-zero x)
