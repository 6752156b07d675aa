-- Bits of words.
use Rattle.std.proofs.Common.{◌≡◌, ℕ, ◌+◌, ◌-◌, ◌*◌, ◌/◌, ◌%◌, ◌^◌, ◌<◌, ◌≤◌, ◌⊎◌, inl, inr, List, get_or, refl, sym, ◌∙◌, ap, subst, arith}
use Rattle.std.specs.Int.{bit_at}
use Rattle.std.specs.Prelude.{bit_and, ◌==◌, Bool}
use Rattle.std.proofs.lemmas.Bool.{agree_below_at, cases_lt, eqb-true, eq-eqb}
use Rattle.tl_lists.proofs.Tests.{same_test}
use Rattle.std.proofs.lemmas.Nat.{and_mask, mod_low, shr-shr, shr_high}
use Rattle.std.proofs.lemmas.Nat.Bits.{bit_at-lt, bit_at_and, bit_at_ones}

-- the lowest bits stay in the rest by a power
bit-mod : (n k j : ℕ) → j < k → bit_at (n % 2 ^ k) j ≡ bit_at n j
bit-mod n k j h =
    ap (λ (m : ℕ). bit_at m j) (sym (and_mask n k)) ∙ bit_at_and n (2 ^ k - 1) j
    ∙ omega (arith, bit_at_ones k j h, bit_at-lt n j)

-- two words, one after the other
bit-first : (low high s : ℕ) → low < 2 ^ 32 → s < 32 → bit_at (low + high * 2 ^ 32) s ≡ bit_at low s
bit-first low high s l h =
    sym (bit-mod (low + high * 2 ^ 32) 32 s h) ∙ ap (λ (m : ℕ). bit_at m s) (ap (λ (m : ℕ). m % 2 ^ 32) (omega arith) ∙ mod_low high 32 low l)

bit-second : (low high s : ℕ) → low < 2 ^ 32 → bit_at (low + high * 2 ^ 32) (32 + s) ≡ bit_at high s
bit-second low high s l =
    ap (λ (m : ℕ). m % 2) (sym (shr-shr (low + high * 2 ^ 32) 32 s) ∙ ap (λ (m : ℕ). m / 2 ^ s) (ap (λ (m : ℕ). m / 2 ^ 32) (omega arith) ∙ shr_high high 32 low l))

pub bit-across : (words : List ℕ) (low high i j : ℕ) → low < 2 ^ 32 → j < 32 → low ≡ get_or words (i / 32) 0 → high ≡ get_or words (i / 32 + 1) 0
    → bit_at ((low + high * 2 ^ 32) / 2 ^ (i % 32) % 2 ^ 32) j ≡ bit_at (get_or words ((i + j) / 32) 0) ((i + j) % 32)
bit-across words low high i j l h e f =
    bit-mod ((low + high * 2 ^ 32) / 2 ^ (i % 32)) 32 j h ∙ ap (λ (m : ℕ). m % 2) (shr-shr (low + high * 2 ^ 32) (i % 32) j) ∙ go (cases_lt (i % 32 + j) 32)
  where
    go : (i % 32 + j < 32) ⊎ (32 ≤ i % 32 + j) → bit_at (low + high * 2 ^ 32) (i % 32 + j) ≡ bit_at (get_or words ((i + j) / 32) 0) ((i + j) % 32)
    go (inl s) =
        let word : i / 32 ≡ (i + j) / 32 = omega (arith, s) in
        let bit : i % 32 + j ≡ (i + j) % 32 = omega (arith, s) in
        bit-first low high (i % 32 + j) l s ∙ ap (λ (m : ℕ). bit_at m (i % 32 + j)) (e ∙ ap (λ (n : ℕ). get_or words n 0) word) ∙ ap (bit_at (get_or words ((i + j) / 32) 0)) bit
    go (inr s) =
        let word : i / 32 + 1 ≡ (i + j) / 32 = omega (arith, s, h) in
        let bit : i % 32 + j - 32 ≡ (i + j) % 32 = omega (arith, s, h) in
        let sum : i % 32 + j ≡ 32 + (i % 32 + j - 32) = omega (arith, s) in
        ap (bit_at (low + high * 2 ^ 32)) sum ∙ bit-second low high (i % 32 + j - 32) l
        ∙ ap (λ (m : ℕ). bit_at m (i % 32 + j - 32)) (f ∙ ap (λ (n : ℕ). get_or words n 0) word) ∙ ap (bit_at (get_or words ((i + j) / 32) 0)) bit

-- the bits of every second place
pub even-bits : (j : ℕ) → j < 32 → (bit_at 0x5555_5555 j == 1) ≡ (j % 2 == 0)
even-bits j h = agree_below_at (λ n. bit_at 0x5555_5555 n == 1) (λ n. n % 2 == 0) 32 j refl h

pub odd-bits : (j : ℕ) → j < 32 → (bit_at 0xAAAA_AAAA j == 1) ≡ (j % 2 == 1)
odd-bits j h = agree_below_at (λ n. bit_at 0xAAAA_AAAA n == 1) (λ n. n % 2 == 1) 32 j refl h

-- those of a class, by the class of the first place
pub class-even : (first class j : ℕ) → j < 32 → first % 2 ≡ class → (bit_at 0x5555_5555 j == 1) ≡ ((first + j) % 2 == class)
class-even first class j h e =
    even-bits j h
    ∙ same_test (j % 2 == 0) ((first + j) % 2 == class) (λ t. let even = eqb-true (j % 2) 0 t in eq-eqb ((first + j) % 2) class (omega (arith, even, e)))
    (λ t. let same = eqb-true ((first + j) % 2) class t in eq-eqb (j % 2) 0 (omega (arith, same, e)))

pub class-odd : (first class j : ℕ) → j < 32 → class < 2 → (first % 2 ≡ class → ⊥) → (bit_at 0xAAAA_AAAA j == 1) ≡ ((first + j) % 2 == class)
class-odd first class j h c e =
    odd-bits j h
    ∙ same_test (j % 2 == 1) ((first + j) % 2 == class) (λ t. let odd = eqb-true (j % 2) 1 t in eq-eqb ((first + j) % 2) class (omega (arith, odd, e, c)))
    (λ t. let same = eqb-true ((first + j) % 2) class t in eq-eqb (j % 2) 1 (omega (arith, same, e, c)))
