-- Bits of words that are shifted or joined.
use Rattle.std.proofs.Common.{◌≡◌, ℕ, ◌+◌, ◌-◌, ◌*◌, ◌/◌, ◌%◌, ◌^◌, ◌<◌, ◌≤◌, ◌⊎◌, inl, inr, if◌then◌else◌, List, get_or, min, max, sym, ◌∙◌, ap, arith}
use Rattle.std.specs.Int.{bit_at, w64}
use Rattle.std.specs.Prelude.{bit_and, bit_or, ◌==◌}
use Rattle.std.proofs.lemmas.Bool.{cases_lt}
use Rattle.std.proofs.lemmas.Nat.{and_mask, pow_pos, shr-shr}
use Rattle.std.proofs.lemmas.Nat.Bits.{bit_at-lt, bit_at-zero, bit_at_above, bit_at_and, bit_at_cat_high, bit_at_cat_low, bit_at_not, bit_at_ones, bit_at_or}
use Rattle.tl_layout.specs.Coins.{raw_bit}

-- the lowest bits stay in the rest by a power
bit-mod : (n k j : ℕ) → j < k → bit_at (n % 2 ^ k) j ≡ bit_at n j
bit-mod n k j h =
    ap (λ (m : ℕ). bit_at m j) (sym (and_mask n k)) ∙ bit_at_and n (2 ^ k - 1) j
    ∙ omega (arith, bit_at_ones k j h, bit_at-lt n j)

pub shr-bit : (n k j : ℕ) → bit_at (n / 2 ^ k) j ≡ bit_at n (k + j)
shr-bit n k j = ap (λ (m : ℕ). m % 2) (shr-shr n k j)

pub shl-low : (n k j : ℕ) → j < 64 → j < k → bit_at (n * 2 ^ k % 2 ^ 64) j ≡ 0
shl-low n k j h l = bit-mod (n * 2 ^ k) 64 j h ∙ ap (λ (m : ℕ). bit_at m j) plain ∙ bit_at_cat_low n k 0 j l ∙ bit_at-zero j
  where
    plain : n * 2 ^ k ≡ n * 2 ^ k + 0
    plain = omega arith

pub shl-high : (n k j : ℕ) → j < 64 → k ≤ j → bit_at (n * 2 ^ k % 2 ^ 64) j ≡ bit_at n (j - k)
shl-high n k j h l = bit-mod (n * 2 ^ k) 64 j h ∙ ap (λ (m : ℕ). bit_at m j) plain ∙ bit_at_cat_high n k 0 j (pow_pos k) l
  where
    plain : n * 2 ^ k ≡ n * 2 ^ k + 0
    plain = omega arith

-- ---- 64 bits of three words of 32 bits

-- two words, one behind the other
low : ℕ → ℕ → ℕ
low a b = bit_or a (b * 2 ^ 32 % 2 ^ 64)

low-first : (a b j : ℕ) → j < 32 → bit_at (low a b) j ≡ bit_at a j
unfolding low
low-first a b j h = bit_at_or a (b * 2 ^ 32 % 2 ^ 64) j ∙ omega (arith, shl-low b 32 j (omega (arith, h)) h)

low-second : (a b j : ℕ) → a < 2 ^ 32 → 32 ≤ j → j < 64 → bit_at (low a b) j ≡ bit_at b (j - 32)
unfolding low
low-second a b j s l h = bit_at_or a (b * 2 ^ 32 % 2 ^ 64) j ∙ omega (arith, shl-high b 32 j h l, bit_at_above a 32 j s l)

low-third : (a b j : ℕ) → a < 2 ^ 32 → 64 ≤ j → bit_at (low a b) j ≡ 0
unfolding low
low-third a b j s l =
    bit_at_or a (b * 2 ^ 32 % 2 ^ 64) j
    ∙ omega (arith, bit_at_above (b * 2 ^ 32 % 2 ^ 64) 64 j (omega arith) l, bit_at_above a 32 j s (omega (arith, l)))

-- a third word, where all are shifted
high : ℕ → ℕ → ℕ
high d s = d * 2 ^ 32 % 2 ^ 64 * 2 % 2 ^ 64 * 2 ^ (31 - s) % 2 ^ 64

high-none : (d s x : ℕ) → s < 32 → x < 64 → s + x < 64 → bit_at (high d s) x ≡ 0
unfolding high
high-none d s x small h l = go (cases_lt x (31 - s))
  where
    e : ℕ
    e = d * 2 ^ 32 % 2 ^ 64 * 2 ^ 1 % 2 ^ 64

    next : 31 - s ≤ x → (x - (31 - s) < 1) ⊎ (1 ≤ x - (31 - s)) → bit_at e (x - (31 - s)) ≡ 0
    next m (inl k) = shl-low (d * 2 ^ 32 % 2 ^ 64) 1 (x - (31 - s)) (omega (arith, h)) k
    next m (inr k) =
        shl-high (d * 2 ^ 32 % 2 ^ 64) 1 (x - (31 - s)) (omega (arith, h)) k
        ∙ shl-low d 32 (x - (31 - s) - 1) (omega (arith, h)) (omega (arith, l, m, small))

    go : (x < 31 - s) ⊎ (31 - s ≤ x) → bit_at (e * 2 ^ (31 - s) % 2 ^ 64) x ≡ 0
    go (inl k) = shl-low e (31 - s) x h k
    go (inr k) = shl-high e (31 - s) x h k ∙ next k (cases_lt (x - (31 - s)) 1)

high-some : (d s x : ℕ) → s < 32 → x < 64 → 64 ≤ s + x → bit_at (high d s) x ≡ bit_at d (s + x - 64)
unfolding high
high-some d s x small h l =
    shl-high e (31 - s) x h (omega (arith, l, small))
    ∙ shl-high (d * 2 ^ 32 % 2 ^ 64) 1 (x - (31 - s)) (omega (arith, h)) (omega (arith, l, small))
    ∙ shl-high d 32 (x - (31 - s) - 1) (omega (arith, h)) (omega (arith, l, small))
    ∙ ap (bit_at d) place
  where
    e : ℕ
    e = d * 2 ^ 32 % 2 ^ 64 * 2 ^ 1 % 2 ^ 64

    place : x - (31 - s) - 1 - 32 ≡ s + x - 64
    place = omega (arith, l, small)

pub cut-bit : (raw : List ℕ) (from s x a b d : ℕ) → s < 32 → x < 64 → a < 2 ^ 32
    → a ≡ get_or raw from 0 → b ≡ get_or raw (from + 1) 0 → d ≡ get_or raw (from + 2) 0
    → bit_at (bit_or (bit_or a (b * 2 ^ 32 % 2 ^ 64) / 2 ^ s) (d * 2 ^ 32 % 2 ^ 64 * 2 % 2 ^ 64 * 2 ^ (31 - s) % 2 ^ 64)) x
    ≡ raw_bit raw (32 * from + s + x)
unfolding low high
cut-bit raw from s x a b d small h fits first second third =
    bit_at_or (low a b / 2 ^ s) (high d s) x ∙ go (cases_lt (s + x) 32) (cases_lt (s + x) 64)
  where
    shifted : bit_at (low a b / 2 ^ s) x ≡ bit_at (low a b) (s + x)
    shifted = shr-bit (low a b) s x

    place : (n : ℕ) → 32 * n ≤ 32 * from + s + x → 32 * from + s + x < 32 * n + 32 → bit_at (get_or raw n 0) (32 * from + s + x - 32 * n) ≡ raw_bit raw (32 * from + s + x)
    place n lower upper =
        let word : n ≡ (32 * from + s + x) / 32 = omega (arith, lower, upper) in
        let bit : 32 * from + s + x - 32 * n ≡ (32 * from + s + x) % 32 = omega (arith, lower, upper) in
        ap (λ (m : ℕ). bit_at (get_or raw m 0) (32 * from + s + x - 32 * n)) word ∙ ap (bit_at (get_or raw ((32 * from + s + x) / 32) 0)) bit

    of_word : (m n j : ℕ) → m ≡ get_or raw n 0 → j ≡ 32 * from + s + x - 32 * n → bit_at m j ≡ bit_at (get_or raw n 0) (32 * from + s + x - 32 * n)
    of_word m n j e f = ap (λ (k : ℕ). bit_at k j) e ∙ ap (bit_at (get_or raw n 0)) f

    go : (s + x < 32) ⊎ (32 ≤ s + x) → (s + x < 64) ⊎ (64 ≤ s + x)
        → max (bit_at (low a b / 2 ^ s) x) (bit_at (high d s) x) ≡ raw_bit raw (32 * from + s + x)
    go (inl k) m =
        let value : bit_at a (s + x) ≡ raw_bit raw (32 * from + s + x) =
        of_word a from (s + x) first (omega arith) ∙ place from (omega arith) (omega (arith, k)) in
        omega (arith, shifted, low-first a b (s + x) k, high-none d s x small h (omega (arith, k)), value)
    go (inr k) (inl m) =
        let value : bit_at b (s + x - 32) ≡ raw_bit raw (32 * from + s + x) =
        of_word b (from + 1) (s + x - 32) second (omega (arith, k)) ∙ place (from + 1) (omega (arith, k)) (omega (arith, m)) in
        omega (arith, shifted, low-second a b (s + x) fits k m, high-none d s x small h m, value)
    go (inr k) (inr m) =
        let value : bit_at d (s + x - 64) ≡ raw_bit raw (32 * from + s + x) =
        of_word d (from + 2) (s + x - 64) third (omega (arith, m)) ∙ place (from + 2) (omega (arith, m)) (omega (arith, small, h)) in
        omega (arith, shifted, low-third a b (s + x) fits m, high-some d s x small h m, value)

-- ---- a word with some bits of another one

pub mixed-bit : (word bits mask x : ℕ) → mask < 2 ^ 64 → x < 64
    → bit_at (bit_or (bit_and word (18446744073709551615 - mask)) (bit_and bits mask)) x ≡ (if bit_at mask x == 1 then bit_at bits x else bit_at word x)
mixed-bit word bits mask x fits h =
    bit_at_or (bit_and word (18446744073709551615 - mask)) (bit_and bits mask) x ∙ go (cases_lt (bit_at mask x) 1)
  where
    kept : bit_at (bit_and word (18446744073709551615 - mask)) x ≡ min (bit_at word x) (1 - bit_at mask x)
    kept = bit_at_and word (18446744073709551615 - mask) x ∙ ap (min (bit_at word x)) (bit_at_not w64 mask x fits h)

    put : bit_at (bit_and bits mask) x ≡ min (bit_at bits x) (bit_at mask x)
    put = bit_at_and bits mask x

    go : (bit_at mask x < 1) ⊎ (1 ≤ bit_at mask x)
        → max (bit_at (bit_and word (18446744073709551615 - mask)) x) (bit_at (bit_and bits mask) x) ≡ (if bit_at mask x == 1 then bit_at bits x else bit_at word x)
    go (inl k) =
        let zero_bit : bit_at mask x ≡ 0 = omega (arith, k) in
        rw zero_bit (omega (arith, kept, put, zero_bit, bit_at-lt word x))
    go (inr k) =
        let one_bit : bit_at mask x ≡ 1 = omega (arith, k, bit_at-lt mask x) in
        rw one_bit (omega (arith, kept, put, one_bit, bit_at-lt bits x))
