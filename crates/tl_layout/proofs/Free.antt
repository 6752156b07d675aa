-- A plane of slots with, of each slot, the slot after it.
use Rattle.std.proofs.Common.{◌≡◌, ℕ, ◌+◌, ◌-◌, ◌*◌, ◌/◌, ◌%◌, ◌^◌, ◌<◌, ◌≤◌, ◌⊎◌, inl, inr, true, ◌||◌, if◌then◌else◌, List, length, get_or, max, sym, ◌∙◌, ap, subst, arith}
use Rattle.std.specs.Int.{bit_at}
use Rattle.std.specs.Prelude.{◌==◌, bit_or, nat_lt}
use Rattle.std.proofs.lemmas.Bool.{cases_lt, eqb-true, eq-eqb, le-ltb, lt-ltb, or_cases, or_left, or_right}
use Rattle.std.proofs.lemmas.Nat.Bits.{bit_at-lt, bit_at-zero, bit_at_above, bit_at_or}
use Rattle.tl_lists.proofs.Tests.{same_test}
use Rattle.tl_strings.specs.Strings.{string_bit, word_place}
use Rattle.tl_layout.specs.Slots.{AreFree, free_word}
use Rattle.tl_layout.proofs.Words.{shl-high, shl-low, shr-bit}

or-bits : (a b : ℕ) → a < 2 → b < 2 → (max a b == 1) ≡ ((a == 1) || (b == 1))
or-bits a b h k = same_test (max a b == 1) ((a == 1) || (b == 1)) to back
  where
    to : (max a b == 1) ≡ true → ((a == 1) || (b == 1)) ≡ true
    to t = go (cases_lt a 1)
      where
        go : (a < 1) ⊎ (1 ≤ a) → ((a == 1) || (b == 1)) ≡ true
        go (inl s) = or_right (a == 1) (b == 1) (eq-eqb b 1 (omega (arith, eqb-true (max a b) 1 t, s)))
        go (inr s) = or_left (a == 1) (b == 1) (eq-eqb a 1 (omega (arith, s, h)))

    back : ((a == 1) || (b == 1)) ≡ true → (max a b == 1) ≡ true
    back t = eq-eqb (max a b) 1 (go (or_cases (a == 1) (b == 1) t))
      where
        go : ((a == 1) ≡ true) ⊎ ((b == 1) ≡ true) → max a b ≡ 1
        go (inl s) = omega (arith, eqb-true a 1 s, k)
        go (inr s) = omega (arith, eqb-true b 1 s, h)

module _ (height : ℕ) (lows : List ℕ) (fits : (k : ℕ) → get_or lows k 0 < 2 ^ 64) (row slot : ℕ) (h : row < height) where
  word : ℕ
  word = word_place height row slot

  x : ℕ
  x = slot % 64

  before : ℕ
  before = if nat_lt word height then 0 else get_or lows (word - height) 0 / 2 ^ 63

  slot_bit : ℕ → ℕ
  slot_bit s = bit_at (get_or lows (word_place height row s) 0) (s % 64)

  before-small : before < 2
  unfolding before word
  before-small = go (cases_lt word height)
    where
      go : (word < height) ⊎ (height ≤ word) → (if nat_lt word height then 0 else get_or lows (word - height) 0 / 2 ^ 63) < 2
      go (inl k) = rw (lt-ltb word height k) (omega arith)
      go (inr k) = rw (le-ltb word height k) (omega (arith, fits (word - height)))

  -- the bit from the word before, where the slot is the first of its word
  from-before : x ≡ 0 → (bit_at before 0 ≡ slot_bit (slot - 1)) ⊎ ((slot ≡ 0) × (bit_at before 0 ≡ 0))
  unfolding before word x slot_bit
  from-before first = go (cases_lt slot 64)
    where
      go : (slot < 64) ⊎ (64 ≤ slot) → (bit_at before 0 ≡ slot_bit (slot - 1)) ⊎ ((slot ≡ 0) × (bit_at before 0 ≡ 0))
      go (inl k) =
          let zero_slot : slot ≡ 0 = omega (arith, first, k) in
          let strip : slot / 64 ≡ 0 = omega (arith, k) in
          let low : word_place height row slot < height = subst (λ (n : ℕ). n * height + row < height) (sym strip) (omega (arith, h)) in
          inr (zero_slot, rw (lt-ltb (word_place height row slot) height low) (bit_at-zero 0))
      go (inr k) =
          let strip : slot / 64 ≡ (slot - 1) / 64 + 1 = omega (arith, k, first) in
          let place : word_place height row slot ≡ ((slot - 1) / 64 + 1) * height + row = ap (λ (n : ℕ). n * height + row) strip in
          let high : height ≤ word_place height row slot = omega (arith, place) in
          let at : word_place height row slot - height ≡ word_place height row (slot - 1) = omega (arith, place) in
          let bit : 63 + 0 ≡ (slot - 1) % 64 = omega (arith, k, first) in
          inl (rw (le-ltb (word_place height row slot) height high) (shr-bit (get_or lows (word_place height row slot - height) 0) 63 0 ∙ ap (λ (n : ℕ). bit_at (get_or lows n 0) (63 + 0)) at ∙ ap (bit_at (get_or lows (word_place height row (slot - 1)) 0)) bit))

  free-bit : bit_at (free_word height lows (word_place height row slot)) (slot % 64) ≡ max (slot_bit slot) (slot_bit (slot - 1))
  unfolding before word x slot_bit
  free-bit = bit_at_or (bit_or here (here * 2 ^ 1 % 2 ^ 64)) before x ∙ ap (λ (n : ℕ). max n (bit_at before x)) (bit_at_or here (here * 2 ^ 1 % 2 ^ 64) x) ∙ go (cases_lt x 1)
    where
      here : ℕ
      here = get_or lows (word_place height row slot) 0

      go : (x < 1) ⊎ (1 ≤ x) → max (max (bit_at here x) (bit_at (here * 2 ^ 1 % 2 ^ 64) x)) (bit_at before x) ≡ max (bit_at here x) (slot_bit (slot - 1))
      go (inl k) = next (from-before first)
        where
          first : x ≡ 0
          first = omega (arith, k)

          shifted : bit_at (here * 2 ^ 1 % 2 ^ 64) x ≡ 0
          shifted = shl-low here 1 x (omega (arith, k)) k

          at_first : bit_at before x ≡ bit_at before 0
          at_first = ap (bit_at before) first

          next : (bit_at before 0 ≡ slot_bit (slot - 1)) ⊎ ((slot ≡ 0) × (bit_at before 0 ≡ 0))
              → max (max (bit_at here x) (bit_at (here * 2 ^ 1 % 2 ^ 64) x)) (bit_at before x) ≡ max (bit_at here x) (slot_bit (slot - 1))
          next (inl e) = omega (arith, shifted, at_first, e)
          next (inr (none, e)) =
              let same : slot_bit (slot - 1) ≡ bit_at here x = ap slot_bit (omega (arith, none)) in
              omega (arith, shifted, at_first, e, same)
      go (inr k) =
          let shifted : bit_at (here * 2 ^ 1 % 2 ^ 64) x ≡ bit_at here (x - 1) = shl-high here 1 x (omega arith) k in
          let none : bit_at before x ≡ 0 = bit_at_above before 1 x before-small k in
          let strip : (slot - 1) / 64 ≡ slot / 64 = omega (arith, k) in
          let bit : (slot - 1) % 64 ≡ x - 1 = omega (arith, k) in
          let same : slot_bit (slot - 1) ≡ bit_at here (x - 1) =
          ap (λ (n : ℕ). bit_at (get_or lows (n * height + row) 0) ((slot - 1) % 64)) strip ∙ ap (bit_at here) bit
          in
          omega (arith, shifted, none, same)

  pub free-slot : (words : List ℕ) → get_or words (word_place height row slot) 0 ≡ free_word height lows (word_place height row slot)
      → string_bit height words row slot ≡ (string_bit height lows row slot || string_bit height lows row (slot - 1))
  unfolding slot_bit
  free-slot words e =
      ap (λ (n : ℕ). n == 1) (ap (λ (m : ℕ). bit_at m (slot % 64)) e ∙ free-bit)
      ∙ or-bits (slot_bit slot) (slot_bit (slot - 1)) (bit_at-lt (get_or lows (word_place height row slot) 0) (slot % 64)) (bit_at-lt (get_or lows (word_place height row (slot - 1)) 0) ((slot - 1) % 64))

pub free-of : (height : ℕ) (lows words : List ℕ) → ((k : ℕ) → get_or lows k 0 < 2 ^ 64) → length words ≡ length lows
    → ((k : ℕ) → k < length lows → get_or words k 0 ≡ free_word height lows k) → AreFree height lows words
free-of height lows words fits size each = record {
  size = size;
  each = λ row slot h within. free-slot height lows fits row slot h words (each (word_place height row slot) within);
}
