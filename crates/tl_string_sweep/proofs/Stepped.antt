-- Steps at all slots but those of the first words and of the last, none of which is free, are steps at all slots.
use Rattle.std.proofs.Common.{◌≡◌, ℕ, ◌+◌, ◌-◌, ◌/◌, ◌%◌, ◌<◌, ◌≤◌, ◌⊎◌, inl, inr, Bool, false, List, length, sym, ◌∙◌, ap, arith}
use Rattle.std.specs.Int.{bit_at}
use Rattle.std.specs.Prelude.{◌==◌, slice_index}
use Rattle.std.proofs.lemmas.Bool.{cases_lt, false_from_ne_true}
use Rattle.std.proofs.Math.Nat.{mul-le-mul_right}
use Rattle.tl_strings.specs.Strings.{string_bit, word_place}
use Rattle.tl_strings.specs.Steps.{coin_bit}
use Rattle.tl_strings.specs.Words.{square_slot, triangle_slot}
use Rattle.tl_packing.specs.Packing.{AreSteppedSquares, AreSteppedTriangles}
use Rattle.tl_packing.proofs.Stated.{square-bound, triangle-bound}
use Rattle.tl_string_sweep.specs.Sweeps.{AreInside}

module _ (height end : ℕ) (free old new : List ℕ) (size : length free ≡ end + (height + 3)) (inside : AreInside height free)
    (before : (at : ℕ) → at < height + 2 → slice_index new at ≡ slice_index old at) (behind : (at : ℕ) → end ≤ at → slice_index new at ≡ slice_index old at) where
  -- the bit of a slot whose word is the old one
  bit-kept : (row slot : ℕ) → slice_index new (word_place height row slot) ≡ slice_index old (word_place height row slot) → string_bit height new row slot ≡ string_bit height old row slot
  bit-kept row slot e = ap (λ (word : ℕ). bit_at word (slot % 64) == 1) e

  first-kept : (row slot : ℕ) → row < height → slot < 64 → string_bit height new row slot ≡ string_bit height old row slot
  first-kept row slot within low = bit-kept row slot (before (word_place height row slot) first)
    where
      first : word_place height row slot < height + 2
      first = let strip : slot / 64 ≤ 0 = omega (arith, low) in let start = mul-le-mul_right height strip in omega (arith, start, within)

  -- What is made of each slot in between, and keeps the bit where the slot isn't free, is made of all slots behind the first strip.
  all-made : (made : ℕ → ℕ → Bool)
      → ((row slot : ℕ) → 1 ≤ row → 1 ≤ slot → height + 2 ≤ word_place height row slot → word_place height row slot < end → string_bit height new row slot ≡ made row slot)
      → ((row slot : ℕ) → string_bit height free row slot ≡ false → made row slot ≡ string_bit height old row slot)
      → (row slot : ℕ) → 1 ≤ row → row < height → 64 ≤ slot → string_bit height new row slot ≡ made row slot
  all-made made stepped bound row slot above within later = go (cases_lt (word_place height row slot) (height + 2)) (cases_lt (word_place height row slot) end)
    where
      go : (word_place height row slot < height + 2) ⊎ (height + 2 ≤ word_place height row slot)
          → (word_place height row slot < end) ⊎ (end ≤ word_place height row slot) → string_bit height new row slot ≡ made row slot
      go (inl first) last =
          bit-kept row slot (before (word_place height row slot) first)
          ∙ sym (bound row slot (false_from_ne_true _ (λ is_free. omega (arith, inside.behind row slot within (omega (arith, later)) is_free, first))))
      go (inr not_first) (inl within_end) = stepped row slot above (omega (arith, later)) not_first within_end
      go (inr not_first) (inr last) =
          bit-kept row slot (behind (word_place height row slot) last)
          ∙ sym (bound row slot (false_from_ne_true _ (λ is_free. omega (arith, inside.each row slot within (omega (arith, later)) is_free, last, size))))

  pub squares-everywhere : (others coins lows : List ℕ) (is_odd : Bool)
      → ((row slot : ℕ) → 1 ≤ row → 1 ≤ slot → height + 2 ≤ word_place height row slot → word_place height row slot < end
      → string_bit height new row slot ≡ square_slot is_odd height others coins lows free row slot (string_bit height old row slot))
      → AreSteppedSquares height others coins lows free is_odd old new
  squares-everywhere others coins lows is_odd stepped = record {
    stepped = all-made (λ row slot. square_slot is_odd height others coins lows free row slot (string_bit height old row slot)) stepped
        (λ row slot. square-bound is_odd (string_bit height old row slot) (string_bit height others row (slot - 1)) (string_bit height others row (slot + 1))
        (string_bit height others (row - 1) slot) (string_bit height others (row + 1) slot) (coin_bit height coins lows row slot) (string_bit height free row slot));
    kept = λ row slot above. first-kept row slot;
  }

  pub triangles-everywhere : (class : ℕ) (from to coins lows : List ℕ)
      → ((row slot : ℕ) → 1 ≤ row → 1 ≤ slot → height + 2 ≤ word_place height row slot → word_place height row slot < end
      → string_bit height new row slot ≡ triangle_slot class height from to coins lows free row slot (string_bit height old row slot))
      → AreSteppedTriangles height class from to coins lows free old new
  triangles-everywhere class from to coins lows stepped = record {
    stepped = all-made (λ row slot. triangle_slot class height from to coins lows free row slot (string_bit height old row slot)) stepped
        (λ row slot. triangle-bound class (string_bit height old row slot) (string_bit height from row (slot - 1)) (string_bit height from (row - 1) slot)
        (string_bit height from (row + 1) (slot + 1)) (string_bit height to row (slot + 1)) (string_bit height to (row - 1) (slot - 1))
        (string_bit height to (row + 1) slot) (coin_bit height coins lows row slot) (string_bit height free row slot));
    kept = λ row slot above. first-kept row slot;
  }
