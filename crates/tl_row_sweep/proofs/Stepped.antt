-- Steps in the rows of all strips but the first and the last.
use Rattle.std.proofs.Common.{◌≡◌, ℕ, ◌+◌, ◌-◌, ◌*◌, ◌/◌, ◌%◌, ◌<◌, ◌≤◌, ◌⊎◌, inl, inr, Bool, false, List, length, refl, sym, ◌∙◌, ap, arith}
use Rattle.std.specs.Prelude.{slice_index}
use Rattle.std.proofs.lemmas.Bool.{cases_lt, false_from_ne_true}
use Rattle.std.proofs.Math.Nat.{mul-le-mul_right}
use Rattle.tl_strings.specs.Strings.{string_bit, word_place}
use Rattle.tl_strings.specs.Steps.{coin_bit}
use Rattle.tl_strings.specs.Words.{bit, square_slot, triangle_slot}
use Rattle.tl_packing.specs.Packing.{AreSteppedSquaresIn, AreSteppedTrianglesIn}
use Rattle.tl_packing.proofs.Stated.{square-bound, triangle-bound}
use Rattle.tl_string_sweep.specs.Sweeps.{AreInside}
use Rattle.tl_row_sweep.proofs.Strips.{AreStripsMade}

-- what is made of the bit of each slot of a word
abbrev pub IsStepped : (ℕ → ℕ → Bool → Bool) → ℕ → List ℕ → ℕ → ℕ → ℕ → Type 0
IsStepped made height old strip row word = (slot : ℕ) → slot / 64 ≡ strip → bit word (slot % 64) ≡ made row slot (bit (slice_index old (strip * height + row)) (slot % 64))

-- the words of one strip, where they were the old ones before
pub strip-stepped : (made : ℕ → ℕ → Bool → Bool) (height from end strip : ℕ) (old new newer : List ℕ) → 1 ≤ from → end ≤ height → 1 ≤ strip
    → ((row : ℕ) → row < height → slice_index new (strip * height + row) ≡ slice_index old (strip * height + row))
    → ((row slot : ℕ) → 1 ≤ row → 1 ≤ slot → strip * height + from ≤ word_place height row slot → word_place height row slot < strip * height + end
    → string_bit height newer row slot ≡ made row slot (string_bit height new row slot))
    → (row : ℕ) → from ≤ row → row < end → IsStepped made height old strip row (slice_index newer (strip * height + row))
strip-stepped made height from end strip old new newer some fits not_first were stepped row above below slot same =
    let place : strip * height + row ≡ word_place height row slot = ap (λ (s : ℕ). s * height + row) (sym same) in
    ap (λ (at : ℕ). bit (slice_index newer at) (slot % 64)) place
    ∙ stepped row slot (omega (arith, some, above)) (omega (arith, not_first, same)) (omega (arith, place, above)) (omega (arith, place, below))
    ∙ ap (λ (word : ℕ). made row slot (bit word (slot % 64))) (ap (slice_index new) (sym place) ∙ were row (omega (arith, below, fits)))

module _ (height strips until from end : ℕ) (free old new : List ℕ) (size : length free ≡ strips * height) (all : strips ≤ until + 1) (fits : end ≤ height)
    (inside : AreInside height free) where
  module _ (made : ℕ → ℕ → Bool → Bool) (swept : AreStripsMade (IsStepped made height old) height from end 1 until old new) where
    -- No slot of the first strip or of the last one is stepped at.
    first-kept : (row slot : ℕ) → row < end → slot < 64 → string_bit height new row slot ≡ string_bit height old row slot
    first-kept row slot below low =
        ap (λ (word : ℕ). bit word (slot % 64)) (swept.kept (slot / 64) row (omega (arith, below, fits)) (λ not_first. absurd (omega (arith, not_first, low))))

    last-bound : (row slot : ℕ) → row < end → 64 ≤ slot → until ≤ slot / 64 → string_bit height free row slot ≡ false
    last-bound row slot below later last =
        let after : strips ≤ slot / 64 + 1 = omega (arith, last, all) in
        let past = mul-le-mul_right height after in
        false_from_ne_true _ (λ is_free. omega (arith, inside.each row slot (omega (arith, below, fits)) (omega (arith, later)) is_free, past, size))

    all-stepped : ((row slot : ℕ) → string_bit height free row slot ≡ false → made row slot (string_bit height old row slot) ≡ string_bit height old row slot)
        → (row slot : ℕ) → from ≤ row → row < end → 64 ≤ slot → string_bit height new row slot ≡ made row slot (string_bit height old row slot)
    all-stepped bound row slot above below later = go (cases_lt (slot / 64) until)
      where
        go : (slot / 64 < until) ⊎ (until ≤ slot / 64) → string_bit height new row slot ≡ made row slot (string_bit height old row slot)
        go (inl h) = swept.made (slot / 64) row (omega (arith, later)) h above below slot refl
        go (inr h) =
            ap (λ (word : ℕ). bit word (slot % 64)) (swept.kept (slot / 64) row (omega (arith, below, fits)) (λ _ before. absurd (omega (arith, before, h))))
            ∙ sym (bound row slot (last-bound row slot below later h))

  pub squares-stepped : (others coins lows : List ℕ) (is_odd : Bool)
      → AreStripsMade (IsStepped (square_slot is_odd height others coins lows free) height old) height from end 1 until old new
      → AreSteppedSquaresIn height from end others coins lows free is_odd old new
  squares-stepped others coins lows is_odd swept = record {
    stepped = all-stepped (square_slot is_odd height others coins lows free) swept
        (λ row slot. square-bound is_odd (string_bit height old row slot) (string_bit height others row (slot - 1)) (string_bit height others row (slot + 1))
        (string_bit height others (row - 1) slot) (string_bit height others (row + 1) slot) (coin_bit height coins lows row slot) (string_bit height free row slot));
    kept = λ row slot above. first-kept (square_slot is_odd height others coins lows free) swept row slot;
  }

  pub triangles-stepped : (class : ℕ) (before behind coins lows : List ℕ)
      → AreStripsMade (IsStepped (triangle_slot class height before behind coins lows free) height old) height from end 1 until old new
      → AreSteppedTrianglesIn height from end class before behind coins lows free old new
  triangles-stepped class before behind coins lows swept = record {
    stepped = all-stepped (triangle_slot class height before behind coins lows free) swept
        (λ row slot. triangle-bound class (string_bit height old row slot) (string_bit height before row (slot - 1)) (string_bit height before (row - 1) slot)
        (string_bit height before (row + 1) (slot + 1)) (string_bit height behind row (slot + 1)) (string_bit height behind (row - 1) (slot - 1))
        (string_bit height behind (row + 1) slot) (coin_bit height coins lows row slot) (string_bit height free row slot));
    kept = λ row slot above. first-kept (triangle_slot class height before behind coins lows free) swept row slot;
  }
