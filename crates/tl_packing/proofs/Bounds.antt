-- Slots that aren't free keep their bits.
use Rattle.std.proofs.Common.{◌≡◌, ℕ, ◌+◌, ◌-◌, ◌<◌, ◌≤◌, ◌⊎◌, inl, inr, Bool, true, false, List, ◌∙◌, ap}
use Rattle.std.proofs.lemmas.Bool.{cases_lt}
use Rattle.tl_strings.specs.Strings.{string_bit}
use Rattle.tl_strings.specs.Steps.{coin_bit, square_bit, triangle_bit}
use Rattle.tl_packing.specs.Packing.{AreSteppedSquareBits, AreSteppedTriangleBits}
use Rattle.tl_packing.proofs.Bits.{differ-false}

-- one slot
pub square-bound : (odd here west east north south coin is_free : Bool) → is_free ≡ false → square_bit odd here west east north south coin is_free ≡ here
square-bound odd here west east north south coin is_free e = ap (square_bit odd here west east north south coin) e ∙ go odd
  where
    go : (odd : Bool) → square_bit odd here west east north south coin false ≡ here
    go true = differ-false here
    go false = differ-false here

pub triangle-bound : (class : ℕ) (here a b c d e f coin is_free : Bool) → is_free ≡ false → triangle_bit class here a b c d e f coin is_free ≡ here
triangle-bound class here a b c d e f coin is_free bound = ap (triangle_bit class here a b c d e f coin) bound ∙ differ-false here

-- all slots of a class in some rows
pub square_bits-bound : (from end : ℕ) (odd : Bool) (others coin free old new : ℕ → ℕ → Bool) → AreSteppedSquareBits from end odd others coin free old new
    → (row slot : ℕ) → from ≤ row → row < end → free row slot ≡ false → new row slot ≡ old row slot
square_bits-bound from end odd others coin free old new are row slot above within bound = go (cases_lt slot 64)
  where
    go : (slot < 64) ⊎ (64 ≤ slot) → new row slot ≡ old row slot
    go (inl before) = are.kept row slot above within before
    go (inr behind) =
        are.stepped row slot above within behind
        ∙ square-bound odd (old row slot) (others row (slot - 1)) (others row (slot + 1)) (others (row - 1) slot) (others (row + 1) slot)
        (coin row slot) (free row slot) bound

pub triangle_bits-bound : (from end class : ℕ) (next last coin free old new : ℕ → ℕ → Bool) → AreSteppedTriangleBits from end class next last coin free old new
    → (row slot : ℕ) → from ≤ row → row < end → free row slot ≡ false → new row slot ≡ old row slot
triangle_bits-bound from end class next last coin free old new are row slot above within bound = go (cases_lt slot 64)
  where
    go : (slot < 64) ⊎ (64 ≤ slot) → new row slot ≡ old row slot
    go (inl before) = are.kept row slot above within before
    go (inr behind) =
        are.stepped row slot above within behind
        ∙ triangle-bound class (old row slot) (next row (slot - 1)) (next (row - 1) slot) (next (row + 1) (slot + 1))
        (last row (slot + 1)) (last (row - 1) (slot - 1)) (last (row + 1) slot) (coin row slot) (free row slot) bound
