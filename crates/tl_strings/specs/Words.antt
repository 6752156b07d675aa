-- Words: one bit, the bits beside it, and what a step makes of the bit of a slot.
use Rattle.std.specs.Prelude.{◌≡◌, ℕ, ◌+◌, ◌-◌, ◌%◌, ◌<◌, ◌≤◌, Bool, ◌||◌, ◌==◌, if◌then◌else◌, List, slice_index}
use Rattle.std.specs.Int.{bit_at}
use Rattle.tl_strings.specs.Steps.{coin_bit, square_bit, triangle_bit}
use Rattle.tl_strings.specs.Strings.{string_bit, word_place}

abbrev pub bit : ℕ → ℕ → Bool
bit word place = bit_at word place == 1

-- the bit one place before, where the second word stands before the first
abbrev pub bit_before : ℕ → ℕ → ℕ → Bool
bit_before word previous place = if place == 0 then bit previous 63 else bit word (place - 1)

-- the bit one place on, where the second word stands behind the first
abbrev pub bit_behind : ℕ → ℕ → ℕ → Bool
bit_behind word next place = if place == 63 then bit next 0 else bit word (place + 1)

-- What a step makes of the bit of a slot, by the strings of the other class, the coins, the low slots and the free slots.
abbrev pub square_slot : Bool → ℕ → List ℕ → List ℕ → List ℕ → List ℕ → ℕ → ℕ → Bool → Bool
square_slot is_odd height others coins lows free row slot here =
    square_bit is_odd here (string_bit height others row (slot - 1)) (string_bit height others row (slot + 1))
    (string_bit height others (row - 1) slot) (string_bit height others (row + 1) slot)
    (coin_bit height coins lows row slot) (string_bit height free row slot)

-- the same on the triangular lattice, by the strings of the class after this one and of the one after that
abbrev pub triangle_slot : ℕ → ℕ → List ℕ → List ℕ → List ℕ → List ℕ → List ℕ → ℕ → ℕ → Bool → Bool
triangle_slot class height from to coins lows free row slot here =
    triangle_bit class here (string_bit height from row (slot - 1)) (string_bit height from (row - 1) slot) (string_bit height from (row + 1) (slot + 1))
    (string_bit height to row (slot + 1)) (string_bit height to (row - 1) (slot - 1)) (string_bit height to (row + 1) slot)
    (coin_bit height coins lows row slot) (string_bit height free row slot)

-- what the steps at the slots of a word make of it, for those that aren't in a first strip or a first row
abbrev pub IsSquareWord : Bool → ℕ → List ℕ → List ℕ → List ℕ → List ℕ → ℕ → ℕ → ℕ → Type 0
IsSquareWord is_odd height others coins lows free here at word =
    (row slot : ℕ) → word_place height row slot ≡ at → 1 ≤ slot → 1 ≤ row
    → bit word (slot % 64) ≡ square_slot is_odd height others coins lows free row slot (bit here (slot % 64))

abbrev pub IsTriangleWord : ℕ → ℕ → List ℕ → List ℕ → List ℕ → List ℕ → List ℕ → ℕ → ℕ → ℕ → Type 0
IsTriangleWord class height from to coins lows free here at word =
    (row slot : ℕ) → word_place height row slot ≡ at → 1 ≤ slot → 1 ≤ row
    → bit word (slot % 64) ≡ triangle_slot class height from to coins lows free row slot (bit here (slot % 64))

-- A word of both ends: the bits of the low ones, and those of the high ones one slot on. The first slot of a row has no
-- high bit.
pub record IsJoinedWord (height : ℕ) (low high : List ℕ) (at word : ℕ) : Type 0 where
  pub each : (row slot : ℕ) → word_place height row slot ≡ at → 1 ≤ slot
      → bit word (slot % 64) ≡ (string_bit height low row slot || string_bit height high row (slot - 1))
  pub first : at < height → bit word 0 ≡ bit (slice_index low at) 0

-- the low ends and the high ones taken from both, where there are low slots
abbrev pub IsLowWord : ℕ → List ℕ → List ℕ → ℕ → ℕ → ℕ → Type 0
IsLowWord height joined lows here at word =
    (row slot : ℕ) → word_place height row slot ≡ at
    → bit word (slot % 64) ≡ (if string_bit height lows row slot then string_bit height joined row slot else bit here (slot % 64))

abbrev pub IsHighWord : ℕ → List ℕ → List ℕ → ℕ → ℕ → ℕ → Type 0
IsHighWord height joined lows here at word =
    (row slot : ℕ) → word_place height row slot ≡ at
    → bit word (slot % 64) ≡ (if string_bit height lows row slot then string_bit height joined row (slot + 1) else bit here (slot % 64))
