-- Planes of slots: which slots are those of inner corners.
use Rattle.std.specs.Prelude.{◌≡◌, ℕ, ◌-◌, ◌*◌, ◌/◌, ◌%◌, ◌^◌, ◌<◌, Bool, ◌&&◌, ◌||◌, ◌==◌, if◌then◌else◌, nat_lt, bit_or, List, length, slice_index}
use Rattle.std.specs.List.{list_any}
use Rattle.tl_definitions.specs.declared.Kind.{Kind}
use Rattle.tl_definitions.specs.declared.Corner.{Corner}
use Rattle.tl_definitions.specs.Lattice.{class_of}
use Rattle.tl_definitions.specs.Region.{Region, inner_corners}
use Rattle.tl_strings.specs.Strings.{row_of, slot_of, string_bit, word_place}
use Rattle.tl_layout.specs.declared.layout.Layout.{Layout}
use Rattle.tl_layout.specs.Layouts.{bit_by, corner_by, size_of, word_by}

-- whether a corner is of the class, and has this slot of this row
abbrev pub is_at : Kind → ℕ → ℕ → ℕ → ℕ → Corner → Bool
is_at k first class row slot v = class_of k v == class && (row_of v == row && slot_of k first v == slot)

-- the bit of a slot is 1 exactly where an inner corner of the class has the slot
pub record AreSlotsOf (R : Region) (l : Layout) (class : ℕ) (words : List ℕ) : Type 0 where
  pub size : length words ≡ size_of l
  pub each : (row slot : ℕ) → row < l.height
      → string_bit l.height words row slot ≡ list_any (is_at R.kind l.first class row slot) (inner_corners R)

-- the bit of a slot is 1 exactly where that of the slot or of the one before it is
pub record AreFree (height : ℕ) (lows words : List ℕ) : Type 0 where
  pub size : length words ≡ length lows
  pub each : (row slot : ℕ) → row < height → word_place height row slot < length lows
      → string_bit height words row slot ≡ (string_bit height lows row slot || string_bit height lows row (slot - 1))

-- whether the corner at a place is of the class, and has this bit of this word
abbrev pub is_at_bit : Layout → ℕ → ℕ → ℕ → ℕ → Bool
is_at_bit l class word bit place =
    class_of l.kind (corner_by l.width place) == class && (word_by l place == word && bit_by l place == bit)

-- a word of a plane with, of each slot, the slot after it
abbrev pub free_word : ℕ → List ℕ → ℕ → ℕ
free_word height lows k =
    bit_or (bit_or (slice_index lows k) (slice_index lows k * 2 ^ 1 % 2 ^ 64)) (if nat_lt k height then 0 else slice_index lows (k - height) / 2 ^ 63)
