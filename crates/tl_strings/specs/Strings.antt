-- Strings of bits: one string for each row, cut in strips of 64 slots. The words of a strip stand one below the other, so
-- many to a strip as its height tells: word s * height + row has the slots 64 s to 64 s + 63 of a row, and the lowest bit is
-- the first.
use Rattle.std.specs.Prelude.{ℕ, ◌+◌, ◌-◌, ◌*◌, ◌/◌, ◌%◌, Bool, ◌==◌, List, slice_index}
use Rattle.std.specs.Int.{bit_at}
use Rattle.tl_definitions.specs.declared.Kind.{Kind}
use Rattle.tl_definitions.specs.declared.Kind.TheVariants.{Square, Triangle}
use Rattle.tl_definitions.specs.declared.Corner.{Corner}

-- the place of the word that has a slot of a row
abbrev pub word_place : ℕ → ℕ → ℕ → ℕ
word_place height row slot = slot / 64 * height + row

-- the bit of a slot of a row
abbrev pub string_bit : ℕ → List ℕ → ℕ → ℕ → Bool
string_bit height words row slot = bit_at (slice_index words (word_place height row slot)) (slot % 64) == 1

-- ---- where corners stand

-- The column of a corner: on the triangular lattice corners of a row are two apart, and rows are sheared so that each
-- neighbour is at most one column away.
abbrev pub column : Kind → Corner → ℕ
column Square v = v.x
column Triangle v = (v.x + v.r - 1) / 2

-- The row and the slot of a corner, where this is the first column that is used: its column is the first slot of the second
-- strip. A row of words stands above the first.
abbrev pub row_of : Corner → ℕ
row_of v = v.r + 1

abbrev pub slot_of : Kind → ℕ → Corner → ℕ
slot_of k first v = column k v + 64 - first
