-- Rows as contracts see them, and the lists of rows of a job.
use Rattle.std.specs.Prelude.{ℕ, ◌*◌, ◌/◌, ◌%◌, Bool, ◌==◌, List, length, map, slice_index}
use Rattle.std.specs.Int.{bit_at}
use Rattle.tl_lists.specs.Lists.{upto}
use Rattle.tl_border.specs.declared.row.Row.{Row}
use Rattle.tl_border.specs.declared.row.RowBits.{RowBits}
use Rattle.tl_border.specs.declared.row.Side.{Side}
use Rattle.tl_border.specs.declared.row.Side.TheVariants.{Upper, Lower}
use Rattle.tl_border.specs.declared.job.JobRows.{JobRows}
use Rattle.tl_border.specs.declared.job.ListedRows.{ListedRows}

abbrev pub bit : ℕ → ℕ → Bool
bit word place = bit_at word place == 1

-- the bit of one slot of a row of words
abbrev pub slot_bit : List ℕ → ℕ → Bool
slot_bit words slot = bit (slice_index words (slot / 64)) (slot % 64)

-- the row of so many words whose slots have these bits
abbrev pub row_of_slots : ℕ → (ℕ → Bool) → RowBits
row_of_slots count slots = record { bits = map slots (upto (64 * count)) }

abbrev pub bits_of_words : List ℕ → RowBits
bits_of_words words = row_of_slots (length words) (slot_bit words)

abbrev pub bits_of_row : Row → RowBits
bits_of_row row = bits_of_words row.words.items

abbrev pub listed : ListedRows → JobRows
listed job = record { upper = map bits_of_row job.upper.items; lower = map bits_of_row job.lower.items }

abbrev pub other : Side → Side
other Upper = Lower
other Lower = Upper

-- the rows that a side sends
abbrev pub rows_of : JobRows → Side → List RowBits
rows_of job Upper = job.upper
rows_of job Lower = job.lower
