-- What reading the rows of a text gives.
use Rattle.std.specs.Prelude.{◌≡◌, ◌≢◌, ◌⊎◌, ℕ, ◌+◌, true, false, ◌&&◌, nat_lt, nat_le, if◌then◌else◌, List, [], ◌∷◌, ◌++◌, length, slice_get, Some}
use Rattle.tl_definitions.specs.declared.TheConstants.{SIDE_LIMIT}
use Rattle.tl_definitions.specs.declared.Cell.{Cell}
use Rattle.tl_definitions.specs.declared.Kind.{Kind}
use Rattle.tl_definitions.specs.Region.{Region}
use Rattle.tl_formats.specs.RegionText.{RegionRefusal, bad_byte, too_large, empty, longest, is_too_large}
use Rattle.tl_formats.specs.Marks.{marks, text_marks, is_hash, is_bad}
use Rattle.tl_region.specs.declared.rows.Rows.{Rows}

-- The cells that are kept of a row: those that it names, but none of a row past the limit, since the text is
-- then too large.
abbrev pub kept_of_row : ℕ → List ℕ → List Cell
kept_of_row r line = if nat_lt r SIDE_LIMIT && nat_le (length line) SIDE_LIMIT then marks is_hash r 0 line else []

-- the same of all rows, from a row on
abbrev pub kept_of_rows : ℕ → List (List ℕ) → List Cell
kept_of_rows r [] = []
kept_of_rows r (l ∷ ls) = kept_of_row r l ++ kept_of_rows (r + 1) ls

-- these are the numbers of rows and columns and the kept cells of rows without a bad byte
pub record IsRowsOf (lines : List (List ℕ)) (rows : Rows) : Type 0 where
  pub count : rows.count ≡ length lines
  pub columns : rows.columns ≡ longest lines
  pub cells : rows.cells.items ≡ kept_of_rows 0 lines
  pub clean : text_marks is_bad 0 lines ≡ []

-- the refusal names the first bad byte
abbrev pub IsBadByteOf : List (List ℕ) → RegionRefusal → Type 0
IsBadByteOf lines f = (a : Cell) × (f ≡ bad_byte a) × (slice_get (text_marks is_bad 0 lines) 0 ≡ Some a)

-- the region of rows that were read
abbrev pub region_by : Kind → Rows → Region
region_by kind rows = record { kind = kind; rows = rows.count; columns = rows.columns; cells = rows.cells.items }

-- neither too large nor empty, or which of the two it is first
abbrev pub HasAllowedSize : Region → Type 0
HasAllowedSize R = (is_too_large R ≡ false) × (R.cells ≢ [])

abbrev pub HasRefusedSize : Region → RegionRefusal → Type 0
HasRefusedSize R f = ((is_too_large R ≡ true) × (f ≡ too_large)) ⊎ ((is_too_large R ≡ false) × (R.cells ≡ []) × (f ≡ empty))
