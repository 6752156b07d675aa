-- A region kept as one flag for each place, row by row, with the list of its cells beside it.
use Rattle.std.specs.Prelude.{◌≡◌, ◌≢◌, ℕ, ◌+◌, ◌*◌, ◌<◌, ◌≤◌, Bool, false, List, [], length, slice_index_or}
use Rattle.std.specs.List.{list_any}
use Rattle.tl_definitions.specs.declared.Cell.{Cell}
use Rattle.tl_definitions.specs.Lattice.{cell_eq}
use Rattle.tl_definitions.specs.Region.{Region}
use Rattle.tl_definitions.specs.Accepted.{IsPlaced}
use Rattle.tl_definitions.specs.declared.TheConstants.{SIDE_LIMIT}

-- whether the flag of a place is set
abbrev pub flag_at : ℕ → List Bool → Cell → Bool
flag_at columns flags a = slice_index_or flags (a.r * columns + a.c) false

-- one flag a place, set where the place is one of the cells
pub record AreFlagsOf (rows columns : ℕ) (cells : List Cell) (flags : List Bool) : Type 0 where
  pub size : length flags ≡ rows * columns
  pub is_set : (a : Cell) → a.r < rows → a.c < columns → flag_at columns flags a ≡ list_any (cell_eq a) cells

-- What holds of every grid: its cells stand in raster order, each once, within its rows and columns; there is
-- one; and there are no more rows or columns than a region may have.
pub record IsGrid (R : Region) : Type 0 where
  pub placed : IsPlaced R
  pub nonempty : R.cells ≢ []
  pub rows_within : R.rows ≤ SIDE_LIMIT
  pub columns_within : R.columns ≤ SIDE_LIMIT
