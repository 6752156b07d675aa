-- A flood of a region: which cells it has reached, and what it has found of the region's parts when it is over.
use Rattle.std.specs.Prelude.{◌≡◌, ℕ, ◌+◌, ◌*◌, Bool, true, false, not, ◌&&◌, ◌||◌, List, length, count_by, slice_get, Option, Some}
use Rattle.std.specs.List.{list_any}
use Rattle.tl_definitions.specs.declared.Cell.{Cell}
use Rattle.tl_definitions.specs.Lattice.{cell_eq, is_cell, are_neighbours}
use Rattle.tl_definitions.specs.Region.{Region, has}
use Rattle.tl_definitions.specs.Accepted.{AreJoined}
use Rattle.tl_grid.specs.Grid.{flag_at}
use Rattle.tl_grid.specs.declared.parts.Flood.{Flood}

-- one flag for each place of the region's rows and columns
abbrev pub HasFlags : Region → List Bool → Type 0
HasFlags R flags = length flags ≡ R.rows * R.columns

-- whether a cell of the region has been reached
abbrev pub is_reached : Region → Flood → Cell → Bool
is_reached R flood a = has R a && flag_at R.columns flood.reached.items a

-- whether the neighbours of a cell that was reached have yet to be looked at
abbrev pub is_waiting : Flood → Cell → Bool
is_waiting flood a = list_any (cell_eq a) flood.waiting.items

-- How much is left to do: the flags that aren't set, and the cells that wait. A cell that is reached goes from
-- the first to the second.
abbrev pub work : Flood → ℕ
work flood = count_by not flood.reached.items + length flood.waiting.items

-- those of the cells found that are in the region are reached, and wait where they hadn't been reached before
pub record Reaches (R : Region) (found : List (Option Cell)) (old new : Flood) : Type 0 where
  pub size : length new.reached.items ≡ length old.reached.items
  pub work : work new ≡ work old
  pub reached : (a : Cell) → is_reached R new a ≡ (is_reached R old a || (has R a && list_any (is_cell a) found))
  pub waiting : (a : Cell) → is_waiting new a ≡ (is_waiting old a || (is_reached R new a && not (is_reached R old a)))

-- A flood from a cell: it has reached cells that are joined to it, and with each cell that doesn't wait also
-- its neighbours.
pub record IsFlood (R : Region) (start : Cell) (flood : Flood) : Type 0 where
  pub size : HasFlags R flood.reached.items
  pub begun : is_reached R flood start ≡ true
  pub joined : (a : Cell) → is_reached R flood a ≡ true → AreJoined R a start
  pub waiting : (a : Cell) → is_waiting flood a ≡ true → is_reached R flood a ≡ true
  pub spread : (a b : Cell) → is_reached R flood a ≡ true → is_waiting flood a ≡ false → has R b ≡ true
      → are_neighbours R.kind a b ≡ true → is_reached R flood b ≡ true

-- the flag of a cell of the region is set exactly where the cell is joined to the first one
pub record AreFlagsOfPart (R : Region) (flags : List Bool) : Type 0 where
  pub size : HasFlags R flags
  pub start : Cell
  pub is_start : slice_get R.cells 0 ≡ Some start
  pub joined : (a : Cell) → has R a ≡ true → flag_at R.columns flags a ≡ true → AreJoined R start a
  pub whole : (a : Cell) → has R a ≡ true → AreJoined R start a → flag_at R.columns flags a ≡ true
