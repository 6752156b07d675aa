-- Blocks of inner corners, and a sweep of a class block by block.
use Rattle.std.specs.Prelude.{◌≡◌, ℕ, ◌+◌, ◌-◌, ◌*◌, ◌<◌, ◌≤◌, Bool, ◌&&◌, ◌==◌, nat_le, nat_lt, List, length, slice_get, slice_index, Some, ℤ}
use Rattle.std.specs.List.{position_or_len}
use Rattle.tl_definitions.specs.declared.Corner.{Corner}
use Rattle.tl_definitions.specs.Lattice.{cell_width, class_of, corner_eq}
use Rattle.tl_definitions.specs.Region.{Region, inner_corners}
use Rattle.tl_grid.specs.Survey.{inner_places}
use Rattle.tl_steps.specs.Stepping.{is_of_class, stepped_height}
use Rattle.tl_sweep.specs.Places.{at}

-- the number of an inner corner, in raster order
abbrev pub number_of : Region → Corner → ℕ
number_of R v = position_or_len (corner_eq v) (inner_corners R)

-- whether a corner is of the class, and its number is less than this; or one of those from the first number on
abbrev pub is_before : Region → ℕ → ℕ → Corner → Bool
is_before R k n v = is_of_class R k v && nat_lt (number_of R v) n

abbrev pub is_between : Region → ℕ → ℕ → ℕ → Corner → Bool
is_between R k n m v = is_of_class R k v && (nat_le n (number_of R v) && nat_lt (number_of R v) m)

-- each number and the next differ by so much at least
abbrev pub AreApart : ℕ → List ℕ → Type 0
AreApart least list = (i : ℕ) → i + 1 < length list → slice_index list i + least ≤ slice_index list (i + 1)

-- Places of a list, from a number on, that are as far apart as corners of a row: the first is this, and there are at most 32.
pub record ArePlaces (places : List ℕ) (stride number place count : ℕ) : Type 0 where
  pub some : 1 ≤ count
  pub few : count ≤ 32
  pub within : number + count ≤ length places
  pub each : (j : ℕ) → j < count → slice_index places (number + j) ≡ place + stride * j

-- inner corners with consecutive numbers, each the next in its row
abbrev pub IsBlock : Region → ℕ → ℕ → ℕ → Type 0
IsBlock R number place count = ArePlaces (inner_places R) (cell_width R.kind) number place count

-- The numbers from the first place of a block to its last one, after the steps at those of its corners that are of a class.
pub record AreSteppedIn (R : Region) (numbers : List ℤ) (bits : ℕ → Bool) (k number place count : ℕ) (part : List ℤ) : Type 0 where
  pub size : length part ≡ cell_width R.kind * (count - 1) + 1
  pub stepped : (j : ℕ) (v : Corner) → j < count → slice_get (inner_corners R) (number + j) ≡ Some v → class_of R.kind v ≡ k
      → at part (cell_width R.kind * j) ≡ stepped_height R numbers v (bits (number + j))
  pub kept : (t : ℕ) → t < length part
      → ((j : ℕ) (v : Corner) → j < count → t ≡ cell_width R.kind * j → slice_get (inner_corners R) (number + j) ≡ Some v → class_of R.kind v ≡ k → ⊥)
      → at part t ≡ at numbers (place + t)
