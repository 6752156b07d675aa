-- Differences along the directed steps of a region, and the functions on its corners that have them.
use Rattle.std.specs.Prelude.{◌≡◌, if◌then◌else◌, List, map, ℤ, pos, ◌+ℤ◌, IsTrue}
use Rattle.tl_definitions.specs.declared.Kind.{Kind}
use Rattle.tl_definitions.specs.declared.Cell.{Cell}
use Rattle.tl_definitions.specs.declared.Corner.{Corner}
use Rattle.tl_definitions.specs.Lattice.{is_dark, sides, Side}
use Rattle.tl_definitions.specs.Region.{Region, has, is_corner_of, is_step}
use Rattle.tl_lists.specs.Lists.{int_sum}

-- The directed step along a side has the dark cell on its left: it goes as the side does where the side's cell
-- is dark, and backwards where it is light.
abbrev pub step_along : Side → Corner × Corner
step_along s = if is_dark s.cell then (s.from, s.to) else (s.to, s.from)

-- The steps along the sides of a cell. They all go the same way round it.
abbrev pub steps_round : Kind → Cell → List (Corner × Corner)
steps_round k a = map step_along (sides k a)

-- the sum of the differences of these steps
abbrev pub sum_round : Kind → (Corner → Corner → ℤ) → Cell → ℤ
sum_round k difference a = int_sum (map (λ e. difference e.0 e.1) (steps_round k a))

abbrev pub ClosesRoundCells : Region → (Corner → Corner → ℤ) → Type 0
ClosesRoundCells R difference = (a : Cell) → IsTrue (has R a) → sum_round R.kind difference a ≡ pos 0

-- A potential of the differences is a function on the corners that rises by each of them along its step. It is
-- 0 at one corner, its start.
pub record IsPotential (R : Region) (difference : Corner → Corner → ℤ) (start : Corner) (h : Corner → ℤ) : Type 0 where
  pub zero : h start ≡ pos 0
  pub along : (u v : Corner) → IsTrue (is_step R u v) → h v ≡ h u +ℤ difference u v

-- there is one, and on the corners of the region it is the only one
abbrev pub HasOnePotential : Region → (Corner → Corner → ℤ) → Corner → Type 0
HasOnePotential R difference start =
    (h : Corner → ℤ) × IsPotential R difference start h
    × ((g : Corner → ℤ) → IsPotential R difference start g → (v : Corner) → IsTrue (is_corner_of R v) → g v ≡ h v)
