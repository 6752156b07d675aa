-- Height functions as contracts see them.
use Rattle.std.specs.Prelude.{Bool, nat_lt, List, ℤ, ◌-ℤ◌, unsigned_abs}
use Rattle.tl_definitions.specs.Region.{Region}
use Rattle.tl_definitions.specs.Accepted.{Accepted}
use Rattle.tl_definitions.specs.Heights.{AreLawful}
use Rattle.tl_grid.specs.Grid.{IsGrid}

-- a region and the numbers of heights on its corners, as contracts see what holds both
pub record HeightFunction : Type 0 where
  pub region : Region
  pub numbers : List ℤ

-- what holds of both in a Heights: the region is one of a grid and accepted, and the heights are lawful
pub record IsHeightFunction (R : Region) (numbers : List ℤ) : Type 0 where
  pub is_grid : IsGrid R
  pub accepted : Accepted R
  pub lawful : AreLawful R numbers

-- Whether a step between corners of these heights falls, whichever way it leads. Along a step heights rise by 1, or they
-- fall by more.
abbrev pub falls_between : ℤ → ℤ → Bool
falls_between x y = nat_lt 1 (unsigned_abs (x -ℤ y))
