-- What is kept of a circuit beside its sides.
use Rattle.std.specs.Prelude.{◌≡◌, ◌+◌, ◌≤◌, List, ℤ, map, length}
use Rattle.tl_definitions.specs.Lattice.{Side}
use Rattle.tl_definitions.specs.Limits.{most_corners}
use Rattle.tl_definitions.specs.Obstruction.{prefix}
use Rattle.tl_lists.specs.Lists.{upto}

-- The sums of the signs of the first 0, 1, 2, .. sides.
pub record HasPrefixes (sides : List Side) (sums : List ℤ) : Type 0 where
  pub few : length sides ≤ most_corners
  pub prefixes : sums ≡ map (prefix sides) (upto (length sides + 1))
