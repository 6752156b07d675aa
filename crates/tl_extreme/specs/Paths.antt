-- Directed paths along edges of cells of a region, and how long the shortest are.
use Rattle.std.specs.Prelude.{◌≡◌, ℕ, ◌+◌, ◌≤◌, List, length, slice_get, Some, None, IsTrue}
use Rattle.std.specs.List.{last_or}
use Rattle.tl_lists.specs.Lists.{linked}
use Rattle.tl_definitions.specs.declared.Corner.{Corner}
use Rattle.tl_definitions.specs.Region.{Region, is_step}

-- a list of corners from one to another, from each of which a step of the region leads to the next
pub record IsDirectedPath (R : Region) (u v : Corner) (path : List Corner) : Type 0 where
  pub begins : slice_get path 0 ≡ Some u
  pub ends : last_or None path ≡ Some v
  pub directed : IsTrue (linked (is_step R) path)

-- the number of steps of a shortest one
pub record IsDistance (R : Region) (u v : Corner) (n : ℕ) : Type 0 where
  pub path : List Corner
  pub leads : IsDirectedPath R u v path
  pub steps : length path ≡ n + 1
  pub least : (other : List Corner) → IsDirectedPath R u v other → length path ≤ length other

-- a region and one of its corners, as contracts see the distances from there
pub record Origin : Type 0 where
  pub region : Region
  pub from : Corner
