-- The numbers that tell distances.
use Rattle.std.specs.Prelude.{◌≡◌, ℕ, List, slice_get, Some, ℤ, pos, IsTrue}
use Rattle.tl_definitions.specs.declared.Corner.{Corner}
use Rattle.tl_definitions.specs.Region.{Region, is_corner_of}
use Rattle.tl_grid.specs.Grid.{IsGrid}
use Rattle.tl_extreme.specs.CornerGraph.{place}
use Rattle.tl_extreme.specs.Paths.{IsDistance}

-- at the place of each corner its distance
pub record AreDistances (R : Region) (from : Corner) (numbers : List ℤ) : Type 0 where
  pub is_grid : IsGrid R
  pub at : (v : Corner) → IsTrue (is_corner_of R v)
      → (n : ℕ) × (slice_get numbers (place R v) ≡ Some (pos n)) × IsDistance R from v n
