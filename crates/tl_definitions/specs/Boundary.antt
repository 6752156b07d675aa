-- Boundary corners, and walks that go once round along boundary sides.
use Rattle.std.specs.Prelude.{◌≡◌, Bool, List, map, find, slice_get, Option, Some, IsTrue}
use Rattle.std.specs.List.{list_any, list_all}
use Rattle.tl_definitions.specs.declared.Corner.{Corner}
use Rattle.tl_definitions.specs.Lattice.{corner_eq, Side}
use Rattle.tl_definitions.specs.Region.{Region, boundary, side_eq}
use Rattle.tl_definitions.specs.Accepted.{circuit_corners}
use Rattle.tl_lists.specs.Lists.{turned, distinct}

-- The boundary side that leaves the corner, with the region on its left. Where there is no pinch, there is at
-- most one.
abbrev pub side_from : Region → Corner → Option Side
side_from R v = find (λ s. corner_eq s.from v) (boundary R)

abbrev pub is_boundary_corner : Region → Corner → Bool
is_boundary_corner R v = list_any (λ s. corner_eq s.from v) (boundary R)

-- A closed walk goes along boundary sides from a corner back to it, and leaves each of its corners once. It
-- need not pass all boundary corners, as a circuit does.
pub record IsClosedWalk (R : Region) (start : Corner) (walk : List Side) : Type 0 where
  pub on_boundary : IsTrue (list_all (λ s. list_any (side_eq s) (boundary R)) walk)
  pub begins : slice_get (circuit_corners walk) 0 ≡ Some start
  pub closed : map (λ s. s.to) walk ≡ turned (circuit_corners walk)
  pub once : IsTrue (distinct corner_eq (circuit_corners walk))
