-- What the graph keeps of each corner place.
use Rattle.std.specs.Prelude.{◌≡◌, ℕ, ◌+◌, ◌*◌, ◌%◌, ◌<◌, ◌==◌, if◌then◌else◌, List, length, slice_get, Some, IsTrue}
use Rattle.tl_definitions.specs.declared.Corner.{Corner}
use Rattle.tl_definitions.specs.Region.{Region, is_corner_of, is_inner}
use Rattle.tl_grid.specs.Survey.{place_in}
use Rattle.tl_extreme.specs.declared.corner_graph.PlaceKind.{PlaceKind}
use Rattle.tl_extreme.specs.declared.corner_graph.PlaceKind.TheVariants.{Edge, Even, Odd}
use Rattle.tl_extreme.specs.CornerGraph.{place}

abbrev pub by_parity : ℕ → PlaceKind
by_parity n = if n % 2 == 0 then Even else Odd

abbrev pub corner_parity : Corner → PlaceKind
corner_parity v = by_parity (v.r + v.x)

-- the parity of the coordinates of an inner corner
abbrev pub place_kind : Region → Corner → PlaceKind
place_kind R v = if is_inner R v then corner_parity v else Edge

-- what is kept of each corner of the region, at its place
abbrev pub AreKindsOf : Region → List PlaceKind → Type 0
AreKindsOf R kinds = (v : Corner) → IsTrue (is_corner_of R v) → slice_get kinds (place R v) ≡ Some (place_kind R v)

-- what a function tells of all pairs in so many rows of this width
pub record AreKinds (rows width : ℕ) (kind_of : Corner → PlaceKind) (kinds : List PlaceKind) : Type 0 where
  pub size : length kinds ≡ rows * width
  pub at : (v : Corner) → v.r < rows → v.x < width → slice_get kinds (place_in width v) ≡ Some (kind_of v)
