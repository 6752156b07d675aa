-- How a tiling stands at a corner.
use Rattle.std.specs.Prelude.{Bool, false, List, Option, Some, None, All, IfSome, IsTrue, if◌then◌else◌}
use Rattle.tl_definitions.specs.declared.Corner.{Corner}
use Rattle.tl_definitions.specs.declared.Tile.{Tile}
use Rattle.tl_definitions.specs.Region.{Region, is_corner_of}
use Rattle.tl_definitions.specs.Flip.{stands_high, stands_low}
use Rattle.tl_height.specs.declared.standing.Standing.{Standing}
use Rattle.tl_height.specs.declared.standing.Standing.TheVariants.{High, Low, No}

abbrev pub standing : Region → List Tile → Corner → Standing
standing R A v = if stands_high R A v then High else (if stands_low R A v then Low else No)

-- the corners that are there are corners of the region
abbrev pub AreCornersOf : Region → List (Option Corner) → Type 0
AreCornersOf R corners = All (λ place. IfSome place (λ v. IsTrue (is_corner_of R v))) corners

-- a corner is there and passes a test
abbrev pub is_some_with : (Corner → Bool) → Option Corner → Bool
is_some_with test None = false
is_some_with test (Some v) = test v
