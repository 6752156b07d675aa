-- How a tiling stands at an inner corner, by the steps that rise there.
use Rattle.std.proofs.Common.{◌≡◌, Bool, true, cond, List, ℤ}
use Rattle.std.specs.Prelude.{IsTrue}
use Rattle.tl_definitions.specs.declared.Corner.{Corner}
use Rattle.tl_definitions.specs.declared.Tile.{Tile}
use Rattle.tl_definitions.specs.Region.{Region, is_inner}
use Rattle.tl_definitions.specs.Tiling.{is_tiling}
use Rattle.tl_definitions.specs.Heights.{height, AreHeights}
use Rattle.tl_closing.specs.Standing.{falls_from, falls_to}
use Rattle.tl_closing.proofs.Stated.{standing-heights}
use Rattle.tl_height.specs.declared.standing.Standing.{Standing}
use Rattle.tl_height.specs.declared.standing.Standing.TheVariants.{High, Low, No}
use Rattle.tl_height.specs.Standing.{standing}

abbrev pub stands : Bool → Bool → Standing
stands high low = cond high High (cond low Low No)

pub standing-by : (R : Region) (A : List Tile) (numbers : List ℤ) (v : Corner) → IsTrue (is_tiling R A) → AreHeights R A numbers → is_inner R v ≡ true
    → standing R A v ≡ stands (falls_from R numbers v) (falls_to R numbers v)
standing-by R A numbers v tiling h inner =
    let both = standing-heights R A (height R numbers) v tiling h.along inner in
    λ i. stands (both.0 i) (both.1 i)
