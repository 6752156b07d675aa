-- Heights that are moved towards a target's, flip by flip, all in one direction.
use Rattle.std.specs.Prelude.{◌≡◌, Bool, ◌+◌, ◌*◌, List, length, ℤ, neg_ℤ, ◌≤ℤ◌, ◌<ℤ◌, IsTrue}
use Rattle.tl_definitions.specs.declared.Corner.{Corner}
use Rattle.tl_definitions.specs.declared.Tile.{Tile}
use Rattle.tl_definitions.specs.Lattice.{rise}
use Rattle.tl_definitions.specs.Region.{Region, is_corner_of}
use Rattle.tl_definitions.specs.Accepted.{Accepted}
use Rattle.tl_definitions.specs.Heights.{height, AreLawful}
use Rattle.tl_definitions.specs.Flip.{IsFlipPath}
use Rattle.tl_closing.specs.Standing.{falls_from, falls_to}
use Rattle.tl_lawful.specs.HeightGap.{height_gap}
use Rattle.tl_flip.specs.Flips.{IsTilingOf}
use Rattle.tl_flip.specs.declared.direction.Direction.{Direction}
use Rattle.tl_flip.specs.declared.direction.Direction.TheVariants.{Up, Down}

-- the height of a corner, counted in the direction
abbrev pub counted : Direction → Region → List ℤ → Corner → ℤ
counted Up R numbers v = height R numbers v
counted Down R numbers v = neg_ℤ (height R numbers v)

-- whether a flip moves the corner's height in the direction
abbrev pub can_move : Direction → Region → List ℤ → Corner → Bool
can_move Up R numbers v = falls_to R numbers v
can_move Down R numbers v = falls_from R numbers v

-- the height of this corner still lies short of the target's
abbrev pub IsShort : Direction → Region → List ℤ → List ℤ → Corner → Type 0
IsShort way R here target v = counted way R here v <ℤ counted way R target v

-- the height of this corner has come as far as the target's, or further
abbrev pub HasReached : Direction → Region → List ℤ → List ℤ → Corner → Type 0
HasReached way R here target v = counted way R target v ≤ℤ counted way R here v

-- two lawful heights of one accepted region
pub record AreTwo (R : Region) (here target : List ℤ) : Type 0 where
  pub accepted : Accepted R
  pub first : AreLawful R here
  pub second : AreLawful R target

-- Where the flips of one path lead to the old heights, those of the other lead to the new ones.
abbrev pub LeadsOn : Region → List ℤ → List Corner → List ℤ → List Corner → Type 0
LeadsOn R old before new after =
    (A H : List Tile) → IsFlipPath R A before H → IsTilingOf R old H
    → (G : List Tile) × IsFlipPath R A after G × IsTilingOf R new G

-- The flips by which the one path is longer than the other: each takes the rise off the gap to the target, and moves a
-- height in the direction, never past the target.
pub record IsApproach (way : Direction) (R : Region) (target old new : List ℤ) (before after : List Corner) : Type 0 where
  pub lawful : AreLawful R new
  pub leads : LeadsOn R old before new after
  pub gap : height_gap new target + rise R.kind * length after ≡ height_gap old target + rise R.kind * length before
  pub onward : (v : Corner) → IsTrue (is_corner_of R v) → counted way R old v ≤ℤ counted way R new v
  pub never_past : (v : Corner) → IsTrue (is_corner_of R v) → counted way R old v ≤ℤ counted way R target v
      → counted way R new v ≤ℤ counted way R target v
