-- Flips between the tilings that heights are those of.
use Rattle.std.specs.Prelude.{◌≡◌, ℕ, ◌<◌, List, fold, take, slice_get, Some, Option, ℤ, IsTrue, IsFalse, MatchOption}
use Rattle.tl_definitions.specs.declared.Corner.{Corner}
use Rattle.tl_definitions.specs.declared.Tile.{Tile}
use Rattle.tl_definitions.specs.Region.{Region}
use Rattle.tl_definitions.specs.Tiling.{is_tiling}
use Rattle.tl_definitions.specs.Heights.{AreHeights}
use Rattle.tl_definitions.specs.Flip.{can_flip, flip, IsFlipPath, IsShortestFlipPath, IsFlipDistance}
use Rattle.tl_flip.specs.declared.fault.PathFault.{PathFault}
use Rattle.tl_flip.specs.declared.fault.PathFault.TheVariants.{TooLong, OutOfMemory}
use Rattle.tl_flip.specs.declared.shortest.TheConstants.{FLIP_LIMIT}

-- a tiling with these heights
abbrev pub IsTilingOf : Region → List ℤ → List Tile → Type 0
IsTilingOf R numbers A = IsTrue (is_tiling R A) × AreHeights R A numbers

-- ---- from one tiling to another, by the heights of both

-- the least number of flips
abbrev pub IsDistanceBetween : Region → List ℤ → List ℤ → ℕ → Type 0
IsDistanceBetween R a b n = (A B : List Tile) → IsTilingOf R a A → IsTilingOf R b B → IsFlipDistance R A B n

-- a flip path with so many
abbrev pub IsShortestBetween : Region → List ℤ → List ℤ → List Corner → Type 0
IsShortestBetween R a b path = (A B : List Tile) → IsTilingOf R a A → IsTilingOf R b B → IsShortestFlipPath R A B path

-- Why no path is made: the distance is over the limit. Want of memory may stand in the place of any path.
abbrev pub IsPathFault : Region → List ℤ → List ℤ → PathFault → Type 0
IsPathFault R a b (TooLong n) = IsDistanceBetween R a b n × (FLIP_LIMIT < n)
IsPathFault R a b OutOfMemory = Unit {0}

-- ---- flips in turn

abbrev pub flipped : Region → List Tile → List Corner → List Tile
flipped R A vs = fold (flip R) A vs

-- the first k flips are lawful, and there is a next one, which isn't
pub record StopsAt (R : Region) (A : List Tile) (vs : List Corner) (k : ℕ) : Type 0 where
  pub lawful : IsFlipPath R A (take k vs) (flipped R A (take k vs))
  pub next : Corner
  pub is_next : slice_get vs k ≡ Some next
  pub refused : IsFalse (can_flip R (flipped R A (take k vs)) next)

-- How far flips in turn come from the tiling with the old heights, and that the new ones are those of the tiling that
-- they make: all of them are lawful, or they stop.
abbrev pub IsWalk : Region → List ℤ → List ℤ → List Corner → Option ℕ → Type 0
IsWalk R old new vs stop =
    (A : List Tile) → IsTilingOf R old A
    → MatchOption stop
    (IsFlipPath R A vs (flipped R A vs) × IsTilingOf R new (flipped R A vs))
    (λ k. StopsAt R A vs k × IsTilingOf R new (flipped R A (take k vs)))
