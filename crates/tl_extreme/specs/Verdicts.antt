-- What a region comes to: its top and its bottom tiling, or a reason why it has none.
use Rattle.std.specs.Prelude.{◌≡◌, ◌≢◌, ◌↔◌, List, pos, IsTrue}
use Rattle.tl_definitions.specs.declared.Tile.{Tile}
use Rattle.tl_definitions.specs.Region.{Region}
use Rattle.tl_definitions.specs.Obstruction as why
use Rattle.tl_definitions.specs.Obstruction.{IsObstruction, total}
use Rattle.tl_definitions.specs.Tiling.{is_tiling}
use Rattle.tl_definitions.specs.Flip.{IsTop, IsBottom}
use Rattle.tl_definitions.specs.Heights.{AreHeights}
use Rattle.tl_lawful.specs.Order.{AreGreatest, AreLeast}
use Rattle.tl_height.specs.HeightFunction.{HeightFunction}
use Rattle.tl_obstruction.specs.Told.{told_by}
use Rattle.tl_extreme.specs.declared.verdicts.Decision.{Decision}
use Rattle.tl_extreme.specs.declared.verdicts.Decision.TheVariants.{Tiled, Blocked}
use Rattle.tl_extreme.specs.declared.verdicts.Verdict.{Verdict}
use Rattle.tl_extreme.specs.declared.verdicts.Verdict.TheVariants as verdict

-- The heights are those of the top tiling, the only one that stands low at no inner corner. The heights of every tiling
-- lie below them.
pub record AreTopHeights (R : Region) (h : HeightFunction) : Type 0 where
  pub region : h.region ≡ R
  pub greatest : AreGreatest R h.numbers
  pub tiles : List Tile
  pub top : IsTop R tiles
  pub heights : AreHeights R tiles h.numbers
  pub only : (others : List Tile) → IsTop R others → others ≡ tiles

-- the same of the bottom tiling, which stands high at none
pub record AreBottomHeights (R : Region) (h : HeightFunction) : Type 0 where
  pub region : h.region ≡ R
  pub least : AreLeast R h.numbers
  pub tiles : List Tile
  pub bottom : IsBottom R tiles
  pub heights : AreHeights R tiles h.numbers
  pub only : (others : List Tile) → IsBottom R others → others ≡ tiles

abbrev pub IsOpen : why.Obstruction → Type 0
IsOpen (why.Open n) = Unit {0}
IsOpen (why.Gap rise path) = ⊥

-- an obstruction of the region, an open one exactly where the total isn't 0; and the region has no tiling
pub record IsReason (R : Region) (o : why.Obstruction) : Type 0 where
  pub holds : IsObstruction R o
  pub is_open : (total R ≢ pos 0) ↔ IsOpen o
  pub no_tiling : (A : List Tile) → ¬ IsTrue (is_tiling R A)

abbrev pub IsDecision : Region → Decision → Type 0
IsDecision R (Tiled heights) = AreTopHeights R heights
IsDecision R (Blocked o) = IsReason R (told_by o)

abbrev pub IsVerdict : Region → Verdict → Type 0
IsVerdict R (verdict.Pair low high) = AreBottomHeights R low × AreTopHeights R high
IsVerdict R (verdict.Blocked o) = IsReason R (told_by o)
