use Rattle.std.proofs.Common.{◌≡◌, ◌*◌, List, take}
use Rattle.std.specs.Prelude.{flat_map, IsTrue}
use Rattle.tl_definitions.specs.declared.Tile.{Tile}
use Rattle.tl_lists.specs.Lists.{upto}
use Rattle.tl_definitions.specs.Tiling.{is_tiling}
use Rattle.tl_definitions.specs.Heights.{AreHeights}
use Rattle.tl_height.specs.Letters.{row_text}
use Rattle.tl_height.proofs.heights.Heights.to_letters.Given as goal

abbrev pub invariant-loop-r : goal.invariant-loop-r
invariant-loop-r l =
    (A : List Tile) → IsTrue (is_tiling l.self.region A) → AreHeights l.self.region A l.self.numbers
    → take (l.r * l.width) l.out ≡ flat_map (row_text l.self.region A) (upto l.r)
