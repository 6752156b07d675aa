use Rattle.std.proofs.Common.{◌≡◌, List, length, ℤ}
use Rattle.tl_definitions.specs.Heights.{height_count, AreHeights}
use Rattle.tl_height.proofs.FilledNumbers.{AreFilled}
use Rattle.tl_height.proofs.filling.fill.Given as goal

abbrev pub invariant-loop-i : goal.invariant-loop-i
invariant-loop-i l =
    record {
      count : length l.numbers.items ≡ height_count l.tiling.region;
      filled : (heights : List ℤ) → AreHeights l.tiling.region l.tiling.tiles heights → AreFilled l.tiling.region l.i l.numbers.items heights;
    }
