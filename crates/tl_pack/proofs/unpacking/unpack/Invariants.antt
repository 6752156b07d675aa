use Rattle.std.proofs.Common.{◌≡◌, List, length, ℤ}
use Rattle.tl_definitions.specs.Heights.{height_count}
use Rattle.tl_pack.specs.Packs.{AreHeld, strings_of}
use Rattle.tl_pack.proofs.Filled.{AreFilled}
use Rattle.tl_pack.proofs.unpacking.unpack.Given as goal

abbrev pub invariant-loop-i : goal.invariant-loop-i
invariant-loop-i l = record {
  count : length l.numbers ≡ height_count l.region;
  filled : (heights : List ℤ) → AreHeld l.region l.layout (strings_of l.first l.second l.third) l.shift heights → AreFilled l.region l.i heights l.numbers;
}
