use Rattle.std.proofs.Common.{◌≡◌}
use Rattle.tl_extreme.specs.Verdicts.{AreBottomHeights}
use Rattle.tl_outcomes.proofs.tests.draw_in_turn.Given as goal

abbrev pub invariant-loop-number : goal.invariant-loop-number
invariant-loop-number l = record {
  region : l.drawer.sampler.region ≡ l.low.region;
  bottom : AreBottomHeights l.low.region l.drawer.bottom.now;
}
