use Rattle.std.proofs.Common.{◌≡◌, ◌≤◌, ◌-◌, length}
use Rattle.tl_steps.specs.Stepping.{AreSwept}
use Rattle.tl_sweep.specs.Blocks.{is_before}
use Rattle.tl_sweep.specs.Sweeps.{bit_in}
use Rattle.tl_sweep.proofs.sweep_class.Given as goal

abbrev pub invariant-rest : goal.invariant-rest
invariant-rest l = record {
  region : l.heights.region ≡ l.initial.heights.region;
  within : l.number ≤ length l.places;
  swept : AreSwept l.initial.heights.region l.initial.heights.numbers l.heights.numbers (bit_in l.words) (is_before l.initial.heights.region l.class l.number);
}

abbrev pub decreases-rest : goal.decreases-rest
decreases-rest l = length l.places - l.number
