use Rattle.tl_packed.specs.OfClasses.{AreOfLayout}
use Rattle.tl_row_sweep.proofs.tests.halves_meet.Given as goal

abbrev pub invariant-loop-class : goal.invariant-loop-class
invariant-loop-class l = record {
  upper : AreOfLayout l.layout l.upper;
  lower : AreOfLayout l.layout l.lower;
}
