use Rattle.std.proofs.Common.{◌≤◌}
use Rattle.tl_border.proofs.tests.receive_all.Given as goal

abbrev pub invariant-loop-number : goal.invariant-loop-number
invariant-loop-number g l = l.in_order ≤ l.number
