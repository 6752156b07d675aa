use Rattle.std.proofs.Common.{◌≡◌}
use Rattle.tl_lanes.specs.Lanes.{greater}
use Rattle.tl_lanes.proofs.Rows.{combined}
use Rattle.tl_lanes.proofs.order.greatest_of_rest.Given as goal

abbrev pub invariant-loop-i : goal.invariant-loop-i
invariant-loop-i l = l.a ≡ combined greater l.i l.fn.a l.b
