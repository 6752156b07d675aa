use Rattle.std.proofs.Common.{◌≡◌, ◌≤◌, ◌-◌, length}
use Rattle.tl_lanes.specs.Lanes.{greater}
use Rattle.tl_lanes.proofs.Rows.{combined}
use Rattle.tl_lanes.proofs.order.lanes_greatest.Given as goal

abbrev pub invariant-vectors : goal.invariant-vectors
invariant-vectors l = record {
  within : l.done ≤ length l.b;
  so_far : l.a ≡ combined greater l.done l.fn.a l.b;
}

abbrev pub decreases-vectors : goal.decreases-vectors
decreases-vectors l = length l.b - l.done
