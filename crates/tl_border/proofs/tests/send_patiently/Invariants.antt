use Rattle.std.proofs.Common.{◌≡◌}
use Rattle.tl_border.specs.Ends.{IsNextToSend}
use Rattle.tl_border.proofs.tests.send_patiently.Given as goal

abbrev pub invariant-loop : goal.invariant-loop
invariant-loop g l = record {
  next : IsNextToSend l.end l.row;
  job : (l.end.job ≡ l.fn.end.job) × (l.end.side ≡ l.fn.end.side);
  sent : l.end.sent ≡ l.fn.end.sent;
}
