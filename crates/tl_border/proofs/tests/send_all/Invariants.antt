use Rattle.std.proofs.Common.{◌≡◌, length}
use Rattle.tl_border.proofs.tests.send_all.Given as goal

abbrev pub invariant-loop-row : goal.invariant-loop-row
invariant-loop-row g l = record {
  job : (l.end.job ≡ l.fn.end.job) × (l.end.side ≡ l.fn.end.side);
  sent : l.end.sent ≡ length l.yielded;
}
