use Rattle.std.proofs.Common.{◌≡◌}
use Rattle.sweeps_bench.proofs.time_sweeps.Given as goal

abbrev pub invariant-loop : goal.invariant-loop
invariant-loop g l = l.heights.region ≡ l.fn.heights.region
