use Rattle.std.proofs.Common.{◌≡◌, ◌+◌, ◌*◌, length}
use Rattle.heights_bench.proofs.measure.Given as goal

abbrev pub invariant-loop : goal.invariant-loop
invariant-loop g l = length l.letters.items ≡ l.region.rows * (l.region.columns + 1)
