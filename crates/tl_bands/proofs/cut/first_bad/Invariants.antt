use Rattle.std.proofs.Common.{ℕ, ◌<◌}
use Rattle.tl_bands.specs.Cuts.{IsFirstRow}
use Rattle.tl_bands.proofs.cut.first_bad.Given as goal

abbrev pub invariant-loop-number : goal.invariant-loop-number
invariant-loop-number l = (k : ℕ) → k < l.number → IsFirstRow l.rows l.firsts k
