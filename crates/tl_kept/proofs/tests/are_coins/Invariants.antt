use Rattle.std.proofs.Common.{◌≡◌}
use Rattle.tl_kept.proofs.tests.are_coins.Given as goal

abbrev pub invariant-loop-last : goal.invariant-loop-last
invariant-loop-last g l = g.B.Bits.words l.kept.bits ≡ g.B.Bits.words l.fn.kept.bits
