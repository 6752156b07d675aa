use Rattle.std.proofs.Common.{◌≡◌}
use Rattle.tl_bits.proofs.tests.assert_words.Given as goal

abbrev pub invariant-loop-time : goal.invariant-loop-time
invariant-loop-time g l = g.B.Bits.words l.bits ≡ l.words
