use Rattle.std.proofs.Common.{◌≡◌}
use Rattle.bits_bench.proofs.read_backwards.Given as goal

abbrev pub invariant-words : goal.invariant-words
invariant-words g l = g.B.Bits.words l.bits ≡ l.slice.words

abbrev pub invariant-times : goal.invariant-times
invariant-times g l = g.B.Bits.words l.bits ≡ l.slice.words
