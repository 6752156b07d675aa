use Rattle.std.proofs.Common.{◌≡◌}
use Rattle.bits_bench.proofs.main.Given as goal

abbrev pub invariant-loop-i : goal.invariant-loop-i
invariant-loop-i l = record { up_words : l.up.words ≡ l.words; down_words : l.down.words ≡ l.words }
