use Rattle.std.proofs.Common.{◌≡◌, length}
use Rattle.std.specs.Prelude.{All}
use Rattle.tl_workers.proofs.tests.blanks.Given as goal

abbrev pub invariant-loop-index : goal.invariant-loop-index
invariant-loop-index l = record { count : length l.blanks.items ≡ l.index; job : All (λ p. p.start ≡ l.start) l.blanks.items }
