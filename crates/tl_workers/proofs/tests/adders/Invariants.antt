use Rattle.std.proofs.Common.{◌≡◌, length}
use Rattle.std.specs.Prelude.{All}
use Rattle.tl_workers.proofs.tests.adders.Given as goal

abbrev pub invariant-loop-index : goal.invariant-loop-index
invariant-loop-index l = record { count : length l.adders.items ≡ l.index; start : All (λ a. a.start ≡ l.start) l.adders.items }
