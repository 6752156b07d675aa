use Rattle.std.proofs.Common.{◌≡◌, length}
use Rattle.std.specs.Prelude.{All}
use Rattle.tl_board.specs.Calls.{view, IsIdleOf}
use Rattle.tl_board.proofs.tests.three_callers_claim_each_number_once.Given as goal

abbrev pub invariant-loop-index : goal.invariant-loop-index
invariant-loop-index g l = (length l.callers.items ≡ 3) × All (λ c. IsIdleOf l.board c × ((view c).count ≡ 2)) l.callers.items
