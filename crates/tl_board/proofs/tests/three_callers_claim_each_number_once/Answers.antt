use Rattle.std.proofs.Common.{get_or}
use Rattle.tl_board.specs.Calls.{view}
use Rattle.tl_board.proofs.Stated.{none_out}
use Rattle.tl_board.proofs.tests.three_callers_claim_each_number_once.Goals as goal

pub close-requires-clause-none_out : goal.close-requires-clause-none_out
close-requires-clause-none_out g c κs = λ k d near. none_out (view (get_or c.loop-index.callers.items k d)) (c.loop-index.invariant.1 k d near).0.1
