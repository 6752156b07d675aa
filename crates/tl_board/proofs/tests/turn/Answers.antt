use Rattle.tl_board.specs.Calls.{view}
use Rattle.tl_board.proofs.Stated.{none_out}
use Rattle.tl_board.proofs.tests.turn.Goals as goal

pub claim-requires-clause-none_out : goal.claim-requires-clause-none_out
claim-requires-clause-none_out c κs = none_out (view c.args.hand.now.caller) c.requires.1
