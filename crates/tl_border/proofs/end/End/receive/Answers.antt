use Rattle.tl_border.proofs.Moves.{gets, finds_empty}
use Rattle.tl_border.proofs.end.End.receive.Goals as goal

pub pop_as-requires-clause-rule : goal.pop_as-requires-clause-rule
pop_as-requires-clause-rule g c = (gets _ _ c.self.invariant.gets, finds_empty _ _ c.self.invariant.gets)
