use Rattle.tl_border.proofs.Moves.{fails}
use Rattle.tl_border.proofs.line.count_failure.Goals as goal

pub another-requires-clause-rule : goal.another-requires-clause-rule
another-requires-clause-rule c = fails _ _ c.requires.role
