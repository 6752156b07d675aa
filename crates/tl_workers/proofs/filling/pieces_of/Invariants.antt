use Rattle.std.proofs.Common.{◌≡◌, map}
use Rattle.tl_board.specs.declared.caller.Left.TheVariants.{Posted}
use Rattle.tl_workers.proofs.filling.pieces_of.Given as goal

abbrev pub invariant-loop-entry : goal.invariant-loop-entry
invariant-loop-entry g l = map Posted l.pieces.items ≡ l.yielded
