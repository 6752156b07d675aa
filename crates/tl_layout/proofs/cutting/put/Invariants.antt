use Rattle.std.proofs.Common.{take}
use Rattle.tl_layout.specs.Coins.{ArePut}
use Rattle.tl_layout.proofs.cutting.put.Given as goal

abbrev pub invariant-loop-piece : goal.invariant-loop-piece
invariant-loop-piece l = ArePut l.raw l.pieces (take l.piece-index l.pieces) l.words
