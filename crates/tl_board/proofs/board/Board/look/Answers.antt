use Rattle.std.proofs.Common.{arith, ap}
use Rattle.tl_board.proofs.Looks.{looks}
use Rattle.tl_board.proofs.board.Board.look.Goals as goal

pub load-word-requires : goal.load-word-requires
load-word-requires g c = let board = c.args.self.now in let known = c.args.caller.now.known in let same = ap (λ t. t.slots) c.requires.caller in
    (c.requires.caller, omega (arith, board.counts.0, known.of_table, same, c.requires.number), looks g.P.Piece.job g.P.Piece.filled_for _ _ _ _ _ _ c.args.number known.alone (omega (arith, board.counts.1, known.of_table, same, c.requires.number)))
