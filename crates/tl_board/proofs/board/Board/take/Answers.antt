use Rattle.std.proofs.Common.{ℕ, length, arith, ap, ◌∙◌, Some}
use Rattle.tl_board.specs.Hands.{hand}
use Rattle.tl_board.specs.Board.{is_member}
use Rattle.tl_board.proofs.Takes.{grabs, grabbed, hands_back}
use Rattle.tl_board.proofs.Known.{posted_last, top_of}
use Rattle.tl_board.proofs.board.Board.take.Goals as goal

pub compare_exchange-requires : goal.compare_exchange-requires
compare_exchange-requires g c = let board = c.args.self.now in let known = c.args.caller.now.known in let same = ap (λ t. t.slots) c.requires.caller in
    (c.requires.caller, omega (arith, board.counts.0, known.of_table, same, c.requires.number), grabs g.P.Piece.job g.P.Piece.filled_for _ _ _ _ _ _ c.args.number known.alone (omega (arith, board.counts.1, known.of_table, same, c.requires.number)))

pub exchange-piece-requires : goal.exchange-piece-requires
exchange-piece-requires g c = let told = c.compare_exchange.ensures in let d = grabbed g.P.Piece.job g.P.Piece.filled_for c.args.number c.args.caller.now.seat.me _ c.compare_exchange.new.seat.me c.if-compare_exchange-ne1.false told.2 in
    (told.0 ∙ c.requires.caller, (Some d.1.0, top_of _ _ _ d.1.1))

pub store-requires : goal.store-requires
store-requires g c = let board = c.args.self.now in let known = c.args.caller.now.known in let same = ap (λ t. t.slots) c.requires.caller in let n : ℕ = c.args.number in
    let told = c.compare_exchange.ensures in let d = grabbed g.P.Piece.job g.P.Piece.filled_for n c.args.caller.now.seat.me _ c.compare_exchange.new.seat.me c.if-compare_exchange-ne1.false told.2 in
    let swapped = c.exchange-piece.ensures in let hs = ap (λ x. x.0) swapped.3 ∙ d.0 in (
      swapped.0 ∙ (told.0 ∙ c.requires.caller),
      omega (arith, board.counts.0, known.of_table, same, c.requires.number),
      hands_back g.P.Piece.job g.P.Piece.filled_for _ _ _ _ _ c.exchange-piece.new.seat.me n (ap length hs) (omega (arith, board.counts.1, known.of_table, same, c.requires.number))
          (ap (λ x. is_member (hand x).taken n) hs ∙ posted_last (hand c.args.caller.now.seat.me.0).taken n) (top_of _ _ _ (ap (λ x. x.1) swapped.3)),
    )
