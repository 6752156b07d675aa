use Rattle.std.proofs.Common.{◌<◌, ℕ, false, arith, sym, ap, ◌∙◌, Some, refl}
use Rattle.tl_board.specs.Hands.{hand, slots_out}
use Rattle.tl_board.proofs.Draws.{draws, drew_below, no_past}
use Rattle.tl_board.proofs.Known.{draws_known, draws_held, known_at, top_of}
use Rattle.tl_board.proofs.board.Board.claim.Goals as goal

pub fetch_add-number-requires : goal.fetch_add-number-requires
fetch_add-number-requires g c = let board = c.args.self.now in let caller = c.args.caller.now in
    (c.requires.caller, omega (arith, board.counts.0), draws g.P.Piece.job g.P.Piece.filled_for _ _ _ _ _ _ caller.known.alone (no_past _ (sym caller.known.done_is ∙ c.if-caller.false)) (omega (arith, board.limits.1, board.limits.3)))

pub exchange-requires : goal.exchange-requires
exchange-requires g c = let m = c.args.caller.now.seat.me in let known = c.args.caller.now.known in
    let few : c.fetch_add-number.result < (hand m.0).count = omega (arith, c.if-number-slot_count.false, c.slot_count.ensures, known.of_table, ap (λ t. t.slots) c.requires.caller) in
    let d = drew_below g.P.Piece.job m c.fetch_add-number.result c.fetch_add-number.new.seat.me few c.fetch_add-number.ensures.2 in
    (c.fetch_add-number.ensures.0 ∙ c.requires.caller, (Some d.3.0, top_of c.fetch_add-number.new.seat.me.1 (c.fetch_add-number.result, Some d.3.0) m.1 d.3.1))

-- src/board.rt:38:27
pub invariant_of-caller-2 : goal.invariant_of-caller-2
invariant_of-caller-2 g c = let m = c.args.caller.now.seat.me in let known = c.args.caller.now.known in
    let few : c.fetch_add-number.result < (hand m.0).count = omega (arith, c.if-number-slot_count.false, c.slot_count.ensures, known.of_table, ap (λ t. t.slots) c.requires.caller) in
    let d = drew_below g.P.Piece.job m c.fetch_add-number.result c.fetch_add-number.new.seat.me few c.fetch_add-number.ensures.2 in
    let told = c.exchange.ensures in let same_table = told.0 ∙ c.fetch_add-number.ensures.0 in let slots : ℕ = c.args.caller.now.seat.table_id.slots in
    record {
      known = known_at slots c.exchange.new.seat.table_id.slots false c.args.caller.now.done c.fetch_add-number.new.seat.me.0 c.exchange.new.seat.me.0 (ap (λ t. t.slots) same_table) c.if-caller.false (ap (λ x. x.0) told.3)
          (draws_known g.P.Piece.job slots m c.fetch_add-number.result c.fetch_add-number.new.seat.me (known_at slots slots c.args.caller.now.done false m.0 m.0 refl (sym c.if-caller.false) refl known) c.requires.none_out (omega (arith, few, known.of_table)) d);
      slots_held = ap (λ x. x.1) told.3 ∙ (draws_held g.P.Piece.job m c.fetch_add-number.result c.fetch_add-number.new.seat.me c.requires.none_out c.args.caller.now.slots_held d ∙ sym (ap (λ x. slots_out (hand x.0)) told.3));
    }
