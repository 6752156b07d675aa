use Rattle.std.proofs.Common.{◌≡◌, [], ℕ, length, ◌∷◌, arith, sym, ap, ◌∙◌, Some, None, refl}
use Rattle.tl_board.specs.Hands.{hand, slots_out}
use Rattle.atomic_table.specs.Table.{rest}
use Rattle.tl_board.specs.Board.{is_member}
use Rattle.tl_board.specs.Steps.{after_post}
use Rattle.tl_board.proofs.Totals.{less-one}
use Rattle.tl_board.proofs.Posts.{posts}
use Rattle.tl_board.proofs.Known.{claim_held, claim_out, number_below, post_known, post_held, known_at, top_of, empty_slot}
use Rattle.tl_board.proofs.board.Board.post.Goals as goal

pub exchange-requires : goal.exchange-requires
exchange-requires g c = let caller = c.args.caller.now in
    (c.requires.caller, (None, top_of _ _ _ (claim_held _ _ caller.seat.me c.args.claim.number caller.known caller.slots_held c.requires.claimed.0 c.requires.claimed.1)))

pub unreachable-requires : goal.unreachable-requires
unreachable-requires g c = let caller = c.args.caller.now in
    let e : c.exchange.result ≡ None = empty_slot _ _ _ _ _ (claim_held _ _ caller.seat.me c.args.claim.number caller.known caller.slots_held c.requires.claimed.0 c.requires.claimed.1) c.exchange.ensures.2 in
    let f : None ≡ Some c.in-Some.field-0 = sym e ∙ c.in-Some.is in cc f

pub store-requires : goal.store-requires
store-requires g c = let caller = c.args.caller.now in let board = c.args.self.now in let same = ap (λ t. t.slots) c.requires.caller in let n : ℕ = c.args.claim.number in
    let below = number_below _ _ caller.seat.me.0 n caller.known c.requires.claimed.0 in let told = c.exchange.ensures in let e = ap (λ x. x.0) told.3 in (
      told.0 ∙ c.requires.caller,
      omega (arith, board.counts.0, same, below),
      posts g.P.Piece.job g.P.Piece.filled_for _ _ _ _ _ c.exchange.new.seat.me n c.args.claim.piece (ap length e ∙ caller.known.alone) (omega (arith, board.counts.1, same, below))
          (ap (λ hs. is_member (hand hs).drawn n) e ∙ c.requires.claimed.0) (ap (λ hs. is_member (hand hs).posted n) e ∙ c.requires.claimed.1)
          (c.requires.filled.0 ∙ sym (ap (λ hs. (hand hs).job) e)) c.requires.filled.1 (top_of _ _ _ (ap (λ x. x.1) told.3)),
    )

pub invariant_of-caller : goal.invariant_of-caller
invariant_of-caller g c = let caller = c.args.caller.now in let n : ℕ = c.args.claim.number in let told = c.exchange.ensures in let posted = c.store.ensures.2 in
    let hs = posted.0 ∙ (ap (λ k. after_post (hand c.exchange.new.seat.me.0) k ∷ []) (sym (less-one n)) ∙ ap (λ x. after_post (hand x.0) n ∷ []) told.3) in
    let held = claim_held _ _ caller.seat.me n caller.known caller.slots_held c.requires.claimed.0 c.requires.claimed.1 in
    record {
      known = known_at _ _ _ _ _ _ (ap (λ t. t.slots) (c.store.ensures.0 ∙ told.0)) refl hs (post_known _ _ caller.seat.me.0 n caller.known (claim_out _ _ caller.seat.me.0 n caller.known c.requires.claimed.0 c.requires.claimed.1));
      slots_held = posted.1 ∙ (ap (λ x. rest x.1) told.3 ∙ (ap rest held ∙ sym (ap (λ x. slots_out (hand x)) hs ∙ post_held _ _ caller.seat.me.0 n caller.known c.requires.claimed.0 c.requires.claimed.1)));
    }
