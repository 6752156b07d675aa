use Rattle.std.proofs.Common.{◌≡◌, ℕ, ◌+◌, ◌<◌, ◌≤◌, false, [], map, get_or, get_or-set_other, subst, sym, ap, ◌∙◌, arith}
use lib.ListN.{get_elem?}
use Rattle.std.proofs.lemmas.List.{length-map}
use Rattle.std.proofs.lemmas.List.Elements.{All-map}
use Rattle.std.specs.Mem.Slots.{slots_items, slots_filled}
use Rattle.tl_lists.specs.Lists.{upto}
use Rattle.atomic_table.specs.Table.{Final, Seen}
use Rattle.tl_board.specs.Calls.{view}
use Rattle.tl_board.specs.Hands.{unposted}
use Rattle.tl_board.specs.Rule.{Keeps}
use Rattle.tl_board.proofs.Closes.{entry, entries_more, emptied_more, is_closed}
use Rattle.tl_board.proofs.board.Board.close.Goals as goal

pub push_reserved-requires : goal.push_reserved-requires
push_reserved-requires g c = let near : c.loop-number.number < c.slot_count-number-end.result = c.loop-number-test.true in let long = c.loop-number.invariant.6 in let room = c.loop-number.invariant.7 in omega (arith, near, long, room, c.slot_count-number-end.ensures)

pub loop-number-preserved : goal.loop-number-preserved
loop-number-preserved g c = let kept = c.loop-number.invariant in let others = c.take-slot.ensures.others in let n : ℕ = c.loop-number.number in let filled = slots_filled c.loop-number.closed.slots in (
  others.3 ∙ kept.0,
  others.0 ∙ kept.1,
  others.2 ∙ kept.2,
  (λ k low high. ap (λ f. get_or f k false) others.1 ∙ (get_or-set_other filled n k false false (λ e. omega (arith, e, low)) ∙ kept.3 k (omega (arith, low)) (omega (arith, high, others.2)))),
  (λ k near. ap (λ f. get_or f k false) others.1 ∙ emptied_more filled n kept.4 k near),
  entries_more _ _ n c.word.result c.take-slot.result c.left_in.result _ _ c.push_reserved.ensures.items kept.5 c.left_in.ensures (ap (λ w. get_elem? (slots_items w) (n + 1)) (sym (others.3 ∙ kept.0)) ∙ c.word.ensures) (ap (λ xs. get_elem? xs n) (sym kept.1) ∙ c.take-slot.ensures.value),
  c.push_reserved.ensures.len ∙ ap (λ (k : ℕ). k + 1) kept.6,
  omega (arith, kept.7, c.push_reserved.ensures.capacity),
)

pub returns : goal.returns
returns g c = let board = c.args.self in let key = board.table.shared.key in let closed = c.close_with-closed.result in let callers = c.args.callers.items in
    let end : c.loop-number.number ≤ c.slot_count-number-end.result = c.loop-number.auto.number-end in
    let all : c.loop-number.number ≡ key.count = omega (arith, end, c.loop-number-test.false, c.slot_count-number-end.ensures, c.close_with-closed.ensures.counts.1, board.counts.1) in
    let Rule = Keeps g.P.Piece.job g.P.Piece.filled_for (g.P.Piece.job key.like.value) key.count key.callers in
    is_closed g.P.Piece.job g.P.Piece.filled_for (g.P.Piece.job key.like.value) key.count key.callers c.merge_all-seat.result.id (map view callers) (slots_items closed.words) (slots_items closed.slots) c.loop-number.left.items
    (subst (λ hs. Final (Seen Rule c.merge_all-seat.result.id hs) (slots_items closed.words) (slots_items closed.slots)) c.merge_all-seat.ensures.views c.close_with-closed.ensures.values.2)
    (length-map callers view ∙ c.requires.callers.0) (All-map (λ v. unposted v ≡ []) view callers c.requires.none_out)
    (c.loop-number.invariant.5 ∙ ap (λ (k : ℕ). map (entry (slots_items closed.words) (slots_items closed.slots)) (upto k)) all)
