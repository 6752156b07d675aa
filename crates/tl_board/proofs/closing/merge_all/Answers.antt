use Rattle.std.proofs.Common.{◌≡◌, [], map, ap, ◌∙◌, Some, None}
use Rattle.std.proofs.lemmas.List.Elements.{All-pop}
use Rattle.tl_board.specs.Calls.{view, IsSeatOf}
use Rattle.tl_board.specs.Hands.{unposted}
use Rattle.tl_board.proofs.Totals.{hand-alone}
use Rattle.tl_board.proofs.Groups.{merges, views_popped, views_popped_more}
use Rattle.tl_board.proofs.closing.merge_all.Goals as goal

pub loop-caller-init : goal.loop-caller-init
loop-caller-init g c = let last = c.in-Some.last in let items = c.in-Some.ensures.items in
    let seats = All-pop (IsSeatOf c.args.shared.now.table_id) _ _ (Some last) items c.requires.seats in (
      seats.1,
      seats.0,
      (All-pop (λ x. unposted (view x) ≡ []) _ _ (Some last) items c.requires.none_out).0,
      views_popped view _ last _ last.seat.me.0 items (hand-alone last.seat.me.0 last.known.alone),
    )

pub join_seat-requires : goal.join_seat-requires
join_seat-requires g c = let caller = c.in-Some-pop.caller in let items = c.in-Some-pop.ensures.items in (
  c.loop-caller.invariant.0,
  (All-pop (IsSeatOf c.args.shared.now.table_id) _ _ (Some caller) items c.loop-caller.invariant.1).1,
  caller.slots_held ∙ ap (map (λ k. (k, None))) (All-pop (λ x. unposted (view x) ≡ []) _ _ (Some caller) items c.loop-caller.invariant.2).1,
  c.requires.table,
  merges g.P.Piece.job g.P.Piece.filled_for _ _ _ _ _ _ _,
)

pub loop-caller-preserved : goal.loop-caller-preserved
loop-caller-preserved g c = let caller = c.in-Some-pop.caller in let items = c.in-Some-pop.ensures.items in (
  c.join_seat.ensures.0 ∙ c.loop-caller.invariant.0,
  (All-pop (IsSeatOf c.args.shared.now.table_id) _ _ (Some caller) items c.loop-caller.invariant.1).0,
  (All-pop (λ x. unposted (view x) ≡ []) _ _ (Some caller) items c.loop-caller.invariant.2).0,
  views_popped_more view _ caller _ _ caller.seat.me.0 c.join_seat.new.seat.me.0 _ items (hand-alone caller.seat.me.0 caller.known.alone) (ap (λ x. x.0) c.join_seat.ensures.2) c.loop-caller.invariant.3,
)
