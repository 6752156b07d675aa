use Rattle.std.proofs.Common.{◌≤◌, ◌-◌, [], ℕ, arith, sym, ap, ◌∙◌, refl}
use Rattle.std.specs.Prelude.{take, drop}
use Rattle.tl_board.specs.Calls.{view, IsSeatOf}
use Rattle.tl_board.specs.Hands.{unposted, hand}
use Rattle.tl_board.proofs.Groups.{cuts}
use Rattle.tl_board.proofs.Known.{known_at}
use Rattle.tl_board.proofs.Opens.{new, made, remaining_more, made_more, new_known, last_one, views_more, all_more}
use Rattle.tl_board.proofs.opening.deal.Goals as goal

pub split_seat-requires : goal.split_seat-requires
split_seat-requires g c = (c.loop-index.invariant.0, c.requires.table.0, cuts g.P.Piece.job g.P.Piece.filled_for _ _ _ _ _)

pub caller_of-requires-after_bounds : goal.caller_of-requires-after_bounds
caller_of-requires-after_bounds g c = let job = g.P.Piece.job c.args.shared.now.key.like.value in let count : ℕ = c.args.shared.now.table_id.slots in let i : ℕ = c.loop-index.index in let told = c.split_seat.ensures in
    let hs = ap (λ x. x.0) told.4 ∙ (ap (λ x. take 1 x.0) c.loop-index.invariant.1 ∙ ap (take 1) (remaining_more job count c.args.count i (omega (arith, c.loop-index-test.true)))) in
    λ _ _. (known_at _ _ _ _ _ _ (ap (λ t. t.slots) (told.3 ∙ c.loop-index.invariant.0)) refl hs (new_known job count c.args.count i), ap (λ x. x.1) told.4, ap (λ x. unposted (hand x)) hs)

pub loop-index-preserved : goal.loop-index-preserved
loop-index-preserved g c = let job = g.P.Piece.job c.args.shared.now.key.like.value in let count : ℕ = c.args.shared.now.table_id.slots in let i : ℕ = c.loop-index.index in let told = c.split_seat.ensures in
    let more = remaining_more job count c.args.count i (omega (arith, c.loop-index-test.true)) in
    let hs = ap (λ x. x.0) told.4 ∙ (ap (λ x. take 1 x.0) c.loop-index.invariant.1 ∙ ap (take 1) more) in
    let items = c.in_ok-push.ensures.items in (
      told.0 ∙ c.loop-index.invariant.0,
      told.2 ∙ (ap (λ x. (drop 1 x.0, x.1)) c.loop-index.invariant.1 ∙ ap (λ x. (drop 1 x, [])) more),
      views_more view _ _ (new job count c.args.count i) _ _ items c.loop-index.invariant.2 (ap (λ x. hand x.me.0) c.caller_of.ensures ∙ ap hand hs) ∙ sym (made_more job count c.args.count i),
      all_more (IsSeatOf c.args.shared.now.table_id) _ _ _ items c.loop-index.invariant.3 (ap (λ x. x.table_id) c.caller_of.ensures ∙ (told.3 ∙ c.loop-index.invariant.0)),
    )

pub caller_of-requires-2-after_bounds : goal.caller_of-requires-2-after_bounds
caller_of-requires-2-after_bounds g c = let job = g.P.Piece.job c.args.shared.now.key.like.value in let count : ℕ = c.args.shared.now.table_id.slots in let i : ℕ = c.loop-index.index in
    let end : c.loop-index.index ≤ c.args.count - 1 = c.loop-index.auto.index-end in
    let hs = ap (λ x. x.0) c.loop-index.invariant.1 ∙ last_one job count c.args.count i (omega (arith, end, c.requires.table.1)) (omega (arith, c.loop-index-test.false)) in
    λ _ _. (known_at _ _ _ _ _ _ (ap (λ t. t.slots) c.loop-index.invariant.0) refl hs (new_known job count c.args.count i), ap (λ x. x.1) c.loop-index.invariant.1, ap (λ x. unposted (hand x)) hs)

pub returns-clause-views : goal.returns-clause-views
returns-clause-views g c = let job = g.P.Piece.job c.args.shared.now.key.like.value in let count : ℕ = c.args.shared.now.table_id.slots in let i : ℕ = c.loop-index.index in
    let end : c.loop-index.index ≤ c.args.count - 1 = c.loop-index.auto.index-end in
    let hs = ap (λ x. x.0) c.loop-index.invariant.1 ∙ last_one job count c.args.count i (omega (arith, end, c.requires.table.1)) (omega (arith, c.loop-index-test.false)) in
    views_more view _ _ (new job count c.args.count i) _ _ c.in_ok-push-2.ensures.items c.loop-index.invariant.2 (ap (λ x. hand x.me.0) c.caller_of-2.ensures ∙ ap hand hs) ∙ (sym (made_more job count c.args.count i) ∙ ap (made job count c.args.count) (omega (arith, end, c.requires.table.1, c.loop-index-test.false)))

pub returns-clause-seats : goal.returns-clause-seats
returns-clause-seats g c = all_more (IsSeatOf c.args.shared.now.table_id) _ _ _ c.in_ok-push-2.ensures.items c.loop-index.invariant.3 (ap (λ x. x.table_id) c.caller_of-2.ensures ∙ c.loop-index.invariant.0)
