use Rattle.std.proofs.Common.{sym, ap, ◌∙◌, subst}
use Rattle.crossbeam_queue.specs.Passes.{view, ruled_capacity}
use Rattle.tl_border.specs.Ends.{IsNextToSend}
use Rattle.tl_border.proofs.Moves.{sends, finds_full}
use Rattle.tl_border.proofs.Calls.{refused}
use Rattle.tl_border.proofs.end.End.send.Goals as goal

pub push_as-requires-clause-rule : goal.push_as-requires-clause-rule
push_as-requires-clause-rule g c =
    let next = subst (λ e. IsNextToSend e c.args.row) (sym c.self.view_is) c.requires in
    let two = ap ruled_capacity c.deref-line.ensures ∙ c.self.invariant.room in
    (sends _ _ _ _ two c.self.invariant.sends next, finds_full _ _ c.self.invariant.sends)

pub returns-in-Err : goal.returns-in-Err
returns-in-Err g c =
    let told = c.in-Err.ensures.rule in
    let two = ap ruled_capacity c.deref-line.ensures ∙ c.self.invariant.room in
    (told.0, refused (view c.self.inside.sender) _ _ (view c.self.inside.receiver) _ _ c.self.view_is told.1 c.count_failure.ensures.view two told.2)
