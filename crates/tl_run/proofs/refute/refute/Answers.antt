use Rattle.std.proofs.Common.{inl}
use Rattle.tl_obstruction.specs.Told.{told_by}
use Rattle.tl_run.specs.Answers.{Is}
use Rattle.tl_run.specs.Readers.{RefusesObstruction, AtEnd}
use Rattle.tl_run.specs.Refusals.{extra_text}
use Rattle.tl_run.specs.Refute.{Judged, ReasonReply, RefuteReply}
use Rattle.tl_run.proofs.ReaderLemmas.{OfRegion-read, OfObstruction-read, AtEnd-empty, AtEnd-extra}
use Rattle.tl_run.proofs.StopLemmas.{IfRefused-weaker, IfMade-weaker, IfMade-passed}
use Rattle.tl_run.proofs.refute.refute.Goals as goal

pub returns-in_err-told : goal.returns-in_err-told
returns-in_err-told c =
    IfMade-passed c.from_residual-in_err-told.result c.in_err-told.field-0.0 (RefuteReply c.args.input.now) c.from_residual-in_err-told.ensures.1
    (IfRefused-weaker c.in_err-told.field-0.0 (RefusesObstruction c.in_ok-region.rest.now) (RefuteReply c.args.input.now)
    (λ a p. OfRegion-read c.args.input.now c.in_ok-region.rest.now c.in_ok-region.region ReasonReply a c.in_ok-region.ensures.region c.in_ok-region.ensures.rest (inl p))
    c.in_err-told.ensures.refused)

pub returns-in_err-at_end : goal.returns-in_err-at_end
returns-in_err-at_end c =
    let R = c.in_ok-region.region in
    let o = told_by c.in_ok-told.told in
    IfMade-passed c.from_residual-in_err-at_end.result c.in_err-at_end.field-0.0 (RefuteReply c.args.input.now) c.from_residual-in_err-at_end.ensures.1
    (IfRefused-weaker c.in_err-at_end.field-0.0 (Is extra_text) (RefuteReply c.args.input.now)
    (λ a e. OfRegion-read c.args.input.now c.in_ok-region.rest.now R ReasonReply a c.in_ok-region.ensures.region c.in_ok-region.ensures.rest
    (OfObstruction-read c.in_ok-region.rest.now c.in_ok-told.end.now o (λ p end. AtEnd end (Judged R p)) a c.in_ok-told.ensures.good c.in_ok-told.ensures.told
    c.in_ok-told.ensures.rest (AtEnd-extra c.in_ok-told.end.now (Judged R o) a c.in_err-at_end.ensures.extra e)))
    c.in_err-at_end.ensures.refused)

pub returns : goal.returns
returns c =
    let R = c.in_ok-region.region in
    let o = told_by c.in_ok-told.told in
    IfMade-weaker c.judge.result (Judged R o) (RefuteReply c.args.input.now)
    (λ a j. OfRegion-read c.args.input.now c.in_ok-region.rest.now R ReasonReply a c.in_ok-region.ensures.region c.in_ok-region.ensures.rest
    (OfObstruction-read c.in_ok-region.rest.now c.in_ok-told.end.now o (λ p end. AtEnd end (Judged R p)) a c.in_ok-told.ensures.good c.in_ok-told.ensures.told
    c.in_ok-told.ensures.rest (AtEnd-empty c.in_ok-told.end.now (Judged R o) a c.in_ok-at_end.ensures.empty j)))
    c.judge.ensures
