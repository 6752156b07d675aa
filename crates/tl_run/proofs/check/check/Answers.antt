use Rattle.tl_run.specs.Refusals.{extra_text}
use Rattle.tl_run.specs.Answers.{Is}
use Rattle.tl_run.specs.Check.{yes, CheckReply}
use Rattle.tl_run.proofs.ReaderLemmas.{AtEnd-empty, AtEnd-extra}
use Rattle.tl_run.proofs.CheckLemmas.{check-drawn}
use Rattle.tl_run.proofs.StopLemmas.{IfRefused-weaker, IfMade-passed}
use Rattle.tl_run.proofs.check.check.Goals as goal

pub returns-in_err-at_end : goal.returns-in_err-at_end
returns-in_err-at_end c =
    IfMade-passed c.from_residual-in_err-at_end.result c.in_err-at_end.field-0.0 (CheckReply c.args.input.now) c.from_residual-in_err-at_end.ensures.1
    (IfRefused-weaker c.in_err-at_end.field-0.0 (Is extra_text) (CheckReply c.args.input.now)
    (λ a e. check-drawn c.args.input.now c.in_ok-region.rest.now c.split_at.result.1.now c.in-Ok.taken c.in_ok-region.region _ a c.in_ok-region.ensures.region
    c.in_ok-region.ensures.rest c.in-Ok.ensures.allowed c.in-Ok.ensures.drawn c.in-Ok.ensures.taken c.split_at.ensures.back
    (AtEnd-extra c.split_at.result.1.now (Is yes) a c.in_err-at_end.ensures.extra e))
    c.in_err-at_end.ensures.refused)

pub returns : goal.returns
returns c =
    check-drawn c.args.input.now c.in_ok-region.rest.now c.split_at.result.1.now c.in-Ok.taken c.in_ok-region.region _ _ c.in_ok-region.ensures.region
    c.in_ok-region.ensures.rest c.in-Ok.ensures.allowed c.in-Ok.ensures.drawn c.in-Ok.ensures.taken c.split_at.ensures.back
    (AtEnd-empty c.split_at.result.1.now (Is yes) _ c.in_ok-at_end.ensures.empty c.fixed.ensures)
