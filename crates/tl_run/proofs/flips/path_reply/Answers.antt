use Rattle.std.proofs.Common.{◌≡◌, ℕ, List, ◌∙◌, ap}
use Rattle.std.proofs.lemmas.Result.{IfOk-weaker}
use Rattle.tl_run.specs.Answers.{answer}
use Rattle.tl_run.specs.Flips.{flips_text, too_long, IsPathAnswer}
use Rattle.tl_run.specs.Replying.{answer_of}
use Rattle.tl_run.proofs.FlipLemmas.{IsPathAnswer-told, IsPathAnswer-long}
use Rattle.tl_run.proofs.flips.path_reply.Goals as goal

pub returns-in-Ok : goal.returns-in-Ok
returns-in-Ok c =
    IsPathAnswer-told c.args.first.now.region c.in_ok-from.from.region c.in_ok-from.from.numbers c.in_ok-from.to.numbers _ _ _ c.in_ok-from.ensures.first c.in_ok-from.ensures.from
    c.in_ok-from.ensures.to c.in-Ok.path.items c.in-Ok.ensures.shortest c.in-Ok.ensures.within
    (c.of_bytes.ensures ∙ ap (λ (t : List ℕ). answer t 0) (c.in_ok-path_text-in-Ok.ensures ∙ ap flips_text c.as_slice.ensures.value))

pub returns-in-Err-TooLong : goal.returns-in-Err-TooLong
returns-in-Err-TooLong c =
    let fault = rw c.in-Err-TooLong.field-0-is at c.in-Err-TooLong.ensures.fault in
    IfOk-weaker c.too_long.result (λ reply. answer_of reply ≡ too_long c.in-Err-TooLong.flips) (λ reply. IsPathAnswer c.args.first.now.region c.args.first.now.tiles c.args.second.now.tiles (answer_of reply))
    (λ reply is. IsPathAnswer-long c.args.first.now.region c.in_ok-from.from.region c.in_ok-from.from.numbers c.in_ok-from.to.numbers _ _ _ c.in_ok-from.ensures.first c.in_ok-from.ensures.from
    c.in_ok-from.ensures.to c.in-Err-TooLong.flips fault.0 fault.1 is)
    c.too_long.ensures
