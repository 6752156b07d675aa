use Rattle.std.proofs.Common.{true, inl, inr, Err, sym, subst, ℕ, List}
use Rattle.tl_definitions.specs.Region.{Region}
use Rattle.tl_outcomes.specs.Outcomes.{EntriesOf}
use Rattle.tl_run.specs.InEntries.{IsInEntries}
use Rattle.tl_run.specs.Replying.{Makes}
use Rattle.tl_run.specs.Samples.{RefusesSampled}
use Rattle.tl_run.specs.Summary.{IsSummaryHead, IsUntiled, Summarized, SummaryReply}
use Rattle.tl_text.specs.Shapes.{shape_text}
use Rattle.tl_outcomes.proofs.Stated.{own-bottom, own-top}
use Rattle.tl_run.proofs.SampleLemmas.{OfSampled-refused, OfSampled-read}
use Rattle.tl_run.proofs.StopLemmas.{Makes-allowed}
use Rattle.tl_run.proofs.WritingLemmas.{Writing-weaker}
use Rattle.tl_run.proofs.summary.summary.Goals as goal

pub returns-in-Err : goal.returns-in-Err
returns-in-Err g c =
    let job = c.args.job in
    let text = shape_text job.shape job.order in
    let made = Err c.in-Err.stop in
    Writing-weaker (Makes made) (SummaryReply job) true _ _ _
    (λ a p. OfSampled-refused job.job text (λ R. Summarized R job.job) a (Makes-allowed made (RefusesSampled job.job text) c.in-Err.ensures.refused a p)) c.write_made.ensures

pub write_draws-requires-clause-bottom : goal.write_draws-requires-clause-bottom
write_draws-requires-clause-bottom g c κs within = own-bottom c.in-Ok.region c.in-Ok-prepare.low c.in-Ok-prepare.ensures.low

pub write_draws-requires-clause-top : goal.write_draws-requires-clause-top
write_draws-requires-clause-top g c κs within = own-top c.in-Ok.region c.in-Ok-prepare.low c.in-Ok-prepare.high c.in-Ok-prepare.ensures.low c.in-Ok-prepare.ensures.high

pub returns : goal.returns
returns g c =
    let R = c.in-Ok.region in
    let job = c.args.job in
    let text = shape_text job.shape job.order in
    let made = Err c.in-Err-prepare.stop in
    Writing-weaker (Makes made) (SummaryReply job) true _ _ _
    (λ a p. OfSampled-read job.job text R (λ Q. Summarized Q job.job) a c.in-Ok.ensures.region (inr (Makes-allowed made (IsUntiled R) c.in-Err-prepare.ensures.refused a p)))
    c.write_made-in-Err-prepare.ensures

pub returns-in-Ok-prepare : goal.returns-in-Ok-prepare
returns-in-Ok-prepare g c =
    let R = c.in-Ok.region in
    let job = c.args.job in
    let text = shape_text job.shape job.order in
    let low = c.in-Ok-prepare.low in
    let b = c.in-Ok-prepare.ensures.low in
    let head : List ℕ = c.as_bytes.result.now in
    let is : IsSummaryHead R head = subst (λ (l : List ℕ). IsSummaryHead R l) (sym c.as_bytes.ensures.value) c.in-Ok-prepare.ensures.head in
    Writing-weaker (IsInEntries (EntriesOf (record { region = low.region; job = job.job; is_ranked = true })) head job.job.count) (SummaryReply job) true _ _ _
    (λ a s.
    OfSampled-read job.job text R (λ Q. Summarized Q job.job) a c.in-Ok.ensures.region
    (inl (
      head,
      is,
      subst (λ (Q : Region). IsInEntries (EntriesOf (record { region = Q; job = job.job; is_ranked = true })) head job.job.count a) b.region s,
    )))
    c.write_draws.ensures
