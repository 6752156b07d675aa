use Rattle.std.proofs.Common.{true, false, [], inl, inr, Err, subst}
use Rattle.tl_definitions.specs.Region.{Region}
use Rattle.tl_outcomes.specs.Outcomes.{EntriesOf}
use Rattle.tl_run.specs.Decide.{IsBlocked}
use Rattle.tl_run.specs.InEntries.{IsInEntries}
use Rattle.tl_run.specs.Replying.{Makes}
use Rattle.tl_run.specs.Samples.{RefusesSampled, Sampled, SampleReply}
use Rattle.tl_outcomes.proofs.Stated.{own-bottom, own-top}
use Rattle.tl_run.proofs.SampleLemmas.{OfSampled-refused, OfSampled-read}
use Rattle.tl_run.proofs.StopLemmas.{Makes-allowed}
use Rattle.tl_run.proofs.WritingLemmas.{Writing-weaker}
use Rattle.tl_run.proofs.sample.sample.Goals as goal

pub returns-in-Err : goal.returns-in-Err
returns-in-Err g c =
    let job = c.args.job in
    let input = c.args.input.now in
    let made = Err c.in-Err.stop in
    Writing-weaker (Makes made) (SampleReply job input) true _ _ _
    (λ a p. OfSampled-refused job input (λ R. Sampled R job) a (Makes-allowed made (RefusesSampled job input) c.in-Err.ensures.refused a p)) c.write_made.ensures

pub write_draws-requires-clause-bottom : goal.write_draws-requires-clause-bottom
write_draws-requires-clause-bottom g c κs within = own-bottom c.in-Ok.region c.in-Ok-bounds.low c.in-Ok-bounds.ensures.low

pub write_draws-requires-clause-top : goal.write_draws-requires-clause-top
write_draws-requires-clause-top g c κs within = own-top c.in-Ok.region c.in-Ok-bounds.low c.in-Ok-bounds.high c.in-Ok-bounds.ensures.low c.in-Ok-bounds.ensures.high

pub returns : goal.returns
returns g c =
    let R = c.in-Ok.region in
    let job = c.args.job in
    let input = c.args.input.now in
    let made = Err c.in-Err-bounds.stop in
    Writing-weaker (Makes made) (SampleReply job input) true _ _ _
    (λ a p. OfSampled-read job input R (λ Q. Sampled Q job) a c.in-Ok.ensures.region (inr (Makes-allowed made (IsBlocked R) c.in-Err-bounds.ensures.refused a p)))
    c.write_made-in-Err-bounds.ensures

pub returns-in-Ok-bounds : goal.returns-in-Ok-bounds
returns-in-Ok-bounds g c =
    let R = c.in-Ok.region in
    let job = c.args.job in
    let input = c.args.input.now in
    let low = c.in-Ok-bounds.low in
    let b = c.in-Ok-bounds.ensures.low in
    Writing-weaker (IsInEntries (EntriesOf (record { region = low.region; job = job; is_ranked = false })) [] job.count) (SampleReply job input) true _ _ _
    (λ a s.
    OfSampled-read job input R (λ Q. Sampled Q job) a c.in-Ok.ensures.region
    (inl (
      (b.tiles, b.bottom.tiling),
      subst (λ (Q : Region). IsInEntries (EntriesOf (record { region = Q; job = job; is_ranked = false })) [] job.count a) b.region s,
    )))
    c.write_draws.ensures
