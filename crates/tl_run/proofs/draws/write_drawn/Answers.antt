use Rattle.std.proofs.Common.{ℕ, List, length, true, sym, ◌∙◌, ap, subst}
use Rattle.tl_definitions.specs.Region.{Region}
use Rattle.tl_outcomes.specs.declared.draw_job.DrawJob.{DrawJob}
use Rattle.tl_outcomes.specs.declared.outcome.Outcome.{Outcome}
use Rattle.tl_outcomes.specs.Outcomes.{AreOutcomesOf, EntriesOf}
use Rattle.tl_run.specs.InEntries.{IsInEntries}
use Rattle.tl_run.specs.Statuses.{code_of}
use Rattle.tl_run.specs.Writing.{Writing}
use Rattle.tl_run.proofs.WritingLemmas.{Writing-silent}
use Rattle.tl_run.proofs.draws.write_drawn.Goals as goal

pub returns-in-Ok-draw_apart : goal.returns-in-Ok-draw_apart
returns-in-Ok-draw_apart g c =
    let low = c.args.low.now in
    let draw : DrawJob = record { region = low.region; job = c.args.job.now; is_ranked = c.args.is_ranked } in
    let start = g.K.Sink.state c.args.sink.now in
    let end = g.K.Sink.state c.write_outcomes.new.sink in
    let same = c.deref.ensures.value in
    subst (λ (n : ℕ). Writing (IsInEntries (EntriesOf draw) c.args.head.now n) true start end (code_of c.write_outcomes.result))
    (ap length same ∙ c.in-Ok-draw_apart.ensures.count)
    (c.write_outcomes.ensures draw low c.requires.bottom c.region-region.ensures.accepted
    (subst (λ (all : List Outcome). AreOutcomesOf draw all) (sym same)
    (subst (λ (R : Region). AreOutcomesOf (record draw { region = R }) c.in-Ok-draw_apart.outcomes.items) c.region-region.ensures.region c.in-Ok-draw_apart.ensures.each)))

pub returns : goal.returns
returns g c =
    Writing-silent (IsInEntries (EntriesOf (record { region = c.args.low.now.region; job = c.args.job.now; is_ranked = c.args.is_ranked })) c.args.head.now c.args.job.now.count)
    (g.K.Sink.state c.args.sink.now)
