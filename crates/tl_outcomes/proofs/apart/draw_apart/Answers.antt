use Rattle.std.proofs.lemmas.Result.{IfOk-weaker}
use Rattle.tl_workers.specs.Filled.{AreFilled}
use Rattle.tl_outcomes.specs.declared.draw_job.DrawJob.{DrawJob}
use Rattle.tl_outcomes.specs.declared.outcome.Outcome.{Outcome}
use Rattle.tl_outcomes.specs.Outcomes.{AreOutcomesOf, draw_of, entry_of, EntriesOf}
use Rattle.tl_outcomes.proofs.ListLemmas.{filled-outcomes}
use Rattle.tl_outcomes.proofs.apart.draw_apart.Goals as goal

pub fill_all-requires-clause-job : goal.fill_all-requires-clause-job
fill_all-requires-clause-job g c κs within =
    let draw : DrawJob = record { region = c.args.region.now; job = c.args.job.now; is_ranked = c.args.is_ranked } in (
      draw,
      c.in_ok-blanks.ensures.each,
      λ k d near. (c.requires.of_region k d near, c.requires.bottom k d near, c.requires.within.bound, c.requires.ready k d near),
    )

pub returns-clause-each : goal.returns-clause-each
returns-clause-each g c =
    let draw : DrawJob = record { region = c.args.region.now; job = c.args.job.now; is_ranked = c.args.is_ranked } in
    let blanks = c.in_ok-blanks.blanks.items in
    IfOk-weaker c.fill_all.result
    (λ outcomes. AreFilled draw_of (λ (o : Outcome) n. EntriesOf (draw_of o) n (entry_of o.drawn o.noted n)) blanks outcomes.items)
    (λ outcomes. AreOutcomesOf draw outcomes.items)
    (λ outcomes filled. filled-outcomes draw blanks outcomes.items c.in_ok-blanks.ensures.each filled) c.fill_all.ensures
