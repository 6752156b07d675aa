use Rattle.tl_outcomes.specs.declared.draw_job.DrawJob.{DrawJob}
use Rattle.tl_outcomes.specs.Outcomes.{AreOutcomesOf, EntriesOf}
use Rattle.tl_run.specs.Statuses.{code_of}
use Rattle.tl_run.proofs.EntryLemmas.{AreGathered}
use Rattle.tl_run.proofs.draws.write_outcomes.Given as goal

abbrev pub invariant-loop-number : goal.invariant-loop-number
invariant-loop-number g l =
    (draw : DrawJob) → AreOutcomesOf draw l.outcomes
    → AreGathered (EntriesOf draw) l.head l.number (code_of l.status) l.page (g.K.Sink.state l.fn.sink) (g.K.Sink.state l.sink)
