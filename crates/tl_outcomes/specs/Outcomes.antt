-- The outcomes of the samples of a job.
use Rattle.std.specs.Prelude.{◌≡◌, ℕ, ◌≤◌, List, slice_get, Some, MatchBool}
use Rattle.tl_chain.specs.declared.Drawn.{Drawn}
use Rattle.tl_chain.specs.declared.Drawn.TheVariants.{At, Late}
use Rattle.tl_text.specs.declared.SampleJob.{SampleJob}
use Rattle.tl_outcomes.specs.declared.draw_job.DrawJob.{DrawJob}
use Rattle.tl_outcomes.specs.declared.noted.Noted.{Noted}
use Rattle.tl_outcomes.specs.declared.outcome.Outcome.{Outcome}
use Rattle.tl_outcomes.specs.Entries.{Entry, Entries, on_time, too_late, DrawnEntries, RankedEntries}
pub use Rattle.tl_outcomes.specs.Noted.{is_rank, noted_text, HasRoom}

-- which entries the numbers of a job may have
abbrev pub EntriesOf : DrawJob → Entries
EntriesOf draw n e =
    MatchBool draw.is_ranked (RankedEntries draw.region draw.job n e) (DrawnEntries draw.region draw.job n e)

-- what is told of a number, by what was drawn for it and what was noted
abbrev pub entry_of : Drawn → Noted → ℕ → Entry
entry_of (At T) noted n = on_time (noted_text n T noted)
entry_of Late noted n = too_late n

abbrev pub draw_of : Outcome → DrawJob
draw_of o = record { region = o.region.now; job = o.job.now; is_ranked = is_rank o.noted }

-- each is the outcome of the number of its place
abbrev pub AreOutcomesOf : DrawJob → List Outcome → Type 0
AreOutcomesOf draw all =
    (n : ℕ) (o : Outcome) → slice_get all n ≡ Some o → EntriesOf draw n (entry_of o.drawn o.noted n)

-- the numbers of a job lie in the ranges that the command line allows them
pub record IsWithin (job : SampleJob) : Type 0 where
  pub bound : job.bound ≤ 30
  pub some : 1 ≤ job.count
  pub count : job.count ≤ 65536
  pub worked : 1 ≤ job.workers
  pub workers : job.workers ≤ 16
