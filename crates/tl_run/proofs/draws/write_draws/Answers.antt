use Rattle.tl_outcomes.specs.Outcomes.{EntriesOf}
use Rattle.tl_run.specs.InEntries.{IsInEntries}
use Rattle.tl_run.proofs.WritingLemmas.{Writing-silent}
use Rattle.tl_run.proofs.draws.write_draws.Goals as goal

pub returns-in-Err : goal.returns-in-Err
returns-in-Err g c =
    Writing-silent (IsInEntries (EntriesOf (record { region = c.args.low.now.region; job = c.args.job.now; is_ranked = c.args.is_ranked })) c.args.head.now c.args.job.now.count)
    (g.K.Sink.state c.args.sink.now)
