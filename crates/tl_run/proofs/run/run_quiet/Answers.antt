use Rattle.std.proofs.Common.{Err, ap, refl}
use Rattle.tl_text.specs.declared.fault.WordsFault.{WordsFault}
use Rattle.tl_text.specs.Given.{texts}
use Rattle.tl_run.specs.Answers.{Is}
use Rattle.tl_run.specs.Refusals.{usage}
use Rattle.tl_run.specs.Replies.{WithoutInput}
use Rattle.tl_run.proofs.RangeLemmas.{asked-ranges}
use Rattle.tl_run.proofs.ReaderLemmas.{Is-heard}
use Rattle.tl_run.proofs.RunLemmas.{runs-unasked, runs-unread}
use Rattle.tl_run.proofs.WritingLemmas.{Writing-is}
use Rattle.tl_run.proofs.run.run_quiet.Goals as goal

pub answer_command-requires-clause-ranges : goal.answer_command-requires-clause-ranges
answer_command-requires-clause-ranges g c κs within = asked-ranges (texts c.args.words.now) c.in-Ok.command c.in-Ok.ensures.command

pub returns-in-Err-Usage-clause-run : goal.returns-in-Err-Usage-clause-run
returns-in-Err-Usage-clause-run g c =
    rw (c.in-Err-Usage.ensures.usage (ap (λ (f : WordsFault). Err f) c.in-Err-Usage.field-0-is))
    (runs-unasked (WithoutInput (Is usage)) _ _ _ _ _ refl (λ a. Is-heard usage a refl) (Writing-is _ _ _ _ _ _ c.usage.ensures c.write_reply.ensures))

pub returns-in-Err-OutOfMemory-clause-run : goal.returns-in-Err-OutOfMemory-clause-run
returns-in-Err-OutOfMemory-clause-run g c = runs-unread _ _ _ _
