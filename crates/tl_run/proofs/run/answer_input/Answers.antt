use Rattle.std.proofs.Common.{sym, subst}
use Rattle.tl_text.specs.declared.Command.{Command}
use Rattle.tl_text.specs.declared.Command.TheVariants.{Check, Decide, Distance, Flips, Refute, Sample}
use Rattle.tl_run.specs.Check.{CheckReply}
use Rattle.tl_run.specs.Decide.{DecideReply}
use Rattle.tl_run.specs.Flips.{FlipsReply, DistanceReply}
use Rattle.tl_run.specs.Refute.{RefuteReply}
use Rattle.tl_run.specs.Replies.{Answers, meaning_of, takes_memory_first}
use Rattle.tl_run.specs.Replying.{Makes}
use Rattle.tl_run.specs.Samples.{SampleReply}
use Rattle.tl_run.specs.Ranges.{IsWithinRanges}
use Rattle.tl_run.specs.Statuses.{code_of}
use Rattle.tl_run.specs.Writing.{Writing}
use Rattle.tl_run.proofs.ReaderLemmas.{OfInput-short}
use Rattle.tl_run.proofs.StopLemmas.{Makes-allowed}
use Rattle.tl_run.proofs.WritingLemmas.{Writing-weaker}
use Rattle.tl_run.proofs.run.answer_input.Goals as goal

pub returns-in-Check : goal.returns-in-Check
returns-in-Check g c =
    let input = c.args.input.now in
    subst
    (λ (k : Command). Writing (Answers (meaning_of k) input) (takes_memory_first k) (g.K.Sink.state c.args.sink.now) (g.K.Sink.state c.write_made.new.sink) (code_of c.write_made.result))
    (sym c.in-Check.is)
    (Writing-weaker (Makes c.check.result) (Answers (meaning_of Check) input) (takes_memory_first Check) _ _ _
    (λ a p. OfInput-short input (CheckReply input) a c.requires.input (Makes-allowed c.check.result (CheckReply input) c.check.ensures a p)) c.write_made.ensures)

pub returns-in-Refute : goal.returns-in-Refute
returns-in-Refute g c =
    let input = c.args.input.now in
    subst
    (λ (k : Command). Writing (Answers (meaning_of k) input) (takes_memory_first k) (g.K.Sink.state c.args.sink.now) (g.K.Sink.state c.write_made-in-Refute.new.sink) (code_of c.write_made-in-Refute.result))
    (sym c.in-Refute.is)
    (Writing-weaker (Makes c.refute.result) (Answers (meaning_of Refute) input) (takes_memory_first Refute) _ _ _
    (λ a p. OfInput-short input (RefuteReply input) a c.requires.input (Makes-allowed c.refute.result (RefuteReply input) c.refute.ensures a p)) c.write_made-in-Refute.ensures)

pub returns-in-Decide : goal.returns-in-Decide
returns-in-Decide g c =
    let input = c.args.input.now in
    subst
    (λ (k : Command). Writing (Answers (meaning_of k) input) (takes_memory_first k) (g.K.Sink.state c.args.sink.now) (g.K.Sink.state c.write_made-in-Decide.new.sink) (code_of c.write_made-in-Decide.result))
    (sym c.in-Decide.is)
    (Writing-weaker (Makes c.decide.result) (Answers (meaning_of Decide) input) (takes_memory_first Decide) _ _ _
    (λ a p. OfInput-short input (DecideReply input) a c.requires.input (Makes-allowed c.decide.result (DecideReply input) c.decide.ensures a p)) c.write_made-in-Decide.ensures)

pub returns-in-Flips : goal.returns-in-Flips
returns-in-Flips g c =
    let input = c.args.input.now in
    subst
    (λ (k : Command). Writing (Answers (meaning_of k) input) (takes_memory_first k) (g.K.Sink.state c.args.sink.now) (g.K.Sink.state c.write_made-in-Flips.new.sink) (code_of c.write_made-in-Flips.result))
    (sym c.in-Flips.is)
    (Writing-weaker (Makes c.flips.result) (Answers (meaning_of Flips) input) (takes_memory_first Flips) _ _ _
    (λ a p. OfInput-short input (FlipsReply input) a c.requires.input (Makes-allowed c.flips.result (FlipsReply input) c.flips.ensures a p)) c.write_made-in-Flips.ensures)

pub returns-in-Distance : goal.returns-in-Distance
returns-in-Distance g c =
    let input = c.args.input.now in
    subst
    (λ (k : Command). Writing (Answers (meaning_of k) input) (takes_memory_first k) (g.K.Sink.state c.args.sink.now) (g.K.Sink.state c.write_made-in-Distance.new.sink) (code_of c.write_made-in-Distance.result))
    (sym c.in-Distance.is)
    (Writing-weaker (Makes c.distance.result) (Answers (meaning_of Distance) input) (takes_memory_first Distance) _ _ _
    (λ a p. OfInput-short input (DistanceReply input) a c.requires.input (Makes-allowed c.distance.result (DistanceReply input) c.distance.ensures a p)) c.write_made-in-Distance.ensures)

pub sample-requires-clause-within : goal.sample-requires-clause-within
sample-requires-clause-within g c κs within = subst IsWithinRanges c.in-Sample.is c.requires.ranges

pub returns-in-Sample : goal.returns-in-Sample
returns-in-Sample g c =
    let input = c.args.input.now in
    let job = c.in-Sample.job in
    subst
    (λ (k : Command). Writing (Answers (meaning_of k) input) (takes_memory_first k) (g.K.Sink.state c.args.sink.now) (g.K.Sink.state c.sample.new.sink) (code_of c.sample.result))
    (sym c.in-Sample.is)
    (Writing-weaker (SampleReply job input) (Answers (meaning_of (Sample job)) input) (takes_memory_first (Sample job)) _ _ _
    (λ a p. OfInput-short input (SampleReply job input) a c.requires.input p) c.sample.ensures)
