use Rattle.std.proofs.Common.{[], refl, sym, subst}
use Rattle.tl_text.specs.declared.Command.{Command}
use Rattle.tl_text.specs.declared.Command.TheVariants.{Gen}
use Rattle.tl_run.specs.Ranges.{IsWithinRanges}
use Rattle.tl_run.specs.Replies.{meaning_of, takes_memory_first}
use Rattle.tl_run.specs.Runs.{Runs}
use Rattle.tl_run.specs.Statuses.{code_of}
use Rattle.tl_run.proofs.ReplyLemmas.{Answers-heard, reads-unless_gen}
use Rattle.tl_run.proofs.RunLemmas.{runs-unasked}
use Rattle.tl_run.proofs.run.answer_command.Goals as goal

pub answer_gen-requires-clause-order : goal.answer_gen-requires-clause-order
answer_gen-requires-clause-order g c κs within =
    let ranges : IsWithinRanges (Gen c.in-Gen.job) = subst IsWithinRanges c.in-Gen.is c.requires.ranges in ranges.0

pub answer_gen-requires-clause-within : goal.answer_gen-requires-clause-within
answer_gen-requires-clause-within g c κs within =
    let ranges : IsWithinRanges (Gen c.in-Gen.job) = subst IsWithinRanges c.in-Gen.is c.requires.ranges in ranges.1

pub hear-requires-clause-reads : goal.hear-requires-clause-reads
hear-requires-clause-reads g c κs within = reads-unless_gen c.args.command c.in_default.not-Gen

pub returns-in-Gen-clause-run : goal.returns-in-Gen-clause-run
returns-in-Gen-clause-run g c =
    let gen = c.in-Gen.job in
    let source = g.S.Source.state c.args.source.now in
    let start = g.K.Sink.state c.args.sink.now in
    let end = g.K.Sink.state c.answer_gen.new.sink in
    subst (λ (k : Command). Runs (meaning_of k) (takes_memory_first k) source source start end (code_of c.answer_gen.result)) (sym c.in-Gen.is)
    (runs-unasked (meaning_of (Gen gen)) (takes_memory_first (Gen gen)) source start end _ refl (Answers-heard (Gen gen) []) c.answer_gen.ensures)
