use Rattle.std.proofs.Common.{◌≡◌, ◌+◌, ◌≤◌, List, ℕ, Err, length, sym, ap, subst}
use Rattle.tl_io.specs.Reads.{IsStopAfter}
use Rattle.tl_io.specs.declared.reading.InFault.{InFault}
use Rattle.tl_formats.specs.declared.TheConstants.{INPUT_LIMIT}
use Rattle.tl_run.specs.Replies.{Answers, meaning_of, takes_memory_first}
use Rattle.tl_run.specs.Statuses.{code_of}
use Rattle.tl_run.specs.Writing.{Writing}
use Rattle.tl_run.proofs.ReplyLemmas.{Answers-heard}
use Rattle.tl_run.proofs.RunLemmas.{runs-input, runs-long, runs-fault, runs-memory}
use Rattle.tl_run.proofs.WritingLemmas.{Writing-is}
use Rattle.tl_run.proofs.run.hear.Goals as goal

pub returns-in-Ok : goal.returns-in-Ok
returns-in-Ok g c =
    let m = meaning_of c.args.command in
    let bytes = c.in-Ok.input.items in
    let same : bytes ≡ c.as_slice.result.now = sym c.as_slice.ensures.value in
    runs-input m (takes_memory_first c.args.command) _ _ _ _ _ bytes c.requires.reads c.in-Ok.ensures.whole c.in-Ok.ensures.end
    (c.in-Ok.ensures.steady (λ e. cc e)) (Answers-heard c.args.command bytes)
    (subst
    (λ (l : List ℕ). Writing (Answers m l) (takes_memory_first c.args.command) (g.K.Sink.state c.args.sink.now) (g.K.Sink.state c.answer_input.new.sink) (code_of c.answer_input.result))
    (sym same) c.answer_input.ensures)

pub returns-in-Err-ReadFault : goal.returns-in-Err-ReadFault
returns-in-Err-ReadFault g c =
    let (bytes, given, stop) = c.in-Err-ReadFault.ensures.stopped in
    let short : length bytes ≤ INPUT_LIMIT = subst (λ (f : InFault). IsStopAfter INPUT_LIMIT f (length bytes)) c.in-Err-ReadFault.field-0-is stop in
    runs-fault (meaning_of c.args.command) (takes_memory_first c.args.command) _ _ _ _ _ bytes c.requires.reads given short
    (c.in-Err-ReadFault.ensures.failed (ap (λ (f : InFault). Err f) c.in-Err-ReadFault.field-0-is))
    (Writing-is _ _ _ _ _ _ c.read_fault.ensures c.write_reply.ensures)

pub returns-in-Err-InputTooLong : goal.returns-in-Err-InputTooLong
returns-in-Err-InputTooLong g c =
    let (bytes, given, stop) = c.in-Err-InputTooLong.ensures.stopped in
    let long : length bytes ≡ INPUT_LIMIT + 1 = subst (λ (f : InFault). IsStopAfter INPUT_LIMIT f (length bytes)) c.in-Err-InputTooLong.field-0-is stop in
    runs-long (meaning_of c.args.command) (takes_memory_first c.args.command) _ _ _ _ _ bytes c.requires.reads given long
    (c.in-Err-InputTooLong.ensures.steady (λ e. cc (e, c.in-Err-InputTooLong.field-0-is)))
    (Writing-is _ _ _ _ _ _ c.input_too_long.ensures c.write_reply-in-Err-InputTooLong.ensures)

pub returns-in-Err-OutOfMemory : goal.returns-in-Err-OutOfMemory
returns-in-Err-OutOfMemory g c =
    let (bytes, given, stop) = c.in-Err-OutOfMemory.ensures.stopped in
    runs-memory (meaning_of c.args.command) (takes_memory_first c.args.command) _ _ _ bytes (λ e. cc (e, c.requires.reads)) given
