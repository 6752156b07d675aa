use Rattle.std.proofs.Common.{◌++◌, take, ◌∙◌, ap}
use Rattle.std.specs.Io.KnownBytes.{append_known}
use Rattle.tl_io.proofs.Known.{append_known-append, seam}
use Rattle.tl_io.proofs.writing.write_all.Goals as goal

pub loop-rest-preserved : goal.loop-rest-preserved
loop-rest-preserved g c =
    let so_far = c.loop-rest.invariant in
    let part = so_far.appended.0 in
    let n = c.in-Bytes.count in
    let rest = c.loop-rest.rest.now in
    record {
      appended = (
        part ++ take n rest,
        seam part c.args.bytes.now rest n so_far.appended.1,
        c.in-Bytes.ensures.bytes ∙ ap (λ known. append_known known (take n rest)) so_far.appended.2 ∙ append_known-append (g.K.Sink.state c.args.sink.now).held part (take n rest),
      );
      steady = c.in-Bytes.ensures.steady (λ e. cc e) ∙ so_far.steady;
    }
