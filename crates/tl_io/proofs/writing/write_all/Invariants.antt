use Rattle.std.proofs.Common.{◌≡◌, ◌++◌, length, List, ℕ}
use Rattle.std.specs.Io.KnownBytes.{append_known}
use Rattle.tl_io.proofs.writing.write_all.Given as goal

abbrev pub invariant-loop-rest : goal.invariant-loop-rest
invariant-loop-rest g l =
    let before = g.K.Sink.state l.fn.sink in
    let now = g.K.Sink.state l.sink in
    record {
      appended : (part : List ℕ) × (part ++ l.rest ≡ l.bytes) × (now.held ≡ append_known before.held part);
      steady : now.faults ≡ before.faults;
    }

abbrev pub decreases-loop-rest : goal.decreases-loop-rest
decreases-loop-rest g l = length l.rest
