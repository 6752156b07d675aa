use Rattle.std.proofs.Common.{◌≡◌, ◌-◌, ◌+◌, ◌≤◌, vec_len}
use Rattle.std.specs.Io.KnownBytes.{prepend_known}
use Rattle.tl_io.proofs.reading.read_all.Given as goal

abbrev pub invariant-loop-count : goal.invariant-loop-count
invariant-loop-count g l =
    let before = g.S.Source.state l.fn.source in
    let now = g.S.Source.state l.source in
    record {
      given : before.left ≡ prepend_known l.bytes.items now.left;
      within : vec_len l.bytes ≤ l.limit;
      steady : now.faults ≡ before.faults;
    }

abbrev pub decreases-loop-count : goal.decreases-loop-count
decreases-loop-count g l = l.limit + 1 - vec_len l.bytes
