use Rattle.std.proofs.Common.{◌≡◌, drop}
use Rattle.tl_lines.proofs.EmptyLines.{from_line}
use Rattle.tl_lines.proofs.skip_empty_lines.Given as goal

abbrev pub invariant-loop-i : goal.invariant-loop-i
invariant-loop-i l = from_line (drop l.i l.bytes) ≡ from_line l.bytes
