use Rattle.std.proofs.Common.{◌≡◌, drop}
use Rattle.tl_formats.specs.Marks.{marks, is_bad}
use Rattle.tl_region.proofs.rows.bad_byte_of.Given as goal

abbrev pub invariant-loop-c : goal.invariant-loop-c
invariant-loop-c l = marks is_bad l.r l.c (drop l.c l.line) ≡ marks is_bad l.r 0 l.line
