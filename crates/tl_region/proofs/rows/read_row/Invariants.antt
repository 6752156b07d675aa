use Rattle.std.proofs.Common.{◌≡◌, ◌++◌, drop}
use Rattle.tl_formats.specs.Marks.{marks, is_hash, is_bad}
use Rattle.tl_region.proofs.rows.read_row.Given as goal

abbrev pub invariant-loop-c : goal.invariant-loop-c
invariant-loop-c l =
    record {
      cells : l.cells.items ++ marks is_hash l.r l.c (drop l.c l.line) ≡ l.fn.cells.items ++ marks is_hash l.r 0 l.line;
      clean : marks is_bad l.r l.c (drop l.c l.line) ≡ marks is_bad l.r 0 l.line;
    }
