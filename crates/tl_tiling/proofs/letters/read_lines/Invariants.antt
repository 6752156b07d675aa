use Rattle.std.proofs.Common.{◌≤◌, ◌+◌, length}
use Rattle.tl_lines.specs.Lines.{section_at}
use Rattle.tl_tiling.proofs.ReadLemmas.{AreReadUpTo}
use Rattle.tl_tiling.proofs.letters.read_lines.Given as goal

abbrev pub invariant-loop-line : goal.invariant-loop-line
invariant-loop-line l =
    record {
      read : AreReadUpTo l.region (section_at l.fn.text) (section_at l.rest) l.r l.letters;
      within : l.r + length l.rest ≤ length l.fn.text;
    }

abbrev pub decreases-loop-line : goal.decreases-loop-line
decreases-loop-line l = length l.rest
