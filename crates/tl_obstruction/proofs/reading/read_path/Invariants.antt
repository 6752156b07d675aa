use Rattle.std.proofs.Common.{◌+◌, ◌≤◌, length}
use Rattle.tl_lines.specs.Lines.{section_at}
use Rattle.tl_obstruction.proofs.Paths.{IsReadTo}
use Rattle.tl_obstruction.proofs.reading.read_path.Given as goal

abbrev pub invariant-loop-line : goal.invariant-loop-line
invariant-loop-line l =
    record {
      read : IsReadTo l.steps l.count (section_at l.fn.text) (section_at l.rest) l.path.items;
      within : l.count + length l.rest ≤ length l.fn.text;
    }

abbrev pub decreases-loop-line : goal.decreases-loop-line
decreases-loop-line l = length l.rest
