use Rattle.std.proofs.Common.{◌≤◌, ◌+◌, length}
use Rattle.tl_lines.specs.Lines.{section_at}
use Rattle.tl_region.proofs.RowLemmas.{AreReadSoFar}
use Rattle.tl_region.proofs.rows.read_rows.Given as goal

abbrev pub invariant-loop-line : goal.invariant-loop-line
invariant-loop-line l =
    record {
      so_far : AreReadSoFar (section_at l.fn.text) (section_at l.rest) l.rows.count l.rows.columns l.rows.cells.items;
      within : l.rows.count + length l.rest ≤ length l.fn.text;
    }

abbrev pub decreases-loop-line : goal.decreases-loop-line
decreases-loop-line l = length l.rest
