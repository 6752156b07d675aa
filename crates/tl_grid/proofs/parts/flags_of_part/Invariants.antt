use Rattle.std.proofs.Common.{◌≡◌}
use Rattle.std.specs.Prelude.{slice_get, Some}
use Rattle.tl_definitions.specs.declared.Cell.{Cell}
use Rattle.tl_grid.specs.Flood.{IsFlood, work}
use Rattle.tl_grid.proofs.parts.flags_of_part.Given as goal

abbrev pub invariant-loop-cell : goal.invariant-loop-cell
invariant-loop-cell l = (start : Cell) × (slice_get l.grid.cells 0 ≡ Some start) × IsFlood l.grid start l.flood

abbrev pub decreases-loop-cell : goal.decreases-loop-cell
decreases-loop-cell l = work l.flood
