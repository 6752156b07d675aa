use Rattle.std.proofs.Common.{take}
use Rattle.tl_grid.specs.Grid.{AreFlagsOf}
use Rattle.tl_grid.proofs.grid.flags_of.Given as goal

abbrev pub invariant-loop-cell : goal.invariant-loop-cell
invariant-loop-cell l = AreFlagsOf l.rows l.columns (take l.cell-index l.cells) l.flags.items
