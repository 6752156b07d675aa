use Rattle.std.proofs.Common.{arith}
use Rattle.tl_grid.proofs.GridLemmas.{few_cells}
use Rattle.tl_grid.proofs.grid.Grid.cell_count.Goals as goal

pub overflow_cast-result : goal.overflow_cast-result
overflow_cast-result c =
    let few = few_cells (record { kind = c.self.inside.kind; rows = c.self.inside.rows; columns = c.self.inside.columns; cells = c.self.inside.cells.items }) c.self.invariant.0 in
    omega (arith, few, c.len.ensures)
