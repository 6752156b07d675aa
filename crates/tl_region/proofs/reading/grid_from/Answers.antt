use Rattle.std.proofs.Common.{arith, ap, length}
use Rattle.tl_grid.proofs.GridLemmas.{not_zero}
use Rattle.tl_region.proofs.reading.grid_from.Goals as goal

pub of_cells-requires : goal.of_cells-requires
of_cells-requires c = record {
  placed = c.requires c.if-rows-gt-SIDE_LIMIT.false c.if-rows-gt-SIDE_LIMIT-2.false;
  nonempty = λ e. omega (arith, ap length e, not_zero _ c.is_empty.result c.is_empty.ensures c.if-is_empty.false);
  rows_within = c.if-rows-gt-SIDE_LIMIT.false;
  columns_within = c.if-rows-gt-SIDE_LIMIT-2.false;
}
