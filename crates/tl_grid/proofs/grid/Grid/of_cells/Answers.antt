use Rattle.std.proofs.Common.{◌+◌, ◌<◌, arith, subst, sym}
use Rattle.std.specs.Prelude.{All}
use Rattle.tl_definitions.specs.Region.{Region}
use Rattle.tl_grid.proofs.GridLemmas.{cells_within}
use Rattle.tl_grid.proofs.grid.Grid.of_cells.Goals as goal

pub flags_of-requires-clause-within : goal.flags_of-requires-clause-within
flags_of-requires-clause-within c =
    let R : Region = record { kind = c.args.kind; rows = c.args.rows; columns = c.args.columns; cells = c.args.cells.items } in
    subst (All (λ a. (a.r < c.args.rows + 1) × (a.c < c.args.columns + 2))) (sym c.as_slice.ensures.value)
    (λ k d h. let p = cells_within R c.requires.placed k d h in (omega (arith, p.0), omega (arith, p.1)))
