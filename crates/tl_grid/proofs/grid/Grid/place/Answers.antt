use Rattle.std.proofs.Common.{◌+◌, ◌*◌, ◌<◌, subst, sym}
use Rattle.tl_definitions.specs.Region.{Region}
use Rattle.tl_grid.specs.Grid.{IsGrid}
use Rattle.tl_grid.proofs.GridLemmas.{place-within}
use Rattle.tl_grid.proofs.grid.Grid.place.Goals as goal

pub returns-clause-within : goal.returns-clause-within
returns-clause-within c =
    subst (λ (R : Region). c.args.cell.r * R.columns + c.args.cell.c < c.args.self.now.rows * c.args.self.now.columns) (sym c.self.view_is)
    (place-within c.args.self.now c.args.cell (subst IsGrid c.self.view_is c.self.invariant.0) c.requires)
