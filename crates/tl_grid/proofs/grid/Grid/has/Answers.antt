use Rattle.std.proofs.Common.{sym, ◌<◌, arith}
use Rattle.tl_grid.proofs.GridLemmas.{has-outside}
use Rattle.tl_grid.proofs.grid.Grid.has.Goals as goal
use Rattle.tl_grid.proofs.grid.Grid.has.Goals.{else-cell-self-via-then-cell-self+else-cell-self-2, else-cell-self-via-else-cell-self}

off : (c : goal.Joined-else-cell-self) → ¬ ((c.args.cell.r < c.self.inside.rows) × (c.args.cell.c < c.self.inside.columns))
off c p =
    elim c.else-cell-self.branch [
      | else-cell-self-via-then-cell-self+else-cell-self-2 w ↦ omega (arith, w.if-cell-self-2.false, p.1)
      | else-cell-self-via-else-cell-self w ↦ omega (arith, w.if-cell-self.false, p.0)
    ]

pub returns-else-cell-self : goal.returns-else-cell-self
returns-else-cell-self c = rw (← c.self.view_is) (sym (has-outside _ c.args.cell c.self.invariant.0 (off c)))
