use Rattle.std.proofs.Common.{◌≡◌, not, drop}
use Rattle.std.specs.Prelude.{find}
use Rattle.tl_grid.specs.Grid.{flag_at}
use Rattle.tl_grid.proofs.parts.first_without.Given as goal

abbrev pub invariant-loop-cell : goal.invariant-loop-cell
invariant-loop-cell l =
    find (λ a. not (flag_at l.grid.columns l.flags a)) (drop l.cell-index l.cell-items) ≡ find (λ a. not (flag_at l.grid.columns l.flags a)) l.cell-items
