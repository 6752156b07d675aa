use Rattle.std.proofs.Common.{not}
use Rattle.std.specs.Prelude.{◌==◌, count_by}
use Rattle.tl_grid.specs.declared.patterns.TheConstants.{NO_EXIT}
use Rattle.tl_grid.proofs.WalkLemmas.{IsWalkLeft}
use Rattle.tl_grid.proofs.walk.walk.Given as goal

abbrev pub invariant-loop-corner : goal.invariant-loop-corner
invariant-loop-corner l = IsWalkLeft l.grid l.fn.start l.corner l.steps.items l.left.items

abbrev pub decreases-loop-corner : goal.decreases-loop-corner
decreases-loop-corner l = count_by (λ n. not (n == NO_EXIT)) l.left.items
