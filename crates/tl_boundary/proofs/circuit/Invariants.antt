use Rattle.std.proofs.Common.{◌≡◌, ◌+◌, map}
use Rattle.tl_definitions.specs.Obstruction.{prefix}
use Rattle.tl_lists.specs.Lists.{upto}
use Rattle.tl_grid.specs.Sides.{side_by}
use Rattle.tl_boundary.proofs.circuit.Given as goal

abbrev pub invariant-loop-step : goal.invariant-loop-step
invariant-loop-step l =
    record {
      sum : l.sum ≡ prefix (map (side_by l.region.kind) l.steps) l.step-index;
      prefixes : l.prefixes.items ≡ map (prefix (map (side_by l.region.kind) l.steps)) (upto (l.step-index + 1));
    }
