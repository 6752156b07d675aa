use Rattle.std.proofs.Common.{subst, sym}
use Rattle.tl_grid.specs.Flood.{AreFlagsOfPart}
use Rattle.tl_grid.proofs.FloodLemmas.{parted-first}
use Rattle.tl_grid.proofs.parts.first_parted.Goals as goal

pub returns : goal.returns
returns c =
    parted-first c.args.grid.now c.first_without.ensures.is_grid c.as_slice.result.now
    (subst (AreFlagsOfPart c.args.grid.now) (sym c.as_slice.ensures.value) c.in_ok-flags.ensures) c.first_without.result c.first_without.ensures.first
