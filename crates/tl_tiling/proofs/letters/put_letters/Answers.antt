use Rattle.std.proofs.Common.{◌<◌, arith}
use Rattle.tl_definitions.specs.Lattice.{cell}
use Rattle.tl_definitions.proofs.Regions.{has-within}
use Rattle.tl_tiling.proofs.letters.put_letters.Goals as goal

pub returns-clause-put : goal.returns-clause-put
returns-clause-put c = λ k h i.
    let R = c.args.region.now in
    let w : (c.args.r < R.rows) × (k < R.columns) = has-within R (cell c.args.r k) c.flags_of-flags.ensures.is_grid.placed i in
    c.loop-c.invariant.put k (omega (arith, h, w.1, c.loop-c-test.false, c.min-c-end.ensures, c.flags_of-flags.ensures.len)) i
