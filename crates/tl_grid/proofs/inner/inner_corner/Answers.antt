use Rattle.tl_grid.proofs.InnerLemmas.{inner-at_place}
use Rattle.tl_grid.proofs.inner.inner_corner.Goals as goal

pub returns : goal.returns
returns c =
    rw (c.requires.places, c.columns-width.ensures.columns) (inner-at_place c.args.grid.now c.columns-width.ensures.is_grid c.args.i c.requires.number)
