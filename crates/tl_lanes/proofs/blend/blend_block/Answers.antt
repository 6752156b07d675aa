use Rattle.tl_lanes.proofs.Lanes.{stored-by_bits}
use Rattle.tl_lanes.proofs.blend.blend_block.Goals as goal

pub returns : goal.returns
returns c =
    stored-by_bits c.args.bits c.args.out.now c.args.low.now c.args.high.now c.load-2.result c.load.result c.requires.out_block c.requires.low_block c.requires.high_block
    c.load-2.ensures.same c.load.ensures.same c.load-2.ensures.fits c.load.ensures.fits
