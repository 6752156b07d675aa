use Rattle.std.proofs.Common.{arith}
use Rattle.tl_lanes.proofs.Lanes.{stored-lesser}
use Rattle.tl_lanes.proofs.order.least_of_block.Goals as goal

pub returns : goal.returns
returns c = stored-lesser c.args.a.now c.args.b.now c.load-left.result c.load-right.result (omega arith) c.load-left.ensures.same c.load-right.ensures.same c.load-left.ensures.fits c.load-right.ensures.fits
