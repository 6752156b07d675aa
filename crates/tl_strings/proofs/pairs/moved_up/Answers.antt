use Rattle.std.proofs.Common.{arith}
use Rattle.tl_strings.proofs.Lanes.{lane-fits, lane-moved_up}
use Rattle.tl_strings.proofs.pairs.moved_up.Goals as goal

pub returns : goal.returns
returns c lane place below within = lane-moved_up c.args.words c.args.previous lane place (omega arith) (omega arith) below (lane-fits c.args.previous lane c.fits-previous below) within
