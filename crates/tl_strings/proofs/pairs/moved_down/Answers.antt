use Rattle.std.proofs.Common.{arith}
use Rattle.tl_strings.proofs.Lanes.{lane-fits, lane-moved_down}
use Rattle.tl_strings.proofs.pairs.moved_down.Goals as goal

pub returns : goal.returns
returns c lane place below within = lane-moved_down c.args.words c.args.next lane place (omega arith) (omega arith) below (lane-fits c.args.words lane c.fits-words below) within
