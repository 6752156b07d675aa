use Rattle.std.proofs.Common.{arith}
use Rattle.tl_strings.proofs.Lanes.{lane-fits, lane-stepped}
use Rattle.tl_strings.proofs.pairs.stepped.Goals as goal

pub returns : goal.returns
returns c lane place below within =
    lane-stepped c.args.here c.args.all_to c.args.all_from c.args.coin c.args.free lane place (omega arith) (omega arith) (omega arith) (omega arith) (omega arith) below
    (lane-fits c.args.coin lane c.fits-coin below) within
