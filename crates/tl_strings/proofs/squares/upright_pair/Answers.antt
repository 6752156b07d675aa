use Rattle.std.proofs.Common.{arith}
use Rattle.tl_strings.proofs.Lanes.{lane-upright}
use Rattle.tl_strings.proofs.squares.upright_pair.Goals as goal

pub returns : goal.returns
returns c lane place below = lane-upright c.args.here c.args.north c.args.south lane place (omega arith) (omega arith) (omega arith) below
