use Rattle.tl_strings.proofs.Bits.{bit-stepped}
use Rattle.tl_strings.proofs.words.stepped.Goals as goal

pub returns : goal.returns
returns c place within = bit-stepped c.args.here c.args.all_to c.args.all_from c.args.coin c.args.free place c.ranges.coin.fits within
