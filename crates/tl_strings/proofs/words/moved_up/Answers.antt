use Rattle.tl_strings.proofs.Bits.{bit-moved_up}
use Rattle.tl_strings.proofs.words.moved_up.Goals as goal

pub returns : goal.returns
returns c place within = bit-moved_up c.args.word c.args.previous place c.ranges.previous.fits within
