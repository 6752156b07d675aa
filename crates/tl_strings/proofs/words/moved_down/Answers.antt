use Rattle.tl_strings.proofs.Bits.{bit-moved_down}
use Rattle.tl_strings.proofs.words.moved_down.Goals as goal

pub returns : goal.returns
returns c place within = bit-moved_down c.args.word c.args.next place c.ranges.word.fits within
