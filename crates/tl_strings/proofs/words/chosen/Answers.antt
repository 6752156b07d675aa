use Rattle.tl_strings.proofs.Bits.{bit-chosen}
use Rattle.tl_strings.proofs.words.chosen.Goals as goal

pub returns : goal.returns
returns c place within = bit-chosen c.args.mask c.args.one c.args.other place c.ranges.mask.fits within
