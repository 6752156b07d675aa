use Rattle.tl_strings.proofs.Bits.{bit-across_even, bit-across_odd}
use Rattle.tl_strings.proofs.square_words.across_word.Goals as goal

pub returns-then-is_odd : goal.returns-then-is_odd
returns-then-is_odd c place within =
    bit-across_odd c.args.is_odd c.args.here c.args.west c.args.east place c.if-is_odd.true c.ranges.here.fits c.ranges.east.fits within

pub returns-else-is_odd : goal.returns-else-is_odd
returns-else-is_odd c place within =
    bit-across_even c.args.is_odd c.args.here c.args.west c.args.east place c.if-is_odd.false c.ranges.here.fits c.ranges.west.fits within
