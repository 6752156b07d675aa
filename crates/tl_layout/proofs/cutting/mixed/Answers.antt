use Rattle.tl_layout.proofs.Words.{mixed-bit}
use Rattle.tl_layout.proofs.cutting.mixed.Goals as goal

pub returns : goal.returns
returns c x h = mixed-bit c.args.word c.args.bits c.args.mask x c.ranges.mask.fits h
