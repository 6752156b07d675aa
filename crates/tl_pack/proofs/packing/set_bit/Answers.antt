use Rattle.tl_pack.proofs.Packed.{mark-bit}
use Rattle.tl_pack.proofs.packing.set_bit.Goals as goal

pub returns-clause-bits : goal.returns-clause-bits
returns-clause-bits c word x = mark-bit c.args.words.now c.args.place c.args.bit word x c.requires.place c.requires.bit
