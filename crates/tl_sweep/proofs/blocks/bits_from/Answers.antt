use Rattle.std.proofs.Common.{◌<◌, ◌^◌, rules}
use Rattle.tl_sweep.proofs.Bits.{bit-across}
use Rattle.tl_sweep.proofs.blocks.bits_from.Goals as goal

pub returns : goal.returns
returns c j h =
    let low : c.from-low.result < 2 ^ 32 = search rules in
    bit-across c.args.words.now c.from-low.result c.from-high.result c.args.i j low h (search rules) (search rules)
