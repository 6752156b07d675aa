use Rattle.std.proofs.Common.{◌<◌, ◌^◌, rules}
use Rattle.tl_layout.proofs.Words.{cut-bit}
use Rattle.tl_layout.proofs.cutting.cut.Goals as goal

pub returns : goal.returns
returns c x h =
    let fits : c.from.result < 2 ^ 32 = search rules in
    cut-bit c.args.raw.now c.args.from c.args.shift x c.from.result c.from-2.result c.from-high.result c.requires.shift h fits (search rules) (search rules) (search rules)
