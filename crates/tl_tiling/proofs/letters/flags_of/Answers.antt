use Rattle.tl_tiling.proofs.LineLemmas.{flags-length, flags-at}
use Rattle.tl_tiling.proofs.letters.flags_of.Goals as goal

pub returns-clause-len : goal.returns-clause-len
returns-clause-len c = flags-length c.args.region.now c.args.r c.row.result.now c.row.ensures.row

pub returns-clause-flags : goal.returns-clause-flags
returns-clause-flags c = λ k h. flags-at c.args.region.now c.args.r k c.row.result.now c.row.ensures.row h
