use Rattle.tl_bands.proofs.Firsts.{cut_or_bad}
use Rattle.tl_bands.proofs.cut.Cut.of.Goals as goal

pub returns-in-Ok-clause-bad : goal.returns-in-Ok-clause-bad
returns-in-Ok-clause-bad c = λ i bad. absurd (cut_or_bad c.args.rows c.args.firsts.now c.in_default.ensures i bad)

pub returns-in-Err-clause-bad : goal.returns-in-Err-clause-bad
returns-in-Err-clause-bad c = λ i bad. absurd (cut_or_bad c.args.rows c.args.firsts.now c.in_default.ensures i bad)
