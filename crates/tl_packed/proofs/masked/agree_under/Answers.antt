use Rattle.std.proofs.lemmas.Bool.{eqb-true, eq-eqb}
use Rattle.tl_packed.proofs.Masks.{agree-nothing, nothing-left}
use Rattle.tl_packed.proofs.masked.agree_under.Goals as goal

pub returns : goal.returns
returns c =
    (λ t. nothing-left c.args.low c.args.one c.args.other (eqb-true _ _ t), λ agree. eq-eqb _ _ (agree-nothing c.args.low c.args.one c.args.other c.ranges.one.fits c.ranges.other.fits agree))
