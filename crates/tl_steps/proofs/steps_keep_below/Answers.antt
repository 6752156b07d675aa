use Rattle.tl_steps.proofs.Below.{swept-below}
use Rattle.tl_steps.proofs.steps_keep_below.Goals as goal

pub returns : goal.returns
returns c = λ R a b a' b' bits some below swept_a swept_b. swept-below R a b a' b' bits some below swept_a swept_b
