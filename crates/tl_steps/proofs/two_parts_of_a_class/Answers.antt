use Rattle.tl_steps.proofs.InPlace.{both-swept}
use Rattle.tl_steps.proofs.two_parts_of_a_class.Goals as goal

pub returns : goal.returns
returns c = both-swept
