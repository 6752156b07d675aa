use Rattle.tl_definitions.specs.Lattice.{steps_out}
use Rattle.tl_definitions.proofs.Walks.{corner-In}
use Rattle.tl_lists.specs.Lists.{present}
use Rattle.tl_marks.proofs.Bases.{base-step}
use Rattle.tl_marks.proofs.base_along_steps.Goals as goal

pub returns : goal.returns
returns c = λ k u v e. base-step k u v (corner-In v (present (steps_out k u)) e)
