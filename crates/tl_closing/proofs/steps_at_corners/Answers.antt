use Rattle.tl_definitions.specs.Lattice.{steps_in, steps_out}
use Rattle.tl_definitions.specs.Region.{is_step}
use Rattle.tl_lists.specs.Lists.{present}
use Rattle.tl_lists.proofs.Members.{list_all-In}
use Rattle.tl_definitions.proofs.Walks.{corner-In, In-corner}
use Rattle.tl_definitions.proofs.Steps.{classes-differ}
use Rattle.tl_closing.proofs.Edges.{step-in}
use Rattle.tl_closing.proofs.InnerSteps.{inner-step_out, inner-step_in}
use Rattle.tl_closing.proofs.steps_at_corners.Goals as goal

pub returns : goal.returns
returns c = record {
  from_inner = λ R v inner. list_all-In (is_step R v) (present (steps_out R.kind v)) (λ w i. inner-step_out R v w inner i);
  to_inner = λ R v inner. list_all-In (λ u. is_step R u v) (present (steps_in R.kind v)) (λ u i. inner-step_in R v u inner i);
  comes_from = λ R u v step. In-corner u (present (steps_in R.kind v)) (step-in R u v step);
  joins_two_classes = λ k u v step. classes-differ k u v (corner-In v (present (steps_out k u)) step);
}
