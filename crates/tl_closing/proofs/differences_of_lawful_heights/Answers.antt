use Rattle.tl_closing.proofs.AlongSteps.{one_or_fall, same-residue}
use Rattle.tl_closing.proofs.differences_of_lawful_heights.Goals as goal

pub returns : goal.returns
returns c = record {
  two_values = λ R numbers u v lawful step. one_or_fall R numbers lawful u v step;
  same_residue = λ R numbers others v accepted lawful other_lawful of_region. same-residue R numbers others accepted lawful other_lawful v of_region;
}
