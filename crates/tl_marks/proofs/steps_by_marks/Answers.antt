use Rattle.tl_marks.proofs.Crossed.{crossed-falls, crossed-value}
use Rattle.tl_marks.proofs.steps_by_marks.Goals as goal

pub returns : goal.returns
returns c = record {
  value = λ R numbers u v lawful step. crossed-value R numbers lawful u v step;
  falls = λ R numbers u v lawful step. crossed-falls R numbers lawful u v step;
}
