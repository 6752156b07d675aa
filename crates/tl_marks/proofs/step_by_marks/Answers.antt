use Rattle.tl_marks.proofs.Crossed.{mark-same}
use Rattle.tl_marks.proofs.Stepped.{mark-stepped}
use Rattle.tl_marks.proofs.step_by_marks.Goals as goal

pub returns : goal.returns
returns c = record {
  here = λ R numbers others v bit lawful inner stepped. mark-stepped R numbers others lawful v inner bit stepped.here;
  elsewhere = λ R numbers others v w bit stepped of_region other. mark-same R numbers others w (stepped.elsewhere w of_region other);
}
