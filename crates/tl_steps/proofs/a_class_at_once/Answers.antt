use Rattle.tl_steps.proofs.Class.{class-heights}
use Rattle.tl_steps.proofs.Lawful.{class-lawful}
use Rattle.tl_steps.proofs.a_class_at_once.Goals as goal

pub returns : goal.returns
returns c = record {
  tiling = λ R A numbers others bits k accepted tiling heights swept. class-heights R A numbers others bits k accepted (tiling, heights) swept;
  lawful = λ R numbers others bits k accepted lawful swept. class-lawful R numbers others accepted lawful bits k swept;
}
