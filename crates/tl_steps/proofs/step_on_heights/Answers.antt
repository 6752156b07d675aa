use Rattle.tl_steps.proofs.OneStep.{step-heights}
use Rattle.tl_steps.proofs.Lawful.{stepped-lawful}
use Rattle.tl_steps.proofs.step_on_heights.Goals as goal

pub returns : goal.returns
returns c = record {
  tiling = λ R A numbers others v bit accepted tiling heights inner stepped. step-heights R A numbers others v accepted tiling heights inner bit stepped;
  lawful = λ R numbers others v bit accepted lawful inner stepped. stepped-lawful R numbers others accepted lawful v bit inner stepped;
}
