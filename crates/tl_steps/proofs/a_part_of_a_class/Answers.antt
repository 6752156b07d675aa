use Rattle.tl_steps.proofs.Chosen.{chosen-heights}
use Rattle.tl_steps.proofs.Lawful.{chosen-lawful}
use Rattle.tl_steps.proofs.a_part_of_a_class.Goals as goal

pub returns : goal.returns
returns c = record {
  tiling = λ R A numbers others bits k chosen accepted tiling heights of_class swept. chosen-heights R bits k accepted chosen A numbers others (tiling, heights) of_class swept;
  lawful = λ R numbers others bits k chosen accepted lawful of_class swept. chosen-lawful R numbers others accepted lawful bits k chosen of_class swept;
}
