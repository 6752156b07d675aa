use Rattle.tl_lawful.proofs.UnderTarget.{over-lowered, under-raised}
use Rattle.tl_lawful.proofs.corner_under_a_target.Goals as goal

pub returns : goal.returns
returns c = record {
  raise = λ R numbers target w accepted lawful target_lawful. under-raised R numbers target accepted lawful target_lawful w;
  lower = λ R numbers target w accepted lawful target_lawful. over-lowered R numbers target accepted lawful target_lawful w;
}
