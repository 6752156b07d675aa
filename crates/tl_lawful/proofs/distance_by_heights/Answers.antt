use Rattle.tl_lawful.proofs.Distance.{distance}
use Rattle.tl_lawful.proofs.distance_by_heights.Goals as goal

pub returns : goal.returns
returns c = λ R A B a b accepted a_tiling a_heights b_tiling b_heights. distance R B b accepted b_tiling b_heights A a a_tiling a_heights
