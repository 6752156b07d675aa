use Rattle.tl_marks.proofs.Standing.{high-crossed, low-crossed}
use Rattle.tl_marks.proofs.standing_by_marks.Goals as goal

pub returns : goal.returns
returns c = record {
  low = λ R numbers v lawful inner. low-crossed R numbers lawful v inner;
  high = λ R numbers v lawful inner. high-crossed R numbers lawful v inner;
}
