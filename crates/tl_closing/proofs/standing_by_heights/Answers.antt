use Rattle.tl_definitions.specs.Heights.{height}
use Rattle.tl_closing.proofs.Standing.{standing-heights}
use Rattle.tl_closing.proofs.Flipped.{not-high-and-low}
use Rattle.tl_closing.proofs.standing_by_heights.Goals as goal

pub returns : goal.returns
returns c = record {
  high = λ R A numbers v tiling h inner. (standing-heights R A (height R numbers) v tiling h.along inner).0;
  low = λ R A numbers v tiling h inner. (standing-heights R A (height R numbers) v tiling h.along inner).1;
  never_both = not-high-and-low;
}
