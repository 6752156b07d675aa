use Rattle.tl_closing.proofs.Flipped.{raised-flip, lowered-flip}
use Rattle.tl_closing.proofs.flips_change_one_height.Goals as goal

pub returns : goal.returns
returns c = record { up = raised-flip; down = lowered-flip }
