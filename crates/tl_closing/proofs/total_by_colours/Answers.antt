use Rattle.tl_closing.proofs.Colours.{total-colours, signs-total}
use Rattle.tl_closing.proofs.total_by_colours.Goals as goal

pub returns : goal.returns
returns c = record { colours = total-colours; along = signs-total }
