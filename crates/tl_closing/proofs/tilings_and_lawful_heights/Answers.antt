use Rattle.tl_closing.proofs.Heights.{has-heights, heights-lawful, has-tiling}
use Rattle.tl_closing.proofs.tilings_and_lawful_heights.Goals as goal

pub returns : goal.returns
returns c = record { heights = has-heights; lawful = heights-lawful; tiling = has-tiling }
