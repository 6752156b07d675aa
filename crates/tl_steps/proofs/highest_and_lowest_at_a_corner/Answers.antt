use Rattle.tl_steps.proofs.Bounds.{highest-standing, lowest-standing, none-higher, none-lower}
use Rattle.tl_steps.proofs.highest_and_lowest_at_a_corner.Goals as goal

pub returns : goal.returns
returns c = record { highest = highest-standing; lowest = lowest-standing; none_higher = none-higher; none_lower = none-lower }
