use Rattle.tl_obstruction.proofs.AlongPaths.{no-tiling}
use Rattle.tl_obstruction.proofs.an_obstructed_region_has_no_tiling.Goals as goal

pub returns : goal.returns
returns c = no-tiling
