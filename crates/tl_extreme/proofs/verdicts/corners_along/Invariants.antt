use Rattle.std.proofs.Common.{◌≡◌, map, take}
use Rattle.tl_extreme.specs.CornerGraph.{corner_of}
use Rattle.tl_extreme.proofs.verdicts.corners_along.Given as goal

abbrev pub invariant-loop-place : goal.invariant-loop-place
invariant-loop-place l = l.corners.items ≡ map (corner_of l.graph) (take l.place-index l.path)
