use Rattle.std.proofs.Common.{◌+◌, take}
use Rattle.tl_definitions.specs.Accepted.{circuit_corners}
use Rattle.tl_extreme.specs.PlaceKinds.{AreKinds}
use Rattle.tl_extreme.proofs.KeptKinds.{marked}
use Rattle.tl_extreme.proofs.corner_graph.place_kinds.Given as goal

abbrev pub invariant-loop-k : goal.invariant-loop-k
invariant-loop-k l = AreKinds (l.region.rows + 1) (l.region.columns + 2) (marked (take l.k (circuit_corners l.circuit))) l.kinds.items
