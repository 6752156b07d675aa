use Rattle.tl_extreme.specs.PlaceKinds.{AreKinds, corner_parity}
use Rattle.tl_extreme.proofs.corner_graph.parities.Given as goal

abbrev pub invariant-loop-r : goal.invariant-loop-r
invariant-loop-r l = AreKinds l.r l.width corner_parity l.kinds.items
