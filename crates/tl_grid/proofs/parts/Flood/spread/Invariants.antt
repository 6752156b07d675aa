use Rattle.std.proofs.Common.{take}
use Rattle.tl_grid.specs.Flood.{Reaches}
use Rattle.tl_grid.proofs.parts.Flood.spread.Given as goal

abbrev pub invariant-loop-near : goal.invariant-loop-near
invariant-loop-near l = Reaches l.grid (take l.near-index l.near-items) l.initial.self l.self
