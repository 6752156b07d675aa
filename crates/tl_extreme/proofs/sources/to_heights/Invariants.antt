use Rattle.std.proofs.Common.{◌≡◌, ◌++◌, map, take, drop}
use Rattle.tl_extreme.specs.Sources.{height_by}
use Rattle.tl_extreme.proofs.sources.to_heights.Given as goal

abbrev pub invariant-loop-i : goal.invariant-loop-i
invariant-loop-i l = l.heights.items ≡ map (height_by l.negated) (take l.i l.initial.heights.items) ++ drop l.i l.initial.heights.items
