use Rattle.std.proofs.Common.{◌+◌, ◌-◌, length}
use Rattle.tl_search.proofs.Numbers.{unreached}
use Rattle.tl_search.proofs.Search.{IsSpreading}
use Rattle.tl_search.proofs.spreading.spread.Given as goal

abbrev pub invariant-loop-place : goal.invariant-loop-place
invariant-loop-place g l = IsSpreading (g.G.Graph.meaning l.graph) l.sources l.numbers.items l.queue.items l.next

abbrev pub decreases-loop-place : goal.decreases-loop-place
decreases-loop-place g l = unreached l.numbers.items + (length l.sources - l.next) + length l.queue.items
