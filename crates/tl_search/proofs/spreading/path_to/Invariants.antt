use Rattle.std.proofs.Common.{◌^◌, pos, ◌+ℤ◌}
use borrow.Author.Differences.{up}
use Rattle.tl_search.specs.Searching.{number_of}
use Rattle.tl_search.proofs.Tracing.{IsTracing}
use Rattle.tl_search.proofs.spreading.path_to.Given as goal

abbrev pub invariant-loop-from : goal.invariant-loop-from
invariant-loop-from g l = IsTracing (g.G.Graph.meaning l.graph) l.numbers l.place l.end l.first l.path.items

abbrev pub decreases-loop-from : goal.decreases-loop-from
decreases-loop-from g l = up (number_of l.numbers l.first +ℤ pos (2 ^ 30))
