use Rattle.tl_search.proofs.FirstNumbers.{AreWritten}
use Rattle.tl_search.proofs.spreading.first_numbers.Given as goal

abbrev pub invariant-loop-source : goal.invariant-loop-source
invariant-loop-source g l = AreWritten (g.G.Graph.meaning l.graph) l.sources l.numbers.items l.source-index
