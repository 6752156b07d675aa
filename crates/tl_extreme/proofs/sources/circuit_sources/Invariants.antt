use Rattle.tl_extreme.proofs.SourceOrder.{AreSourcesOf}
use Rattle.tl_extreme.proofs.sources.circuit_sources.Given as goal

abbrev pub invariant-loop-k : goal.invariant-loop-k
invariant-loop-k l = AreSourcesOf l.graph l.circuit l.negated l.k l.sources.items
