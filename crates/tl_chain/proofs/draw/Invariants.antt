use Rattle.tl_chain.proofs.Search.{Searched}
use Rattle.tl_chain.proofs.draw.Given as goal

abbrev pub invariant-loop-exponent : goal.invariant-loop-exponent
invariant-loop-exponent g l = Searched (g.C.Chain.meaning l.fn.chain) (g.C.Chain.meaning l.chain) l.low l.high l.exponent
