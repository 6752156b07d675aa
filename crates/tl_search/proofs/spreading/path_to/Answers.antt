use Rattle.std.proofs.Common.{sym, subst, List, ℕ}
use Rattle.tl_search.proofs.Tracing.{IsTracing, tracing-goes_on}
use Rattle.tl_search.proofs.spreading.path_to.Goals as goal

pub loop-from-preserved : goal.loop-from-preserved
loop-from-preserved g c =
    subst (λ (path : List ℕ). IsTracing (g.G.Graph.meaning c.args.graph.now) c.args.numbers.now c.args.place c.args.end c.in-Some.from path) (sym c.in_ok-push-3.ensures.items)
    (tracing-goes_on (g.G.Graph.meaning c.args.graph.now) c.args.numbers.now c.args.place c.args.end c.requires.is_graph c.loop-from.first c.loop-from.path.items c.loop-from.invariant c.in-Some.from c.in-Some.ensures)
