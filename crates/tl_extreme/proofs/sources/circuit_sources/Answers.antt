use Rattle.std.proofs.Common.{◌≡◌, ◌+◌, List, sym, subst, arith, rules}
use Rattle.std.specs.Ordering.{int_cmp}
use Rattle.std.specs.List.Sorted.{IsSortedByKey}
use Rattle.std.proofs.lemmas.Fn.{always_returns_same}
use Rattle.tl_search.specs.declared.spreading.Source.{Source}
use Rattle.tl_extreme.proofs.CircuitSources.{circuit-sources}
use Rattle.tl_extreme.proofs.SourceOrder.{AreSourcesOf, sources-more, sources-moved, moved-small, sorted-rises}
use Rattle.tl_extreme.proofs.sources.circuit_sources.Goals as goal

pub loop-k-preserved : goal.loop-k-preserved
loop-k-preserved c =
    subst (λ (xs : List Source). AreSourcesOf c.args.graph.now c.args.circuit.now c.args.negated (c.loop-k.k + 1) xs) (sym c.in_ok-push.ensures.items)
    (sources-more c.args.graph.now c.args.circuit.now c.args.negated c.loop-k.k c.loop-k.sources.items c.source_at.result c.loop-k.invariant (c.source_at.ensures.source, c.source_at.ensures.small))

pub returns-clause-from_circuit : goal.returns-clause-from_circuit
returns-clause-from_circuit c =
    sources-moved c.args.graph.now c.args.circuit.now c.args.negated c.loop-k.k c.loop-k.sources.items c.sort_by_key.new.self.items (omega (arith, c.loop-k-test.false, c.loop-k.auto.k-end, c.len.ensures.len, c.len-k-end.ensures.len))
    c.loop-k.invariant c.sort_by_key.ensures.permutation

pub returns-clause-sources : goal.returns-clause-sources
returns-clause-sources c =
    let R = c.args.graph.now in
    let walk = c.args.circuit.now in
    let sources = c.sort_by_key.new.self.items in
    let from = sources-moved R walk c.args.negated c.loop-k.k c.loop-k.sources.items sources (omega (arith, c.loop-k-test.false, c.loop-k.auto.k-end, c.len.ensures.len, c.len-k-end.ensures.len)) c.loop-k.invariant c.sort_by_key.ensures.permutation in
    let sorted : IsSortedByKey (λ (s : Source). s.number) int_cmp sources = c.in_ok-sort_by_key.ensures.sorted (λ (s : Source). s.number)
    (always_returns_same _ (λ a r. r ≡ a.0.now.number) _ (λ a r q k. search rules)) in
    circuit-sources R c.requires.is_grid walk c.requires.circuit c.args.negated sources from (sorted-rises sources sorted)
    (moved-small R walk c.args.negated c.loop-k.k c.loop-k.sources.items sources c.loop-k.invariant c.sort_by_key.ensures.permutation)
