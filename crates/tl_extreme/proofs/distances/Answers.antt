use Rattle.std.proofs.Common.{◌≡◌, pos, [], ◌∷◌, refl, ap, subst, sym, ◌∙◌}
use Rattle.tl_definitions.specs.Region.{Region}
use Rattle.tl_search.specs.declared.spreading.Source.{Source}
use Rattle.tl_search.specs.Graphs.{IsGraph}
use Rattle.tl_search.specs.Spreading.{AreSources, IsSpread}
use Rattle.tl_extreme.specs.CornerGraph.{place, graph_of}
use Rattle.tl_extreme.proofs.CornerPlaces.{corner-graph}
use Rattle.tl_extreme.proofs.DistanceLemmas.{one-source, are-distances}
use Rattle.tl_extreme.proofs.distances.Goals as goal

pub spread-requires-clause-is_graph : goal.spread-requires-clause-is_graph
spread-requires-clause-is_graph c = subst (λ (R : Region). IsGraph (graph_of R)) (sym c.in_ok-graph.ensures.graph) (corner-graph c.args.region.now c.in_ok-graph.ensures.is_grid)

pub spread-requires-clause-sources : goal.spread-requires-clause-sources
spread-requires-clause-sources c =
    let R = c.args.region.now in
    let s : Source = record { place = c.place.result; number = pos 0 } in
    let is_place : c.place.result ≡ place R c.args.from = c.place.ensures ∙ ap (λ (S : Region). place S c.args.from) c.in_ok-graph.ensures.graph in
    subst (λ (S : Region). AreSources (graph_of S) (s ∷ [])) (sym c.in_ok-graph.ensures.graph)
    (one-source R c.in_ok-graph.ensures.is_grid c.in_ok-graph.ensures.accepted c.args.from c.requires s is_place refl)

pub invariant_of-result : goal.invariant_of-result
invariant_of-result c =
    let R = c.args.region.now in
    let s : Source = record { place = c.place.result; number = pos 0 } in
    let is_place : c.place.result ≡ place R c.args.from = c.place.ensures ∙ ap (λ (S : Region). place S c.args.from) c.in_ok-graph.ensures.graph in
    let spread : IsSpread (graph_of R) (s ∷ []) c.in_ok-numbers.field-0 = subst (λ (S : Region). IsSpread (graph_of S) (s ∷ []) c.in_ok-numbers.field-0) c.in_ok-graph.ensures.graph c.in_ok-numbers.ensures in
    are-distances R c.in_ok-graph.ensures.is_grid c.in_ok-graph.ensures.accepted c.args.from c.requires s is_place refl c.in-Filled.numbers.items
    (subst (IsSpread (graph_of R) (s ∷ [])) c.in-Filled.is spread)
