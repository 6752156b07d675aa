-- A graph with its steps turned round is a graph.
use Rattle.tl_search.specs.Graphs.{GraphMeaning, IsGraph, reversed}

pub IsGraph-reversed : (M : GraphMeaning) → IsGraph M → IsGraph (reversed M)
IsGraph-reversed M g = record {
  few = g.few;
  inside = g.inside;
  to_places = λ u v is_place step. g.from_places v u is_place step;
  from_places = λ u v is_place step. g.to_places v u is_place step;
  goes_back = λ u v is_place step. g.comes_from v u is_place step;
  comes_from = λ u v is_place step. g.goes_back v u is_place step;
}
