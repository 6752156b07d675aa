use Rattle.std.proofs.Common.{rules, ◌≡◌, List, [], ◌∷◌, Option, map, ap, subst, ◌∙◌}
use Rattle.tl_lists.specs.Lists.{present}
use Rattle.tl_definitions.specs.declared.Kind.{Kind}
use Rattle.tl_definitions.specs.Lattice.{is_corner, steps_in}
use Rattle.tl_definitions.specs.Region.{Region}
use Rattle.tl_grid.specs.Grid.{IsGrid}
use Rattle.tl_lattice.specs.Places.{padded}
use Rattle.tl_extreme.proofs.CornerPlaces.{corner-lattice, corner-small}
use Rattle.tl_extreme.proofs.StepPlaces.{in-places}
use Rattle.tl_extreme.proofs.corner_graph.CornerGraph.steps_to_edge.Goals as goal

pub steps_in-requires-clause-row : goal.steps_in-requires-clause-row
steps_in-requires-clause-row c = (corner-small c.args.self.now (subst IsGrid c.self.view_is c.self.invariant.0) c.args.to c.requires).0

pub steps_in-requires-clause-column : goal.steps_in-requires-clause-column
steps_in-requires-clause-column c = (corner-small c.args.self.now (subst IsGrid c.self.view_is c.self.invariant.0) c.args.to c.requires).1

pub steps_in-requires-clause-is_corner : goal.steps_in-requires-clause-is_corner
steps_in-requires-clause-is_corner c =
    let kind : c.kind.result ≡ c.args.self.now.kind = c.kind.ensures ∙ ap (λ (S : Region). S.kind) c.self.view_is in
    ap (λ (k : Kind). is_corner k c.args.to) kind ∙ corner-lattice c.args.self.now (subst IsGrid c.self.view_is c.self.invariant.0) c.args.to c.requires

pub returns : goal.returns
returns c =
    let kind : c.kind.result ≡ c.args.self.now.kind = c.kind.ensures ∙ ap (λ (S : Region). S.kind) c.self.view_is in
    let table = c.steps_in.ensures.corners ∙ ap (λ (k : Kind). padded 3 (steps_in k c.args.to)) kind in
    (λ i. present (c.place_before.ensures i ∷ c.place_before-2.ensures i ∷ c.place_before-3.ensures i ∷ []))
    ∙ in-places c.args.self.now c.args.to c.steps_in.result.corners (search rules) table
