use Rattle.std.proofs.Common.{rules, ◌≡◌, List, [], ◌∷◌, Option, map, ap, subst, ◌∙◌}
use Rattle.tl_lists.specs.Lists.{present}
use Rattle.tl_definitions.specs.declared.Kind.{Kind}
use Rattle.tl_definitions.specs.Lattice.{is_corner, steps_out}
use Rattle.tl_definitions.specs.Region.{Region}
use Rattle.tl_grid.specs.Grid.{IsGrid}
use Rattle.tl_lattice.specs.Places.{padded}
use Rattle.tl_extreme.proofs.CornerPlaces.{corner-lattice, corner-small}
use Rattle.tl_extreme.proofs.StepPlaces.{out-places}
use Rattle.tl_extreme.proofs.corner_graph.CornerGraph.steps_from_edge.Goals as goal

pub steps_out-requires-clause-row : goal.steps_out-requires-clause-row
steps_out-requires-clause-row c = (corner-small c.args.self.now (subst IsGrid c.self.view_is c.self.invariant.0) c.args.from c.requires).0

pub steps_out-requires-clause-column : goal.steps_out-requires-clause-column
steps_out-requires-clause-column c = (corner-small c.args.self.now (subst IsGrid c.self.view_is c.self.invariant.0) c.args.from c.requires).1

pub steps_out-requires-clause-is_corner : goal.steps_out-requires-clause-is_corner
steps_out-requires-clause-is_corner c =
    let kind : c.kind.result ≡ c.args.self.now.kind = c.kind.ensures ∙ ap (λ (S : Region). S.kind) c.self.view_is in
    ap (λ (k : Kind). is_corner k c.args.from) kind ∙ corner-lattice c.args.self.now (subst IsGrid c.self.view_is c.self.invariant.0) c.args.from c.requires

pub returns : goal.returns
returns c =
    let kind : c.kind.result ≡ c.args.self.now.kind = c.kind.ensures ∙ ap (λ (S : Region). S.kind) c.self.view_is in
    let table = c.steps_out.ensures.corners ∙ ap (λ (k : Kind). padded 3 (steps_out k c.args.from)) kind in
    (λ i. present (c.place_after.ensures i ∷ c.place_after-2.ensures i ∷ c.place_after-3.ensures i ∷ []))
    ∙ out-places c.args.self.now c.args.from c.steps_out.result.corners (search rules) table
