use Rattle.std.proofs.Common.{ap, subst, ◌+◌, ◌∙◌, arith}
use Rattle.tl_definitions.specs.Region.{Region}
use Rattle.tl_grid.specs.Grid.{IsGrid}
use Rattle.tl_extreme.proofs.CornerPlaces.{place-small_by}
use Rattle.tl_extreme.proofs.corner_graph.CornerGraph.place.Goals as goal

pub overflow_mul-result : goal.overflow_mul-result
overflow_mul-result c =
    let is_grid : IsGrid c.args.self.now = subst IsGrid c.self.view_is c.self.invariant.0 in
    let wide = c.self.invariant.1 ∙ ap (λ (S : Region). S.columns + 2) c.self.view_is in
    omega (arith, place-small_by c.args.self.now is_grid c.args.corner c.self.inside.width wide c.requires)

pub overflow_add-result : goal.overflow_add-result
overflow_add-result c =
    let is_grid : IsGrid c.args.self.now = subst IsGrid c.self.view_is c.self.invariant.0 in
    let wide = c.self.invariant.1 ∙ ap (λ (S : Region). S.columns + 2) c.self.view_is in
    omega (arith, place-small_by c.args.self.now is_grid c.args.corner c.self.inside.width wide c.requires)
