use Rattle.std.proofs.Common.{◌≡◌, Option, Some, None, ◌∙◌, ap, sym, subst, List, map, ℕ, below_more}
use Rattle.std.specs.Prelude.{position}
use Rattle.tl_definitions.specs.Lattice.{corner_eq, Side}
use Rattle.tl_definitions.specs.Accepted.{circuit_corners}
use Rattle.tl_grid.specs.Sides.{side_by}
use Rattle.tl_grid.specs.declared.walk.BoundaryStep.{BoundaryStep}
use Rattle.tl_boundary.proofs.SideLemmas.{position-found, position-none}
use Rattle.tl_boundary.proofs.circuit_type.Circuit.place_of.Goals as goal

pub loop-k-preserved : goal.loop-k-preserved
loop-k-preserved c = below_more _ _ c.loop-k.invariant (sym (c.if-eq.ensures ∙ ap (corner_eq c.args.corner) c.start.ensures))

pub returns-then-eq : goal.returns-then-eq
returns-then-eq c =
    let sides = ap (λ (l : List BoundaryStep). map (side_by c.self.inside.kind) l) c.deref-step-items.ensures.value ∙ c.self.view_is in
    subst (λ (l : List Side). Some c.loop-k.k ≡ position (corner_eq c.args.corner) (circuit_corners l)) sides
    (sym (position-found c.self.inside.kind c.deref-step-items.result.now c.args.corner c.loop-k.k _ c.loop-k.invariant c.loop-k-test.true
    (sym (c.if-eq.ensures ∙ ap (corner_eq c.args.corner) c.start.ensures))))

pub returns : goal.returns
returns c =
    let sides = ap (λ (l : List BoundaryStep). map (side_by c.self.inside.kind) l) c.deref-step-items.ensures.value ∙ c.self.view_is in
    let none : Option ℕ = None in
    subst (λ (l : List Side). none ≡ position (corner_eq c.args.corner) (circuit_corners l)) sides
    (sym (position-none c.self.inside.kind c.deref-step-items.result.now c.args.corner c.loop-k.k _ c.loop-k.invariant c.loop-k-test.false c.loop-k.auto.k-end))
