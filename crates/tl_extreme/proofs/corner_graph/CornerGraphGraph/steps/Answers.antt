use Rattle.std.proofs.Common.{◌≡◌, subst, arith}
use Rattle.tl_definitions.specs.Region.{Region}
use Rattle.tl_extreme.specs.declared.corner_graph.PlaceKind.TheVariants.{Edge}
use Rattle.tl_extreme.specs.PlaceKinds.{AreKindsOf}
use Rattle.tl_extreme.proofs.KeptKinds.{kept-within}
use Rattle.tl_extreme.proofs.KeptSteps.{is-kept, kept-room, out-even_kept, out-odd_kept, out-triangle_kept}
use Rattle.tl_extreme.proofs.corner_graph.CornerGraphGraph.steps.Goals as goal
use Rattle.tl_extreme.proofs.corner_graph.CornerGraphGraph.steps.Goals.{in_default-Triangle-via-in-Even+in-Triangle, in_default-Triangle-via-in-Odd+in-Triangle}

pub index-requires : goal.index-requires
index-requires c =
    let are : AreKindsOf c.args.self.now c.self.inside.kinds.items = subst (λ (S : Region). AreKindsOf S c.self.inside.kinds.items) c.self.view_is c.self.invariant.2 in
    omega (arith, kept-within c.args.self.now c.self.inside.kinds.items are c.args.place c.requires, c.self.inside.kinds.ok.0)

pub overflow_sub-result : goal.overflow_sub-result
overflow_sub-result c =
    let kept = is-kept c.self.inside.region.now c.args.self.now c.self.inside.width c.args.place c.self.inside.kinds.items c.index.result.now c.kind.result
    c.self.view_is c.self.invariant.0 c.self.invariant.1 c.self.invariant.2 c.requires c.index.ensures c.kind.ensures in
    let differs : c.index.result.now ≡ Edge → ⊥ = λ e. absurd (cc (e, c.in-Even-Square.is-0)) in
    let room = kept-room c.args.self.now c.self.inside.width c.args.place c.index.result.now c.kind.result kept differs in
    omega (arith, room.below, room.above)

pub overflow_add-result : goal.overflow_add-result
overflow_add-result c =
    let kept = is-kept c.self.inside.region.now c.args.self.now c.self.inside.width c.args.place c.self.inside.kinds.items c.index.result.now c.kind.result
    c.self.view_is c.self.invariant.0 c.self.invariant.1 c.self.invariant.2 c.requires c.index.ensures c.kind.ensures in
    let differs : c.index.result.now ≡ Edge → ⊥ = λ e. absurd (cc (e, c.in-Even-Square.is-0)) in
    let room = kept-room c.args.self.now c.self.inside.width c.args.place c.index.result.now c.kind.result kept differs in
    omega (arith, room.below, room.above)

pub overflow_add-result-in-Odd-Square : goal.overflow_add-result-in-Odd-Square
overflow_add-result-in-Odd-Square c =
    let kept = is-kept c.self.inside.region.now c.args.self.now c.self.inside.width c.args.place c.self.inside.kinds.items c.index.result.now c.kind.result
    c.self.view_is c.self.invariant.0 c.self.invariant.1 c.self.invariant.2 c.requires c.index.ensures c.kind.ensures in
    let differs : c.index.result.now ≡ Edge → ⊥ = λ e. absurd (cc (e, c.in-Odd-Square.is-0)) in
    let room = kept-room c.args.self.now c.self.inside.width c.args.place c.index.result.now c.kind.result kept differs in
    omega (arith, room.below, room.above)

pub overflow_add-result-in_default-Triangle : goal.overflow_add-result-in_default-Triangle
overflow_add-result-in_default-Triangle c =
    let kept = is-kept c.self.inside.region.now c.args.self.now c.self.inside.width c.args.place c.self.inside.kinds.items c.index.result.now c.kind.result
    c.self.view_is c.self.invariant.0 c.self.invariant.1 c.self.invariant.2 c.requires c.index.ensures c.kind.ensures in
    let differs : c.index.result.now ≡ Edge → ⊥ =
    elim c.in_default-Triangle.branch [ in_default-Triangle-via-in-Even+in-Triangle w ↦ w.in_default-Triangle.not-Edge-0 | in_default-Triangle-via-in-Odd+in-Triangle w ↦ w.in_default-Triangle.not-Edge-0 ] in
    let room = kept-room c.args.self.now c.self.inside.width c.args.place c.index.result.now c.kind.result kept differs in
    omega (arith, room.below, room.above)

pub overflow_sub-result-in_default-Triangle : goal.overflow_sub-result-in_default-Triangle
overflow_sub-result-in_default-Triangle c =
    let kept = is-kept c.self.inside.region.now c.args.self.now c.self.inside.width c.args.place c.self.inside.kinds.items c.index.result.now c.kind.result
    c.self.view_is c.self.invariant.0 c.self.invariant.1 c.self.invariant.2 c.requires c.index.ensures c.kind.ensures in
    let differs : c.index.result.now ≡ Edge → ⊥ =
    elim c.in_default-Triangle.branch [ in_default-Triangle-via-in-Even+in-Triangle w ↦ w.in_default-Triangle.not-Edge-0 | in_default-Triangle-via-in-Odd+in-Triangle w ↦ w.in_default-Triangle.not-Edge-0 ] in
    let room = kept-room c.args.self.now c.self.inside.width c.args.place c.index.result.now c.kind.result kept differs in
    omega (arith, room.below, room.above)

pub overflow_sub-result-in_default-Triangle-2 : goal.overflow_sub-result-in_default-Triangle-2
overflow_sub-result-in_default-Triangle-2 c =
    let kept = is-kept c.self.inside.region.now c.args.self.now c.self.inside.width c.args.place c.self.inside.kinds.items c.index.result.now c.kind.result
    c.self.view_is c.self.invariant.0 c.self.invariant.1 c.self.invariant.2 c.requires c.index.ensures c.kind.ensures in
    let differs : c.index.result.now ≡ Edge → ⊥ =
    elim c.in_default-Triangle.branch [ in_default-Triangle-via-in-Even+in-Triangle w ↦ w.in_default-Triangle.not-Edge-0 | in_default-Triangle-via-in-Odd+in-Triangle w ↦ w.in_default-Triangle.not-Edge-0 ] in
    let room = kept-room c.args.self.now c.self.inside.width c.args.place c.index.result.now c.kind.result kept differs in
    omega (arith, room.below, room.above)

pub overflow_add-result-in_default-Triangle-2 : goal.overflow_add-result-in_default-Triangle-2
overflow_add-result-in_default-Triangle-2 c =
    let kept = is-kept c.self.inside.region.now c.args.self.now c.self.inside.width c.args.place c.self.inside.kinds.items c.index.result.now c.kind.result
    c.self.view_is c.self.invariant.0 c.self.invariant.1 c.self.invariant.2 c.requires c.index.ensures c.kind.ensures in
    let differs : c.index.result.now ≡ Edge → ⊥ =
    elim c.in_default-Triangle.branch [ in_default-Triangle-via-in-Even+in-Triangle w ↦ w.in_default-Triangle.not-Edge-0 | in_default-Triangle-via-in-Odd+in-Triangle w ↦ w.in_default-Triangle.not-Edge-0 ] in
    let room = kept-room c.args.self.now c.self.inside.width c.args.place c.index.result.now c.kind.result kept differs in
    omega (arith, room.below, room.above)

pub returns-in-Even-Square : goal.returns-in-Even-Square
returns-in-Even-Square c =
    let kept = is-kept c.self.inside.region.now c.args.self.now c.self.inside.width c.args.place c.self.inside.kinds.items c.index.result.now c.kind.result
    c.self.view_is c.self.invariant.0 c.self.invariant.1 c.self.invariant.2 c.requires c.index.ensures c.kind.ensures in
    out-even_kept c.args.self.now c.self.inside.width c.args.place c.index.result.now c.kind.result kept c.in-Even-Square.is-0 c.in-Even-Square.is-1

pub returns-in-Odd-Square : goal.returns-in-Odd-Square
returns-in-Odd-Square c =
    let kept = is-kept c.self.inside.region.now c.args.self.now c.self.inside.width c.args.place c.self.inside.kinds.items c.index.result.now c.kind.result
    c.self.view_is c.self.invariant.0 c.self.invariant.1 c.self.invariant.2 c.requires c.index.ensures c.kind.ensures in
    out-odd_kept c.args.self.now c.self.inside.width c.args.place c.index.result.now c.kind.result kept c.in-Odd-Square.is-0 c.in-Odd-Square.is-1

pub returns-in_default-Triangle : goal.returns-in_default-Triangle
returns-in_default-Triangle c =
    let kept = is-kept c.self.inside.region.now c.args.self.now c.self.inside.width c.args.place c.self.inside.kinds.items c.index.result.now c.kind.result
    c.self.view_is c.self.invariant.0 c.self.invariant.1 c.self.invariant.2 c.requires c.index.ensures c.kind.ensures in
    let differs : c.index.result.now ≡ Edge → ⊥ =
    elim c.in_default-Triangle.branch [ in_default-Triangle-via-in-Even+in-Triangle w ↦ w.in_default-Triangle.not-Edge-0 | in_default-Triangle-via-in-Odd+in-Triangle w ↦ w.in_default-Triangle.not-Edge-0 ] in
    out-triangle_kept c.args.self.now c.self.inside.width c.args.place c.index.result.now c.kind.result kept differs
    (elim c.in_default-Triangle.branch [ in_default-Triangle-via-in-Even+in-Triangle w ↦ w.in_default-Triangle.is-1 | in_default-Triangle-via-in-Odd+in-Triangle w ↦ w.in_default-Triangle.is-1 ])
