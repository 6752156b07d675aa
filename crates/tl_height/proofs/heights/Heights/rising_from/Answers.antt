use Rattle.std.proofs.Common.{◌≡◌, true, sym, ◌∙◌, ap, subst, arith}
use Rattle.std.proofs.lemmas.Int.{ints}
use Rattle.tl_definitions.specs.declared.Kind.{Kind}
use Rattle.tl_definitions.specs.Lattice.{steps_out}
use Rattle.tl_definitions.specs.Region.{Region, is_corner_of, is_inner}
use Rattle.tl_lattice.specs.Places.{padded}
use Rattle.tl_height.specs.HeightFunction.{HeightFunction}
use Rattle.tl_height.proofs.InnerSteps.{IsInside, inner-inside, outs-of_region}
use Rattle.tl_height.proofs.Rising.{found-from}
use Rattle.tl_definitions.specs.Heights.{AreLawful}
use Rattle.tl_height.proofs.heights.Heights.rising_from.Goals as goal
use Rattle.tl_height.proofs.heights.Heights.rising_from.Goals.{After-kind, After-steps_out-steps}

shape : (c : After-kind) → c.self.inside.region.now ≡ c.args.self.now.region
shape c = ap (λ (f : HeightFunction). f.region) c.self.view_is

inside : (c : After-kind) → IsInside c.self.inside.region.now c.args.corner
inside c =
    inner-inside c.self.inside.region.now c.args.corner c.self.invariant.is_grid
    (subst (λ (R : Region). is_inner R c.args.corner ≡ true) (sym (shape c)) c.requires)

pub steps_out-steps-requires-clause-row : goal.steps_out-steps-requires-clause-row
steps_out-steps-requires-clause-row c = (inside (goal.at.steps_out-steps-requires-clause-row c).After-kind).row

pub steps_out-steps-requires-clause-column : goal.steps_out-steps-requires-clause-column
steps_out-steps-requires-clause-column c = (inside (goal.at.steps_out-steps-requires-clause-column c).After-kind).column

-- the table is that of the definition
table : (c : After-steps_out-steps) → c.steps_out-steps.result.corners ≡ padded 3 (steps_out c.args.self.now.region.kind c.args.corner)
table c = c.steps_out-steps.ensures.corners ∙ ap (λ (k : Kind). padded 3 (steps_out k c.args.corner)) (c.kind.ensures ∙ ap (λ (R : Region). R.kind) (ap (λ (f : HeightFunction). f.region) c.self.view_is))

pub at-requires : goal.at-requires
at-requires c =
    let k = (goal.at.at-requires c).After-kind in
    subst (λ (R : Region). is_corner_of R c.args.corner ≡ true) (shape k) (inside k).of_region

pub first_at-requires : goal.first_at-requires
first_at-requires c =
    outs-of_region c.args.self.now.region c.args.corner c.steps_out-steps.result.corners c.requires (table (goal.at.first_at-requires c).After-steps_out-steps)

pub returns : goal.returns
returns c =
    let here = c.at.ensures.height in
    let low = c.at.ensures.low in
    let high = c.at.ensures.high in
    found-from c.args.self.now.region c.args.self.now.numbers c.args.corner (subst (λ (f : HeightFunction). AreLawful f.region f.numbers) c.self.view_is c.self.invariant.lawful) c.requires
    c.steps_out-steps.result.corners _ c.first_at.result (table (goal.at.returns c).After-steps_out-steps) (omega (arith, ints, here, low, high)) c.first_at.ensures
