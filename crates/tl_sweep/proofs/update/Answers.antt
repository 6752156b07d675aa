use Rattle.std.proofs.Common.{◌≡◌, ◌+◌, ◌*◌, List, [], ◌∷◌, ℤ, true, Some, length, sym, ◌∙◌, ap, subst, arith, rules, w32}
use mir.Val.{SFits, to_z, of_z}
use Rattle.std.specs.Prelude.{slice_get}
use Rattle.std.proofs.lemmas.Int.{to_z-of_z}
use Rattle.tl_definitions.specs.declared.Corner.{Corner}
use Rattle.tl_definitions.specs.Region.{Region, inner_corners, is_inner}
use Rattle.tl_definitions.specs.Heights.{height_count}
use Rattle.tl_definitions.proofs.InnerNumbers.{inner-at}
use Rattle.tl_closing.proofs.Stated.{inner-of_region}
use Rattle.tl_lists.specs.Lists.{put_at}
use Rattle.tl_lists.proofs.Tests.{some_same}
use Rattle.tl_steps.specs.Stepping.{AreStepped}
use Rattle.tl_steps.proofs.Stated.{step-heights, stepped-lawful}
use Rattle.tl_sweep.proofs.BlockCorners.{below-by, inner-around}
use Rattle.tl_sweep.proofs.PutSteps.{put-stepped}
use Rattle.tl_sweep.proofs.update.Goals as goal
use Rattle.tl_sweep.proofs.update.Goals.{After-inner-corner, After-columns}

number : (c : After-inner-corner) → slice_get (inner_corners c.args.heights.now.region) c.args.i ≡ Some c.inner-corner.result
number c = subst (λ (R : Region). slice_get (inner_corners R) c.args.i ≡ Some c.inner-corner.result) c.region-region.ensures.region c.inner-corner.ensures

pub stepped-height-requires : goal.stepped-height-requires
stepped-height-requires c = inner-at c.args.heights.now.region c.inner-corner.result c.args.i (number (goal.at.stepped-height-requires c).After-inner-corner)

pub put-requires-clause-within : goal.put-requires-clause-within
put-requires-clause-within c =
    let R = c.args.heights.now.region in
    let v = c.inner-corner.result in
    let inner : is_inner R v ≡ true = inner-at R v c.args.i (number (goal.at.put-requires-clause-within c).After-inner-corner) in
    let below =
    below-by v c.columns.result R.columns (height_count R) (length c.args.heights.now.numbers) (c.columns.ensures.columns ∙ ap (λ (R : Region). R.columns) c.region-region.ensures.region)
    c.region-region.ensures.lawful.heights.count (inner-around R v c.region-region.ensures.accepted.placed inner) in
    omega (arith, below)

stepped : (c : After-columns) → AreStepped c.args.heights.now.region c.args.heights.now.numbers
    (put_at (c.inner-corner.result.r * (c.columns.result + 2) + c.inner-corner.result.x) (to_z w32 (of_z w32 c.stepped-height.result) ∷ []) c.args.heights.now.numbers) c.inner-corner.result c.args.bit
stepped c =
    let R = c.args.heights.now.region in
    let v = c.inner-corner.result in
    let e : c.columns.result ≡ R.columns = c.columns.ensures.columns ∙ ap (λ (R : Region). R.columns) c.region-region.ensures.region in
    let fits : SFits w32 c.stepped-height.result = search rules in
    let z : to_z w32 (of_z w32 c.stepped-height.result) ≡ _ = to_z-of_z w32 c.stepped-height.result fits ∙ c.stepped-height.ensures in
    let inner : is_inner R v ≡ true =
    inner-at R v c.args.i (subst (λ (R : Region). slice_get (inner_corners R) c.args.i ≡ Some v) c.region-region.ensures.region c.inner-corner.ensures) in
    subst (λ (l : List ℤ). AreStepped R c.args.heights.now.numbers l v c.args.bit) (λ i. put_at (v.r * (sym e i + 2) + v.x) (sym z i ∷ []) c.args.heights.now.numbers)
    (put-stepped R c.args.heights.now.numbers v c.args.bit c.region-region.ensures.accepted.placed c.region-region.ensures.lawful.heights (inner-of_region R v inner))

pub put-requires-clause-lawful : goal.put-requires-clause-lawful
put-requires-clause-lawful c =
    let R = c.args.heights.now.region in
    let v = c.inner-corner.result in
    stepped-lawful R c.args.heights.now.numbers _ c.region-region.ensures.accepted c.region-region.ensures.lawful v c.args.bit
    (inner-at R v c.args.i (number (goal.at.put-requires-clause-lawful c).After-inner-corner)) (stepped (goal.at.put-requires-clause-lawful c).After-columns)

pub returns-clause-stepped : goal.returns-clause-stepped
returns-clause-stepped c v e =
    let R = c.args.heights.now.region in
    let same : c.inner-corner.result ≡ v = some_same c.inner-corner.result v (sym (number (goal.at.returns-clause-stepped c).After-inner-corner) ∙ e) in
    subst (λ (u : Corner). AreStepped R c.args.heights.now.numbers c.put.new.self.numbers u c.args.bit) same
    (subst (λ (l : List ℤ). AreStepped R c.args.heights.now.numbers l c.inner-corner.result c.args.bit) (sym c.put.ensures.numbers) (stepped (goal.at.returns-clause-stepped c).After-columns))

pub returns-clause-tiling : goal.returns-clause-tiling
returns-clause-tiling c A v tiling heights e =
    let R = c.args.heights.now.region in
    let same : c.inner-corner.result ≡ v = some_same c.inner-corner.result v (sym (number (goal.at.returns-clause-tiling c).After-inner-corner) ∙ e) in
    let made : AreStepped R c.args.heights.now.numbers c.put.new.self.numbers v c.args.bit =
    subst (λ (u : Corner). AreStepped R c.args.heights.now.numbers c.put.new.self.numbers u c.args.bit) same
    (subst (λ (l : List ℤ). AreStepped R c.args.heights.now.numbers l c.inner-corner.result c.args.bit) (sym c.put.ensures.numbers) (stepped (goal.at.returns-clause-tiling c).After-columns)) in
    (step-heights R A c.args.heights.now.numbers c.put.new.self.numbers v c.region-region.ensures.accepted tiling heights (inner-at R v c.args.i e) c.args.bit made).1
