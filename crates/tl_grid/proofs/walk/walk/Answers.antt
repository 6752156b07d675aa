use Rattle.std.proofs.Common.{◌≡◌, refl, ◌+◌, ◌*◌, ◌<◌, ◌++◌, ◌∷◌, [], ◌∙◌, ap, sym, subst, arith, get_or, length, ℕ, List}
use Rattle.std.specs.Prelude.{slice_set}
use Rattle.std.proofs.lemmas.List.{get_or_read}
use Rattle.tl_definitions.specs.declared.Kind.{Kind}
use Rattle.tl_definitions.specs.declared.Corner.{Corner}
use Rattle.tl_definitions.specs.Lattice.{Side}
use Rattle.tl_grid.specs.declared.walk.BoundaryStep.{BoundaryStep}
use Rattle.tl_grid.specs.declared.patterns.TheConstants.{NO_EXIT}
use Rattle.tl_grid.specs.Sides.{side_by}
use Rattle.tl_grid.proofs.WalkLemmas.{IsWalkLeft, left-start, left-here, left-more, left-closed, exit-place}
use Rattle.tl_grid.proofs.walk.walk.Goals as goal

pub loop-corner-init : goal.loop-corner-init
loop-corner-init c =
    subst (λ (l : List BoundaryStep). IsWalkLeft c.args.grid.now c.args.start c.args.start l c.args.exits.items) (sym c.new-steps.ensures.items)
    (left-start c.args.grid.now c.args.start c.args.exits.items c.requires.start c.requires.exits)

pub corner_place-place-requires-clause-row : goal.corner_place-place-requires-clause-row
corner_place-place-requires-clause-row c =
    (left-here c.args.grid.now c.args.start c.loop-corner.corner c.loop-corner.steps.items c.loop-corner.left.items c.requires.is_grid.placed c.requires.no_pinch c.loop-corner.invariant).row

pub corner_place-place-requires-clause-column : goal.corner_place-place-requires-clause-column
corner_place-place-requires-clause-column c =
    (left-here c.args.grid.now c.args.start c.loop-corner.corner c.loop-corner.steps.items c.loop-corner.left.items c.requires.is_grid.placed c.requires.no_pinch c.loop-corner.invariant).column

pub returns-then-dart : goal.returns-then-dart
returns-then-dart c =
    let R = c.args.grid.now in
    let v = c.loop-corner.corner in
    let left = c.loop-corner.left.items in
    let here = left-here R c.args.start v c.loop-corner.steps.items left c.requires.is_grid.placed c.requires.no_pinch c.loop-corner.invariant in
    let place = c.corner_place-place.ensures.place in
    let room = exit-place R _ left v c.loop-corner.invariant.exits here.row here.column in
    left-closed R c.args.start v c.loop-corner.steps.items left c.requires.is_grid.placed c.requires.no_pinch c.loop-corner.invariant
    (ap (λ (n : ℕ). get_or left n 0) (sym place)
    ∙ sym (get_or_read left c.corner_place-place.result c.index-dart.result.now (subst (λ (n : ℕ). n < length left) (sym place) room) c.index-dart.ensures 0) ∙ c.if-dart.true)

pub overflow_cast-step-in-loop-corner : goal.overflow_cast-step-in-loop-corner
overflow_cast-step-in-loop-corner c =
    let here = left-here c.args.grid.now c.args.start c.loop-corner.corner c.loop-corner.steps.items c.loop-corner.left.items c.requires.is_grid.placed c.requires.no_pinch c.loop-corner.invariant in
    omega (arith, here.column, c.requires.is_grid.columns_within)

pub loop-corner-preserved : goal.loop-corner-preserved
loop-corner-preserved c =
    let R = c.args.grid.now in
    let v = c.loop-corner.corner in
    let left = c.loop-corner.left.items in
    let here = left-here R c.args.start v c.loop-corner.steps.items left c.requires.is_grid.placed c.requires.no_pinch c.loop-corner.invariant in
    let place = c.corner_place-place.ensures.place in
    let room = exit-place R _ left v c.loop-corner.invariant.exits here.row here.column in
    let step : BoundaryStep = record { r = v.r; x = v.x; dart = c.index-dart.result.now } in
    let is : c.index-dart.result.now ≡ get_or left (v.r * (R.columns + 2) + v.x) 0 =
    get_or_read left c.corner_place-place.result c.index-dart.result.now (subst (λ (n : ℕ). n < length left) (sym place) room) c.index-dart.ensures 0
    ∙ ap (λ (n : ℕ). get_or left n 0) place in
    let to : c.side.result.to ≡ (side_by R.kind step).to =
    ap (λ (s : Side). s.to) (c.side.ensures ∙ ap (λ (k : Kind). side_by k step) c.kind.ensures.kind) in
    let more = left-more R c.args.start v c.loop-corner.steps.items left c.requires.is_grid.placed c.requires.no_pinch c.loop-corner.invariant step
    (slice_set left c.corner_place-place.result NO_EXIT) refl refl is c.if-dart.false (ap (λ (n : ℕ). slice_set left n NO_EXIT) place) in
    subst (λ (l : List BoundaryStep). IsWalkLeft R c.args.start c.side.result.to l (slice_set left c.corner_place-place.result NO_EXIT)) (sym c.in_ok-push.ensures.items)
    (subst (λ (u : Corner). IsWalkLeft R c.args.start u (c.loop-corner.steps.items ++ step ∷ []) (slice_set left c.corner_place-place.result NO_EXIT)) (sym to) more)
