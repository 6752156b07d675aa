use Rattle.std.proofs.Common.{◌≡◌, ◌∙◌, [], map, sym, subst, arith, List, None}
use Rattle.tl_definitions.specs.Region.{corner_places}
use Rattle.tl_definitions.specs.Accepted.{IsCircuit}
use Rattle.tl_definitions.specs.Boundary.{is_boundary_corner}
use Rattle.tl_definitions.proofs.Circuits.{no_corner-circuit}
use Rattle.tl_lists.proofs.Searches.{find-In}
use Rattle.std.proofs.lemmas.List.{length-map}
use Rattle.tl_grid.specs.Sides.{side_by}
use Rattle.tl_grid.specs.declared.walk.BoundaryStep.{BoundaryStep}
use Rattle.tl_grid.proofs.OnePart.{one_circuit-one_part}
use Rattle.tl_grid.proofs.WalkLemmas.{full-circuit, circuit-full}
use Rattle.tl_grid.proofs.walk.one_circuit.Goals as goal

pub returns-in_default-clause-circuit : goal.returns-in_default-clause-circuit
returns-in_default-clause-circuit c =
    let R = c.args.grid.now in
    let none : c.args.start ≡ None = cc in
    subst (λ (l : List BoundaryStep). IsCircuit R (map (side_by R.kind) l)) (sym c.new.ensures.items)
    (no_corner-circuit R c.requires.is_grid.placed (sym c.requires.start ∙ none))

pub returns-in_default-clause-one_part : goal.returns-in_default-clause-one_part
returns-in_default-clause-one_part c =
    let none : c.args.start ≡ None = cc in
    one_circuit-one_part c.args.grid.now c.requires.is_grid.placed c.requires.no_pinch []
    (no_corner-circuit c.args.grid.now c.requires.is_grid.placed (sym c.requires.start ∙ none))

pub walk-requires-clause-start : goal.walk-requires-clause-start
walk-requires-clause-start c =
    let R = c.args.grid.now in
    (find-In (is_boundary_corner R) (corner_places R) c.in-Some.start (sym c.requires.start ∙ c.in-Some.is)).1

pub returns-then-len-boundary-clause-circuit : goal.returns-then-len-boundary-clause-circuit
returns-then-len-boundary-clause-circuit c =
    let R = c.args.grid.now in
    let steps = c.in_ok-steps.steps.items in
    full-circuit R c.in-Some.start (map (side_by R.kind) steps) c.requires.is_grid.placed c.requires.no_pinch (sym c.requires.start ∙ c.in-Some.is) c.in_ok-steps.ensures
    (length-map steps (side_by R.kind) ∙ omega (arith, c.len.ensures, c.if-len-boundary.true, c.requires.boundary))

pub returns-then-len-boundary-clause-one_part : goal.returns-then-len-boundary-clause-one_part
returns-then-len-boundary-clause-one_part c =
    let R = c.args.grid.now in
    let steps = c.in_ok-steps.steps.items in
    one_circuit-one_part R c.requires.is_grid.placed c.requires.no_pinch (map (side_by R.kind) steps)
    (full-circuit R c.in-Some.start (map (side_by R.kind) steps) c.requires.is_grid.placed c.requires.no_pinch (sym c.requires.start ∙ c.in-Some.is) c.in_ok-steps.ensures
    (length-map steps (side_by R.kind) ∙ omega (arith, c.len.ensures, c.if-len-boundary.true, c.requires.boundary)))

pub returns-else-len-boundary-clause-circuit : goal.returns-else-len-boundary-clause-circuit
returns-else-len-boundary-clause-circuit c (other, circuit) =
    let R = c.args.grid.now in
    let steps = c.in_ok-steps.steps.items in
    let full = circuit-full R c.in-Some.start (map (side_by R.kind) steps) c.requires.is_grid.placed c.requires.no_pinch (sym c.requires.start ∙ c.in-Some.is) c.in_ok-steps.ensures other circuit in
    c.if-len-boundary.false (omega (arith, full, c.len.ensures, c.requires.boundary, length-map steps (side_by R.kind)))
