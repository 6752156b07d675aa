use Rattle.std.proofs.Common.{◌≡◌, ◌<◌, arith, sym, ◌∙◌, ap, length, Some, None}
use Rattle.tl_definitions.specs.declared.Kind.{Kind}
use Rattle.tl_definitions.specs.Lattice.{neighbours}
use Rattle.tl_lattice.specs.Places.{padded}
use Rattle.tl_definitions.proofs.Regions.{has-within}
use Rattle.tl_grid.proofs.FloodLemmas.{reaches_nothing, reaches_more, reaches_none, reaches_all, length-padded}
use Rattle.tl_grid.proofs.parts.Flood.spread.Goals as goal
use Rattle.tl_grid.proofs.parts.Flood.spread.Goals.{in-Some+in_ok-reach, in_default}

pub neighbours-requires-clause-row : goal.neighbours-requires-clause-row
neighbours-requires-clause-row c =
    omega (arith, (has-within c.args.grid.now c.args.cell c.kind.ensures.is_grid.placed c.requires.inside).0, c.kind.ensures.is_grid.rows_within)

pub neighbours-requires-clause-column : goal.neighbours-requires-clause-column
neighbours-requires-clause-column c =
    omega (arith, (has-within c.args.grid.now c.args.cell c.kind.ensures.is_grid.placed c.requires.inside).1, c.kind.ensures.is_grid.columns_within)

pub loop-near-init : goal.loop-near-init
loop-near-init c = reaches_nothing c.args.grid.now c.args.self.now

pub reach-requires : goal.reach-requires
reach-requires c = c.loop-near.invariant.size ∙ c.requires.size

pub loop-near-preserved : goal.loop-near-preserved
loop-near-preserved c =
    let found = c.neighbours.result.cells in
    let i = c.loop-near.near-index in
    let four : length found ≡ 4 = ap length c.neighbours.ensures.cells ∙ length-padded c.kind.result c.args.cell in
    let within : i < length found = omega (arith, c.loop-near-test.true, four) in
    elim c.match-near.branch [
      | in-Some+in_ok-reach w ↦
          reaches_more c.args.grid.now found i (Some w.in-Some.near) None c.args.self.now c.loop-near.self c.match-near.self within
          (sym w.in-Some.is) c.loop-near.invariant (rw (w.self-is) w.in_ok-reach.ensures)
      | in_default w ↦
          reaches_more c.args.grid.now found i None None c.args.self.now c.loop-near.self c.match-near.self within (sym w.in_default.is) c.loop-near.invariant
          (rw (w.self-is) (reaches_none c.args.grid.now c.loop-near.self))
    ]

pub returns : goal.returns
returns c =
    let cells = c.neighbours.ensures.cells ∙ ap (λ (k : Kind). padded 4 (neighbours k c.args.cell)) c.kind.ensures.kind in
    let four : length c.neighbours.result.cells ≡ 4 = ap length cells ∙ length-padded c.args.grid.now.kind c.args.cell in
    reaches_all c.args.grid.now c.args.cell c.neighbours.result.cells c.loop-near.near-index c.args.self.now c.loop-near.self cells (omega (arith, four, c.loop-near-test.false)) c.loop-near.invariant
