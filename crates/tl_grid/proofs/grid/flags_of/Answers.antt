use Rattle.std.proofs.Common.{◌+◌, ◌*◌, ◌<◌, arith, refl}
use Rattle.std.specs.Prelude.{slice_index_or}
use Rattle.std.proofs.lemmas.Nat.{mul-add-lt}
use Rattle.std.proofs.Math.Nat.{mul_comm}
use Rattle.tl_definitions.specs.declared.Cell.{Cell}
use Rattle.tl_definitions.specs.Lattice.{cell}
use Rattle.tl_grid.proofs.GridLemmas.{flags_more, no_flags}
use Rattle.tl_grid.proofs.grid.flags_of.Goals as goal

pub index_mut-requires : goal.index_mut-requires
index_mut-requires c =
    let x : Cell = slice_index_or c.args.cells.now c.loop-cell.cell-index (cell 0 0) in
    let within : (x.r < c.args.rows) × (x.c < c.args.columns) = c.requires.within c.loop-cell.cell-index (cell 0 0) c.loop-cell-test.true in
    let below : x.r * c.args.columns + x.c < c.args.columns * c.args.rows = mul-add-lt x.r c.args.columns x.c c.args.rows within.0 within.1 in
    omega (arith, below, c.loop-cell.invariant.size, mul_comm c.args.columns c.args.rows)

pub loop-cell-preserved : goal.loop-cell-preserved
loop-cell-preserved c =
    let x : Cell = slice_index_or c.args.cells.now c.loop-cell.cell-index (cell 0 0) in
    let within : (x.r < c.args.rows) × (x.c < c.args.columns) = c.requires.within c.loop-cell.cell-index (cell 0 0) c.loop-cell-test.true in
    flags_more c.args.rows c.args.columns c.args.cells.now c.loop-cell.flags.items c.loop-cell.cell-index x (cell 0 0) c.loop-cell-test.true refl within.0 within.1 c.loop-cell.invariant

pub loop-cell-init : goal.loop-cell-init
loop-cell-init c = no_flags c.args.rows c.args.columns c.in_ok-flags.flags.items (c.in_ok-flags.ensures.items_if_clones_equal (λ y e. e))
