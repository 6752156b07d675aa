use Rattle.std.proofs.Common.{arith, sym, ◌∙◌}
use Rattle.std.specs.Prelude.{nat_le}
use Rattle.std.proofs.lemmas.Bool.{le-leb, lt-leb}
use Rattle.tl_tiling.proofs.MatchLemmas.{find-drop}
use Rattle.tl_tiling.proofs.ReadLemmas.{none_below}
use Rattle.tl_tiling.proofs.letters.first_cell_from.Goals as goal

pub returns-then-from-rows : goal.returns-then-from-rows
returns-then-from-rows c = sym (none_below c.args.region.now c.args.from c.rows.ensures.is_grid.placed (omega (arith, c.if-from-rows.true, c.rows.ensures.rows)))

pub returns-then-cell-from : goal.returns-then-cell-from
returns-then-cell-from c =
    let next = find-drop (λ a. nat_le c.args.from a.r) c.args.region.now.cells c.loop-i.i c.cell-cell.result c.cell-cell.ensures in
    sym (rw (le-leb _ _ c.if-cell-from.true) at next) ∙ c.loop-i.invariant

pub loop-i-preserved : goal.loop-i-preserved
loop-i-preserved c =
    let next = find-drop (λ a. nat_le c.args.from a.r) c.args.region.now.cells c.loop-i.i c.cell-cell.result c.cell-cell.ensures in
    sym (rw (lt-leb _ _ c.if-cell-from.false) at next) ∙ c.loop-i.invariant
