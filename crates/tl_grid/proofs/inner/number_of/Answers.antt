use Rattle.std.proofs.Common.{length, arith, ap, Ok, Err}
use Rattle.tl_grid.proofs.InnerLemmas.{number-searched, missing-outside, few_inner}
use Rattle.tl_grid.proofs.inner.number_of.Goals as goal
use Rattle.tl_grid.proofs.inner.number_of.Goals.{then-corner-rows-via-then-corner-rows, then-corner-rows-via-else-corner-rows+then-corner-columns}

pub returns-then-corner-rows : goal.returns-then-corner-rows
returns-then-corner-rows c =
    missing-outside c.args.grid.now c.rows.ensures.is_grid c.args.corner (λ p. elim c.then-corner-rows.branch [
      | then-corner-rows-via-then-corner-rows w ↦ omega (arith, p.row, w.if-corner-rows.true, c.rows.ensures.rows)
      | then-corner-rows-via-else-corner-rows+then-corner-columns w ↦ omega (arith, p.column, w.if-corner-columns.true, w.columns.ensures.columns)
    ])

pub overflow_cast-result : goal.overflow_cast-result
overflow_cast-result c = omega (arith, c.in-Ok.ensures.bound, ap length c.requires, few_inner c.args.grid.now c.rows.ensures.is_grid)

pub returns-in-Ok : goal.returns-in-Ok
returns-in-Ok c =
    number-searched c.args.grid.now c.rows.ensures.is_grid c.args.corner (Ok c.in-Ok.number)
    (omega (arith, c.if-corner-columns.false, c.columns.ensures.columns)) (rw (c.requires, c.corner_place.ensures.place) at c.in-Ok.ensures.position)

pub returns-in-Err : goal.returns-in-Err
returns-in-Err c =
    number-searched c.args.grid.now c.rows.ensures.is_grid c.args.corner (Err c.in-Err.field-0)
    (omega (arith, c.if-corner-columns.false, c.columns.ensures.columns)) (rw (c.requires, c.corner_place.ensures.place) at c.in-Err.ensures.position)
