use Rattle.std.proofs.Common.{List, sym, subst, arith}
use Rattle.tl_border.specs.declared.row.Row.{Row}
use Rattle.tl_band.specs.Edges.{AreOfSize}
use Rattle.tl_band.proofs.borders.take_spare.Goals as goal

pub returns-clause-left : goal.returns-clause-left
returns-clause-left c strips all = c.move_row-2.ensures.from strips (c.move_row.ensures.from strips all)

pub returns-clause-taken : goal.returns-clause-taken
returns-clause-taken c strips all =
    let none : AreOfSize strips c.in_ok-spare.spare.items =
    subst (λ (rows : List Row). AreOfSize strips rows) (sym (c.in_ok-spare.ensures).items) (λ k d within. absurd (omega (arith, within))) in
    c.move_row-2.ensures.to strips (c.move_row.ensures.from strips all) (c.move_row.ensures.to strips all none)
