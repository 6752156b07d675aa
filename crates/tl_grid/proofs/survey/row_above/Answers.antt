use Rattle.std.proofs.Common.{◌∙◌, inl, inr}
use Rattle.tl_grid.proofs.PatternLemmas.{flags-above}
use Rattle.tl_grid.proofs.survey.row_above.Goals as goal
use Rattle.tl_grid.proofs.survey.row_above.Goals.{then-r-eq0, else-r-eq0}

pub returns : goal.returns
returns c =
    let R = c.args.grid.now in
    c.row.ensures.row
    ∙ flags-above R c.args.r c.if-r-eq0.row c.row.ensures.is_grid
    (elim c.if-r-eq0.branch [
      | then-r-eq0 w ↦ inl (w.if-r-eq0.true, w.row-is ∙ w.rows.ensures.rows)
      | else-r-eq0 w ↦ inr (w.if-r-eq0.false, w.row-is)
    ])
