use Rattle.std.proofs.Common.{arith}
use Rattle.std.proofs.lemmas.Result.{IfOk-weaker}
use Rattle.tl_crew.proofs.CutRows.{band-of, few}
use Rattle.tl_crew.proofs.cuts.band_of.Goals as goal

pub overflow_add-j : goal.overflow_add-j
overflow_add-j c =
    let bands = few c.args.cut.now c.row_at-first.ensures.is_cut in omega (arith, bands, c.requires.band, c.requires.rows, c.args.layout.now.height_small)

pub returns : goal.returns
returns c =
    IfOk-weaker c.new.result _ _
    (λ b rows.
    band-of c.args.cut.now c.row_at-first.ensures.is_cut c.args.layout.now c.args.j c.row_at-first.result c.row_at-end.result b c.requires.rows c.requires.band
    c.row_at-first.ensures.row c.row_at-end.ensures.row rows)
    c.new.ensures
