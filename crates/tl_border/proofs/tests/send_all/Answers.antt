use Rattle.std.proofs.Common.{◌≡◌, ℕ, ◌<◌, List, length, map, get_or, refl, sym, ap, ◌∙◌, Some}
use Rattle.std.specs.Prelude.{slice_get}
use Rattle.std.specs.Option.{option_map}
use Rattle.std.proofs.lemmas.Option.{slice_get-map, slice_get_read}
use Rattle.std.proofs.lemmas.Iterator.Adapters.{YieldsList-from_vec}
use Rattle.std.proofs.lemmas.Iterator.Consumers.{YieldsList-turn}
use Rattle.tl_border.specs.declared.row.Row.{Row}
use Rattle.tl_border.specs.declared.row.Side.{Side}
use Rattle.tl_border.specs.declared.job.JobRows.{JobRows}
use Rattle.tl_border.specs.Rows.{bits_of_row, rows_of}
use Rattle.tl_border.proofs.tests.send_all.Goals as goal

next : (job other : JobRows) (side side' : Side) (sent k : ℕ) (rows : List Row) (row : Row) → other ≡ job → side' ≡ side → sent ≡ k → map bits_of_row rows ≡ rows_of job side → k < length rows → row ≡ get_or rows k row
    → slice_get (rows_of other side') sent ≡ Some (bits_of_row row)
next job other side side' sent k rows row same_job same_side same_sent are near is =
    ap (λ j. slice_get (rows_of j side') sent) same_job ∙ (ap (λ s. slice_get (rows_of job s) sent) same_side ∙ (ap (λ n. slice_get (rows_of job side) n) same_sent
    ∙ (ap (λ rs. slice_get rs k) (sym are) ∙ (slice_get-map bits_of_row rows k ∙ ap (λ o. option_map bits_of_row o) (slice_get_read rows (length rows) k row refl near is)))))

pub send_patiently-requires : goal.send_patiently-requires
send_patiently-requires g c = let begun = c.into_iter-row-iterator.ensures.into_iter_gives in
    let turn = YieldsList-turn (YieldsList-from_vec c.args.rows.items begun.0 (begun.1 ∙ c.args.rows.ok.0)) c.loop-row.yielded _ c.loop-row.yielded_by c.next.result c.next.new.self c.in-Some.row c.in-Some.is c.next.ensures.steps in
    next c.args.end.job c.loop-row.end.job c.args.end.side c.loop-row.end.side c.loop-row.end.sent (length c.loop-row.yielded) c.args.rows.items c.in-Some.row c.loop-row.invariant.job.0 c.loop-row.invariant.job.1 c.loop-row.invariant.sent
    c.requires.rows turn.0 turn.1
