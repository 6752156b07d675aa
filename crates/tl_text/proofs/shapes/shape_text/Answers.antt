use Rattle.tl_text.proofs.ShapeLemmas.{text_before-next}
use Rattle.tl_text.proofs.shapes.shape_text.Goals as goal

pub loop-i-preserved : goal.loop-i-preserved
loop-i-preserved c =
    text_before-next c.args.shape c.args.order c.loop-i.i c.row_columns.result c.loop-i.text.items _ _ _ c.row_columns.ensures.columns c.in_ok-row.ensures
    (rw c.as_slice.ensures.value at c.in_ok-extend_from_slice.ensures.items) c.in_ok-push-2.ensures.items c.loop-i.invariant
