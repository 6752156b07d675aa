use Rattle.std.proofs.Common.{◌≡◌}
use Rattle.tl_text.proofs.ShapeLemmas.{text_before}
use Rattle.tl_text.proofs.shapes.shape_text.Given as goal

abbrev pub invariant-loop-i : goal.invariant-loop-i
invariant-loop-i l = l.text.items ≡ text_before l.shape l.order l.i
