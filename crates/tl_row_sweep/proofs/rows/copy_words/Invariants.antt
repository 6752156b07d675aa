use Rattle.std.proofs.Common.{◌≡◌, ◌+◌, ◌*◌, length, slice_index}
use Rattle.tl_row_sweep.proofs.Strips.{AreStripsMade}
use Rattle.tl_row_sweep.proofs.rows.copy_words.Given as goal

abbrev pub invariant-loop-strip : goal.invariant-loop-strip
invariant-loop-strip l = record {
  len : length l.to ≡ length l.fn.to;
  taken : AreStripsMade (λ strip row word. word ≡ slice_index l.from (strip * l.layout.height + row)) l.layout.height l.row (l.row + 1) 0 l.strip l.fn.to l.to;
}
