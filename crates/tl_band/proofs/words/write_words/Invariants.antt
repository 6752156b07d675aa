use Rattle.std.proofs.Common.{◌≡◌, ◌+◌, length, slice_index}
use Rattle.tl_row_sweep.proofs.Strips.{AreStripsMade}
use Rattle.tl_band.proofs.words.write_words.Given as goal

abbrev pub invariant-loop-strip : goal.invariant-loop-strip
invariant-loop-strip l = record {
  len : length l.string ≡ length l.fn.string;
  written : AreStripsMade (λ strip row word. word ≡ slice_index l.words strip) l.layout.height l.row (l.row + 1) 0 l.strip l.fn.string l.string;
}
