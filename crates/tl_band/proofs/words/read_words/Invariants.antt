use Rattle.std.proofs.Common.{◌≡◌, ℕ, ◌+◌, ◌*◌, ◌<◌, length, slice_index}
use Rattle.tl_band.proofs.words.read_words.Given as goal

abbrev pub invariant-loop-strip : goal.invariant-loop-strip
invariant-loop-strip l = record {
  len : length l.words ≡ length l.fn.words;
  read : (strip : ℕ) → strip < l.strip → slice_index l.words strip ≡ slice_index l.string (strip * l.layout.height + l.row);
}
