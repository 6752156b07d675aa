use Rattle.std.proofs.Common.{◌≡◌, ◌+◌, ◌++◌, map, vec_len}
use Rattle.std.specs.List.{range_with_len}
use Rattle.std.specs.Vec.{vec_capacity}
use Rattle.tl_kept.proofs.kept.push_time.Given as goal

-- so many words are appended, and the bits are as they were
abbrev pub invariant-loop-w : goal.invariant-loop-w
invariant-loop-w g l = record {
  items : l.kept.items ≡ l.fn.kept.items ++ map (g.B.Bits.word_at l.fn.bits l.time) (range_with_len 0 l.w);
  len : vec_len l.kept ≡ vec_len l.fn.kept + l.w;
  capacity : vec_capacity l.kept ≡ vec_capacity l.fn.kept;
  same_words : g.B.Bits.words l.bits ≡ g.B.Bits.words l.fn.bits;
  same_function : g.B.Bits.word_at l.bits ≡ g.B.Bits.word_at l.fn.bits;
}
