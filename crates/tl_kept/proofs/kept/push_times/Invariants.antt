use Rattle.std.proofs.Common.{◌≡◌}
use Rattle.std.specs.Vec.{vec_capacity}
use Rattle.tl_kept.specs.Kept.{AreBegun}
use Rattle.tl_kept.proofs.kept.push_times.Given as goal

-- so many times are kept, and the bits are as they were
abbrev pub invariant-loop-time : goal.invariant-loop-time
invariant-loop-time g l = record {
  begun : AreBegun l.words l.time (g.B.Bits.word_at l.fn.bits) l.kept.items;
  capacity : vec_capacity l.kept ≡ vec_capacity l.fn.kept;
  same_words : g.B.Bits.words l.bits ≡ g.B.Bits.words l.fn.bits;
  same_function : g.B.Bits.word_at l.bits ≡ g.B.Bits.word_at l.fn.bits;
}
