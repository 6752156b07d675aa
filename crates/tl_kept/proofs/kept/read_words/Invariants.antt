use Rattle.std.proofs.Common.{◌≡◌, ◌<◌, ℕ, get_or}
use Rattle.tl_kept.proofs.kept.read_words.Given as goal

-- the words before the index are read, and the bits are as they were
abbrev pub invariant-loop-w : goal.invariant-loop-w
invariant-loop-w g l =
    ((w : ℕ) → w < l.w → get_or l.words w 0 ≡ g.B.Bits.word_at l.fn.bits l.time w)
    × (g.B.Bits.words l.bits ≡ g.B.Bits.words l.fn.bits)
    × (g.B.Bits.word_at l.bits ≡ g.B.Bits.word_at l.fn.bits)
