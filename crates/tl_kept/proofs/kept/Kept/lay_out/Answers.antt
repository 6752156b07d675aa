use Rattle.std.proofs.Common.{arith}
use Rattle.tl_kept.proofs.Words.{kept-time}
use Rattle.tl_kept.proofs.kept.Kept.lay_out.Goals as goal

pub returns-then-time-self-clause-laid : goal.returns-then-time-self-clause-laid
returns-then-time-self-clause-laid g c = λ R l pieces.
    let self = c.args.self.now in
    let word_at = g.B.Bits.word_at self.bits in
    c.lay_out_words.ensures R l word_at c.args.time pieces (λ w within.
    rw c.deref.ensures.value
    (kept-time self.words self.times word_at self.kept.items c.args.time self.are_kept c.requires.first_time c.if-time-self.true w
    (omega (arith, within, c.requires.words, self.same_words))))
