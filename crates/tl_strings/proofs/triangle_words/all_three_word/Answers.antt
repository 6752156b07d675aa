use Rattle.tl_strings.proofs.Bits.{bit-three_plain, bit-three_turned}
use Rattle.tl_strings.proofs.triangle_words.all_three_word.Goals as goal
use Rattle.tl_strings.proofs.triangle_words.all_three_word.Goals.{then-is_turned, else-is_turned}

pub returns : goal.returns
returns c place within =
    let a = c.args in
    let same = c.if-is_turned.same in
    elim c.if-is_turned.branch [
      | then-is_turned w ↦ bit-three_turned a.is_turned a.here same a.first a.second a.third place w.if-is_turned.true w.same-is c.ranges.here.fits within
      | else-is_turned w ↦ bit-three_plain a.is_turned a.here same a.first a.second a.third place w.if-is_turned.false w.same-is
    ]
