use Rattle.std.proofs.Common.{◌%◌, ◌||◌, ap, get_or, ◌∙◌, arith}
use Rattle.tl_strings.specs.Words.{bit}
use Rattle.tl_strings.proofs.Bits.{bit-nothing, bit-or, or_none}
use Rattle.tl_strings.proofs.Places.{string-at, string-before-first}
use Rattle.tl_strings.proofs.ends.joined_first.Goals as goal

pub returns : goal.returns
returns c =
    let a = c.args in
    let here = get_or a.low.now a.at 0 in
    record {
      each = λ row slot at behind.
          bit-or here c.moved_up.result (slot % 64)
          ∙ (λ t. string-at a.low.now a.height row slot a.at at t
          || (c.moved_up.ensures (slot % 64) (omega arith) ∙ string-before-first a.high.now a.height row slot a.at at behind (omega arith)) t);
      first = λ _.
          bit-or here c.moved_up.result 0 ∙ ap (λ b. bit here 0 || b) (c.moved_up.ensures 0 (omega arith) ∙ bit-nothing 63) ∙ or_none (bit here 0);
    }
