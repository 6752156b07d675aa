use Rattle.std.proofs.Common.{◌%◌, ◌||◌, get_or, ◌∙◌, arith}
use Rattle.tl_strings.proofs.Bits.{bit-or}
use Rattle.tl_strings.proofs.Places.{string-at}
use Rattle.tl_strings.proofs.ends.joined_next.Goals as goal

pub returns : goal.returns
returns c =
    let a = c.args in
    record {
      each = λ row slot at behind.
          bit-or (get_or a.low.now a.at 0) c.before-2.result (slot % 64)
          ∙ (λ t. string-at a.low.now a.height row slot a.at at t || c.before-2.ensures row slot at behind t);
      first = λ small. absurd (omega (arith, small));
    }
