use Rattle.std.proofs.Common.{◌%◌, ◌||◌, ap, ◌∙◌, get_or, arith}
use Rattle.std.specs.Prelude.{bit_and}
use Rattle.tl_strings.specs.Words.{bit}
use Rattle.tl_strings.proofs.Bits.{bit-or}
use Rattle.tl_strings.proofs.Places.{coins-both}
use Rattle.tl_strings.proofs.words.coin_word.Goals as goal

pub returns : goal.returns
returns c row slot place behind =
    let here = bit_and (get_or c.args.coins.now c.args.at 0) (get_or c.args.lows.now c.args.at 0) in
    bit-or here c.moved_up.result (slot % 64) ∙ ap (λ b. bit here (slot % 64) || b) (c.moved_up.ensures (slot % 64) (omega arith))
    ∙ coins-both c.args.coins.now c.args.lows.now c.args.height row slot c.args.at place behind
