use Rattle.std.proofs.Common.{◌%◌, ◌∙◌, arith}
use Rattle.tl_strings.proofs.Places.{string-before}
use Rattle.tl_strings.proofs.words.before.Goals as goal

pub returns : goal.returns
returns c row slot place behind =
    c.moved_up.ensures (slot % 64) (omega arith) ∙ string-before c.args.words.now c.args.height row slot c.args.at place behind
