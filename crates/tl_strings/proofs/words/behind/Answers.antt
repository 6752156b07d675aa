use Rattle.std.proofs.Common.{◌%◌, ◌∙◌, arith}
use Rattle.tl_strings.proofs.Places.{string-behind}
use Rattle.tl_strings.proofs.words.behind.Goals as goal

pub returns : goal.returns
returns c row slot place = c.moved_down.ensures (slot % 64) (omega arith) ∙ string-behind c.args.words.now c.args.height row slot c.args.at place
