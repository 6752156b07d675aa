use Rattle.std.proofs.Common.{◌≡◌, ◌+◌, ◌%◌, ap, ◌∙◌, get_or, arith}
use Rattle.tl_strings.specs.Words.{bit_behind}
use Rattle.tl_strings.proofs.Places.{string-behind}
use Rattle.tl_strings.proofs.pairs.behind.Goals as goal

pub returns : goal.returns
returns c lane row slot below place =
    let a = c.args in
    let next : a.at + a.height + lane ≡ a.at + lane + a.height = omega arith in
    c.moved_down.ensures lane (slot % 64) below (omega arith)
    ∙ (λ t. bit_behind (c.load.ensures lane below t) ((c.load-2.ensures lane below ∙ ap (λ k. get_or a.words.now k 0) next) t) (slot % 64))
    ∙ string-behind a.words.now a.height row slot (a.at + lane) place
