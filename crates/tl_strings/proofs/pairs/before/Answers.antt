use Rattle.std.proofs.Common.{◌≡◌, ◌+◌, ◌-◌, ◌%◌, ap, ◌∙◌, get_or, arith}
use Rattle.tl_strings.specs.Words.{bit_before}
use Rattle.tl_strings.proofs.Places.{string-before}
use Rattle.tl_strings.proofs.pairs.before.Goals as goal

pub returns : goal.returns
returns c lane row slot below place behind =
    let a = c.args in
    let previous : a.at - a.height + lane ≡ a.at + lane - a.height = omega arith in
    c.moved_up.ensures lane (slot % 64) below (omega arith)
    ∙ (λ t. bit_before (c.load.ensures lane below t) ((c.load-2.ensures lane below ∙ ap (λ k. get_or a.words.now k 0) previous) t) (slot % 64))
    ∙ string-before a.words.now a.height row slot (a.at + lane) place behind
