use Rattle.std.proofs.Common.{◌≡◌, ◌+◌, ◌-◌, ◌%◌, sym, ◌∙◌, arith}
use Rattle.std.proofs.lemmas.Bool.{cond-false, cond-true}
use Rattle.tl_strings.specs.Steps.{across, stepped_bit, upright}
use Rattle.tl_strings.specs.Strings.{word_place}
use Rattle.tl_strings.specs.Words.{bit}
use Rattle.tl_strings.proofs.Places.{string-at}
use Rattle.tl_strings.proofs.square_words.square_at.Goals as goal

pub returns-then-is_odd : goal.returns-then-is_odd
returns-then-is_odd c row slot at behind below =
    let a = c.args in
    let place = slot % 64 in
    let north : word_place a.height (row - 1) slot ≡ a.at - 1 = omega arith in
    let south : word_place a.height (row + 1) slot ≡ a.at + 1 = omega arith in
    c.stepped.ensures place (omega arith)
    ∙ (λ t. stepped_bit (bit a.here place)
    ((c.upright_word-upright.ensures place (omega arith) ∙ (λ s. upright (bit a.here place) (string-at a.others.now a.height (row - 1) slot (a.at - 1) north s) (string-at a.others.now a.height (row + 1) slot (a.at + 1) south s))) t)
    ((c.across_word-level.ensures place (omega arith) ∙ (λ s. across a.is_odd (bit a.here place) (c.before-west.ensures row slot at behind s) (c.behind-east.ensures row slot at s))) t)
    (c.coin_word-coin.ensures row slot at behind t)
    (string-at a.planes.free.now a.height row slot a.at at t))
    ∙ sym (cond-true a.is_odd _ _ c.if-is_odd.true)

pub returns-else-is_odd : goal.returns-else-is_odd
returns-else-is_odd c row slot at behind below =
    let a = c.args in
    let place = slot % 64 in
    let north : word_place a.height (row - 1) slot ≡ a.at - 1 = omega arith in
    let south : word_place a.height (row + 1) slot ≡ a.at + 1 = omega arith in
    c.stepped-else-is_odd.ensures place (omega arith)
    ∙ (λ t. stepped_bit (bit a.here place)
    ((c.across_word-level.ensures place (omega arith) ∙ (λ s. across a.is_odd (bit a.here place) (c.before-west.ensures row slot at behind s) (c.behind-east.ensures row slot at s))) t)
    ((c.upright_word-upright.ensures place (omega arith) ∙ (λ s. upright (bit a.here place) (string-at a.others.now a.height (row - 1) slot (a.at - 1) north s) (string-at a.others.now a.height (row + 1) slot (a.at + 1) south s))) t)
    (c.coin_word-coin.ensures row slot at behind t)
    (string-at a.planes.free.now a.height row slot a.at at t))
    ∙ sym (cond-false a.is_odd _ _ c.if-is_odd.false)
