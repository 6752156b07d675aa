use Rattle.std.proofs.Common.{◌≡◌, ◌+◌, ◌-◌, ◌%◌, ◌==◌, ◌∙◌, arith}
use Rattle.tl_strings.specs.Steps.{all_three, stepped_bit}
use Rattle.tl_strings.specs.Strings.{word_place}
use Rattle.tl_strings.specs.Words.{bit}
use Rattle.tl_strings.proofs.Places.{string-at}
use Rattle.tl_strings.proofs.triangle_words.triangle_at.Goals as goal

pub returns : goal.returns
returns c row slot at behind below =
    let a = c.args in
    let place = slot % 64 in
    let above : word_place a.height (row - 1) slot ≡ a.at - 1 = omega arith in
    let under : word_place a.height (row + 1) slot ≡ a.at + 1 = omega arith in
    c.stepped.ensures place (omega arith)
    ∙ (λ t. stepped_bit (bit a.here place)
    ((c.all_three_word-all_to.ensures place (omega arith)
    ∙ (λ s. all_three (a.class == 0) (bit a.here place) (c.before-west.ensures row slot at behind s) (string-at a.from.now a.height (row - 1) slot (a.at - 1) above s) (c.behind-south_east.ensures (row + 1) slot under s))) t)
    ((c.all_three_word-all_from.ensures place (omega arith)
    ∙ (λ s. all_three (a.class == 1) (bit a.here place) (c.behind-east.ensures row slot at s) (c.before-north_west.ensures (row - 1) slot above behind s) (string-at a.to.now a.height (row + 1) slot (a.at + 1) under s))) t)
    (c.coin_word-coin.ensures row slot at behind t)
    (string-at a.planes.free.now a.height row slot a.at at t))
