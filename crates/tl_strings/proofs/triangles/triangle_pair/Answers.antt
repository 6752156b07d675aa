use Rattle.std.proofs.Common.{◌≡◌, ◌+◌, ◌-◌, ◌%◌, ◌==◌, ◌∙◌, get_or, arith}
use Rattle.tl_strings.specs.Steps.{all_three, stepped_bit}
use Rattle.tl_strings.specs.Strings.{word_place}
use Rattle.tl_strings.specs.Words.{bit}
use Rattle.tl_strings.proofs.Places.{loaded-at}
use Rattle.tl_strings.proofs.triangles.triangle_pair.Goals as goal

pub returns : goal.returns
returns c lane below row slot at behind under =
    let a = c.args in
    let place = slot % 64 in
    let here = bit (get_or a.here lane 0) place in
    let north : word_place a.height (row - 1) slot ≡ a.at - 1 + lane = omega arith in
    let south : word_place a.height (row + 1) slot ≡ a.at + 1 + lane = omega arith in
    let to_is =
    c.all_three_pair-all_to.ensures lane place below (omega arith)
    ∙ (λ s. all_three (a.class == 0) here (c.before-west.ensures lane row slot below at behind s)
    (loaded-at a.from.now c.load-north_east.result a.height (row - 1) slot (a.at - 1) lane c.load-north_east.ensures below north s)
    (c.behind-south_east.ensures lane (row + 1) slot below south s)) in
    let from_is =
    c.all_three_pair-all_from.ensures lane place below (omega arith)
    ∙ (λ s. all_three (a.class == 1) here (c.behind-east.ensures lane row slot below at s)
    (c.before-north_west.ensures lane (row - 1) slot below north behind s)
    (loaded-at a.to.now c.load-south_west.result a.height (row + 1) slot (a.at + 1) lane c.load-south_west.ensures below south s)) in
    c.stepped.ensures lane place below (omega arith)
    ∙ (λ t. stepped_bit here (to_is t) (from_is t) (c.coin_pair-coin.ensures lane row slot below at behind t)
    (loaded-at a.planes.free.now c.load-free.result a.height row slot a.at lane c.load-free.ensures below at t))
