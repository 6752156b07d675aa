use Rattle.std.proofs.Common.{◌≡◌, ◌+◌, ◌-◌, ◌%◌, ℕ, List, ap, sym, ◌∙◌, get_or, arith}
use Rattle.std.proofs.lemmas.Bool.{cond-false, cond-true}
use Rattle.tl_strings.specs.Steps.{across, stepped_bit, upright}
use Rattle.tl_strings.specs.Strings.{word_place}
use Rattle.tl_strings.specs.Words.{bit}
use Rattle.tl_strings.proofs.Places.{loaded-at}
use Rattle.tl_strings.proofs.squares.square_pair.Goals as goal
use Rattle.tl_strings.proofs.squares.square_pair.Goals.{then-is_odd, else-is_odd}

pub returns : goal.returns
returns c lane below row slot at behind under =
    let a = c.args in
    let place = slot % 64 in
    let here = bit (get_or a.here lane 0) place in
    let north : word_place a.height (row - 1) slot ≡ a.at - 1 + lane = omega arith in
    let south : word_place a.height (row + 1) slot ≡ a.at + 1 + lane = omega arith in
    let upright_is =
    c.upright_pair-upright.ensures lane place below
    ∙ (λ s. upright here (loaded-at a.others.now c.load-north.result a.height (row - 1) slot (a.at - 1) lane c.load-north.ensures below north s)
    (loaded-at a.others.now c.load-south.result a.height (row + 1) slot (a.at + 1) lane c.load-south.ensures below south s)) in
    let level_is =
    c.across_pair-level.ensures lane place below (omega arith)
    ∙ (λ s. across a.is_odd here (c.before-west.ensures lane row slot below at behind s) (c.behind-east.ensures lane row slot below at s)) in
    let coin_is = c.coin_pair-coin.ensures lane row slot below at behind in
    let free_is = loaded-at a.planes.free.now c.load-free.result a.height row slot a.at lane c.load-free.ensures below at in
    elim c.if-is_odd.branch [
      | then-is_odd w ↦ ap (λ (ws : List ℕ). bit (get_or ws lane 0) place) w.result-is
          ∙ w.stepped.ensures lane place below (omega arith)
          ∙ (λ t. stepped_bit here (upright_is t) (level_is t) (coin_is t) (free_is t))
          ∙ sym (cond-true a.is_odd _ _ w.if-is_odd.true)
      | else-is_odd w ↦ ap (λ (ws : List ℕ). bit (get_or ws lane 0) place) w.result-is
          ∙ w.stepped-else-is_odd.ensures lane place below (omega arith)
          ∙ (λ t. stepped_bit here (level_is t) (upright_is t) (coin_is t) (free_is t))
          ∙ sym (cond-false a.is_odd _ _ w.if-is_odd.false)
    ]
