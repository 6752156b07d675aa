use Rattle.std.proofs.Common.{◌≡◌, ◌+◌, ◌-◌, ◌%◌, ◌||◌, ap, ◌∙◌, get_or, length, arith}
use Rattle.std.specs.Prelude.{bit_and}
use Rattle.std.specs.Simd.Lanes.{zip2}
use Rattle.tl_strings.specs.Words.{bit, bit_before}
use Rattle.tl_strings.proofs.Lanes.{lane-or, lane-zip2, pair-zip2}
use Rattle.tl_strings.proofs.Places.{coins-both}
use Rattle.tl_strings.proofs.pairs.coin_pair.Goals as goal

pub returns : goal.returns
returns c lane row slot below place behind =
    let a = c.args in
    let coins = c.load.result in
    let lows = c.load-2.result in
    let coins_is : length coins ≡ 2 = omega arith in
    let lows_is : length lows ≡ 2 = omega arith in
    let coins_before = c.load-3.result in
    let lows_before = c.load-4.result in
    let previous : a.at - a.height + lane ≡ a.at + lane - a.height = omega arith in
    let here = zip2 bit_and coins lows in
    let here_is = lane-zip2 bit_and coins lows lane coins_is lows_is below ∙ (λ t. bit_and (c.load.ensures lane below t) (c.load-2.ensures lane below t)) in
    let previous_is =
    lane-zip2 bit_and coins_before lows_before lane (omega arith) (omega arith) below
    ∙ (λ t. bit_and (c.load-3.ensures lane below t) (c.load-4.ensures lane below t))
    ∙ ap (λ k. bit_and (get_or a.coins.now k 0) (get_or a.lows.now k 0)) previous in
    lane-or here c.moved_up.result lane (slot % 64) (pair-zip2 bit_and coins lows coins_is lows_is) (omega arith) below
    ∙ ap (λ b. bit (get_or here lane 0) (slot % 64) || b) (c.moved_up.ensures lane (slot % 64) below (omega arith))
    ∙ (λ t. bit (here_is t) (slot % 64) || bit_before (here_is t) (previous_is t) (slot % 64))
    ∙ coins-both a.coins.now a.lows.now a.height row slot (a.at + lane) place behind
