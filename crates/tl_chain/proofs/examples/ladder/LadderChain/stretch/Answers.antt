use Rattle.std.proofs.Common.{◌≡◌, ℕ, zero, suc, ◌-◌, ◌<◌, Bool, List, arith, ap, ◌∙◌}
use Rattle.tl_chain.specs.Walk.{goes_up}
use Rattle.tl_chain.specs.Ladder.{climbed, climbed_from}
use Rattle.tl_chain.proofs.examples.ladder.LadderChain.stretch.Goals as goal

-- one step more, and what is left after it ends where it did before
climbed_from-step : (high gap : ℕ) (ups : List Bool) (time place next end : ℕ) (up : Bool) → 0 < time → up ≡ goes_up ups (time - 1)
    → next ≡ climbed high gap up place → climbed_from high gap ups time place ≡ end → climbed_from high gap ups (time - 1) next ≡ end
climbed_from-step high gap ups zero place next end up h b e w = absurd (omega (arith, h))
climbed_from-step high gap ups (suc t) place next end up h b e w =
    let before : suc t - 1 ≡ t = omega arith in
    let bit : up ≡ goes_up ups t = b ∙ ap (goes_up ups) before in
    rw before (ap (climbed_from high gap ups t) (e ∙ ap (λ u. climbed high gap u place) bit) ∙ w)

pub loop-time-preserved : goal.loop-time-preserved
loop-time-preserved c =
    let left : 0 < c.loop-time.time = omega arith in
    let step = climbed_from-step c.args.self.now.high c.args.self.now.gap c.args.self.now.ups.now in (
      step _ _ _ _ _ left c.goes_up-up.ensures c.climb.ensures c.loop-time.invariant.0,
      step _ _ _ _ _ left c.goes_up-up.ensures c.climb-in-loop-time.ensures c.loop-time.invariant.1,
    )
