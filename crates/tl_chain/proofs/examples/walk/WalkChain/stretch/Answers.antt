use Rattle.std.proofs.Common.{◌≡◌, ℕ, zero, suc, ◌-◌, ◌<◌, Bool, List, arith, ap, ◌∙◌}
use Rattle.tl_chain.specs.Walk.{stepped, goes_up, walked}
use Rattle.tl_chain.proofs.examples.walk.WalkChain.stretch.Goals as goal

-- one step more, and what is left after it ends where it did before
walked-step : (top : ℕ) (ups : List Bool) (time place next end : ℕ) (up : Bool) → 0 < time → up ≡ goes_up ups (time - 1)
    → next ≡ stepped top up place → walked top ups time place ≡ end → walked top ups (time - 1) next ≡ end
walked-step top ups zero place next end up h b e w = absurd (omega (arith, h))
walked-step top ups (suc t) place next end up h b e w =
    let before : suc t - 1 ≡ t = omega arith in
    let bit : up ≡ goes_up ups t = b ∙ ap (goes_up ups) before in
    rw before (ap (walked top ups t) (e ∙ ap (λ u. stepped top u place) bit) ∙ w)

pub loop-time-preserved : goal.loop-time-preserved
loop-time-preserved c =
    let left : 0 < c.loop-time.time = omega arith in (
      walked-step c.args.self.now.top c.args.self.now.ups.now _ _ _ _ _ left c.goes_up-up.ensures c.step.ensures c.loop-time.invariant.0,
      walked-step c.args.self.now.top c.args.self.now.ups.now _ _ _ _ _ left c.goes_up-up.ensures c.step-in-loop-time.ensures c.loop-time.invariant.1,
    )
