use Rattle.std.proofs.Common.{subst, refl, arith}
use Rattle.tl_strings.specs.Words.{IsHighWord, IsLowWord}
use Rattle.tl_strings.proofs.Swept.{swept-next, swept-none}
use Rattle.tl_strings.proofs.ends.part.Goals as goal

pub loop-at-init : goal.loop-at-init
loop-at-init c = record { low_swept = swept-none _ c.args.first c.args.low.now; high_swept = swept-none _ c.args.first c.args.high.now }

pub loop-at-preserved : goal.loop-at-preserved
loop-at-preserved c =
    let a = c.args in
    let at = c.loop-at.at in
    let lows = c.loop-at.invariant.low_swept in
    let highs = c.loop-at.invariant.high_swept in
    record {
      low_swept = swept-next _ a.first at c.low_at.result a.low.now c.loop-at.low (omega arith) (omega arith) lows
          (subst (λ here. IsLowWord a.height a.joined.now a.lows.now here at c.low_at.result) (lows.rest at (omega arith)) (c.low_at.ensures a.height));
      high_swept = swept-next _ a.first at c.high_at.result a.high.now c.loop-at.high (omega arith) (omega arith) highs
          (subst (λ here. IsHighWord a.height a.joined.now a.lows.now here at c.high_at.result) (highs.rest at (omega arith)) c.high_at.ensures);
    }

pub returns-clause-low : goal.returns-clause-low
returns-clause-low c row slot from within = c.loop-at.invariant.low_swept.made _ from (omega arith) row slot refl

pub returns-clause-low_behind : goal.returns-clause-low_behind
returns-clause-low_behind c at past = c.loop-at.invariant.low_swept.rest at (omega arith)

pub returns-clause-high : goal.returns-clause-high
returns-clause-high c row slot from within = c.loop-at.invariant.high_swept.made _ from (omega arith) row slot refl

pub returns-clause-high_behind : goal.returns-clause-high_behind
returns-clause-high_behind c at past = c.loop-at.invariant.high_swept.rest at (omega arith)
