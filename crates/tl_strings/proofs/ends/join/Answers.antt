use Rattle.std.proofs.Common.{◌≡◌, refl, sym, ◌∙◌, arith}
use Rattle.tl_strings.specs.Strings.{word_place}
use Rattle.tl_strings.proofs.Places.{string-at}
use Rattle.tl_strings.proofs.Swept.{swept-all, swept-next, swept-none}
use Rattle.tl_strings.proofs.ends.join.Goals as goal

pub loop-at-init : goal.loop-at-init
loop-at-init c = swept-none _ 0 c.args.both.now

pub loop-at-preserved : goal.loop-at-preserved
loop-at-preserved c = swept-next _ 0 c.loop-at.at c.joined_first.result c.args.both.now c.loop-at.both (omega arith) (omega arith) c.loop-at.invariant c.joined_first.ensures

pub loop-at-2-init : goal.loop-at-2-init
loop-at-2-init c = swept-all _ _ _ _ _ _ (omega arith) c.loop-at.invariant

pub loop-at-2-preserved : goal.loop-at-2-preserved
loop-at-2-preserved c =
    swept-next _ 0 c.loop-at-2.at c.joined_next.result c.args.both.now c.loop-at-2.both (omega arith) (omega arith) c.loop-at-2.invariant c.joined_next.ensures

pub returns-clause-first : goal.returns-clause-first
returns-clause-first c row low within =
    let a = c.args in
    let place : word_place a.height row 0 ≡ row = omega arith in
    sym (string-at c.loop-at-2.both a.height row 0 row place)
    ∙ (c.loop-at-2.invariant.made row (omega arith) (omega arith)).first low
    ∙ string-at a.low.now a.height row 0 row place

pub returns-clause-joined : goal.returns-clause-joined
returns-clause-joined c row slot behind within = (c.loop-at-2.invariant.made _ (omega arith) (omega arith)).each row slot refl behind
