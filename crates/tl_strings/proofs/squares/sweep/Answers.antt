use Rattle.std.proofs.Common.{◌+◌, subst, get_or, ◌∙◌, arith}
use Rattle.tl_strings.specs.Words.{IsSquareWord}
use Rattle.tl_strings.proofs.Swept.{swept-all, swept-next, swept-pair}
use Rattle.tl_strings.proofs.squares.sweep.Goals as goal

pub pairs-preserved : goal.pairs-preserved
pairs-preserved c =
    let a = c.args in
    let p = a.planes in
    let at = c.pairs.at in
    let so_far = c.pairs.invariant.swept in
    let pair = c.square_pair-pair.result in
    record {
      from = omega arith;
      within = omega arith;
      len = omega arith;
      swept = swept-pair _ a.first at pair a.strings.now c.pairs.strings c.store.new.words c.pairs.invariant.from so_far c.store.ensures.stored
          (λ lane below. subst (λ here. IsSquareWord a.is_odd a.height a.others.now p.coins.now p.lows.now p.free.now here (at + lane) (get_or pair lane 0))
          (c.load-here.ensures lane below ∙ so_far.rest (at + lane) (omega arith)) (c.square_pair-pair.ensures lane below));
    }

pub returns-then-at-end-clause-swept : goal.returns-then-at-end-clause-swept
returns-then-at-end-clause-swept c =
    let a = c.args in
    let p = a.planes in
    let at = c.pairs.at in
    let so_far = c.pairs.invariant.swept in
    swept-all _ _ _ _ _ _ (omega arith)
    (swept-next _ a.first at c.square_at.result a.strings.now c.pairs.strings c.pairs.invariant.from (omega arith) so_far
    (subst (λ here. IsSquareWord a.is_odd a.height a.others.now p.coins.now p.lows.now p.free.now here at c.square_at.result) (so_far.rest at (omega arith)) c.square_at.ensures))

pub returns-else-at-end-clause-swept : goal.returns-else-at-end-clause-swept
returns-else-at-end-clause-swept c = swept-all _ _ _ _ _ _ (omega arith) c.pairs.invariant.swept
