use Rattle.std.proofs.Common.{◌≡◌, ℕ, length, subst, arith}
use Rattle.tl_band.specs.declared.band.Band.{Band}
use Rattle.tl_crew.proofs.Stored.{AreStored, stored-next, stored-none, stored-outside, stored-own}
use Rattle.tl_crew.proofs.Stacked.{bands-end}
use Rattle.tl_crew.proofs.share.store_bands.Goals as goal

pub loop-j-init : goal.loop-j-init
loop-j-init g c = record {
  size = c.requires.size;
  stored = stored-none (λ (b : Band). b.upper.own) (λ (b : Band). b.lower.beside) (g.S.Sweeping.course c.args.stretch.now) c.args.bands.now c.args.both.now;
}

pub loop-j-preserved : goal.loop-j-preserved
loop-j-preserved g c = record {
  size = c.store.ensures.size;
  stored =
      stored-next (λ (b : Band). b.upper.own) (λ (b : Band). b.lower.beside) (g.S.Sweeping.course c.args.stretch.now) c.args.bands.now c.loop-j.j c.index-bands-j.result
      c.index-bands-j.is c.loop-j-test.true c.args.both.now c.loop-j.both c.store.new.both c.store.ensures.own c.store.ensures.outside c.loop-j.invariant.stored;
}

pub returns-clause-own : goal.returns-clause-own
returns-clause-own g c first end are =
    let course = g.S.Sweeping.course c.args.stretch.now in
    let bands = c.args.bands.now in
    let at : c.loop-j.j ≡ length bands = omega (arith, c.loop-j-test.false, c.loop-j.auto.j-end) in
    stored-own (λ (b : Band). b.upper.own) (λ (b : Band). b.lower.beside) course bands first end are.stacked c.args.both.now c.loop-j.both
    (subst (λ (n : ℕ). AreStored (λ (b : Band). b.upper.own) (λ (b : Band). b.lower.beside) course bands n c.args.both.now c.loop-j.both) at c.loop-j.invariant.stored)
    (bands-end course.layout first end bands are)

pub returns-clause-outside : goal.returns-clause-outside
returns-clause-outside g c first end are =
    let course = g.S.Sweeping.course c.args.stretch.now in
    let bands = c.args.bands.now in
    let at : c.loop-j.j ≡ length bands = omega (arith, c.loop-j-test.false, c.loop-j.auto.j-end) in
    stored-outside (λ (b : Band). b.upper.own) (λ (b : Band). b.lower.beside) course bands first end are.stacked c.args.both.now c.loop-j.both
    (subst (λ (n : ℕ). AreStored (λ (b : Band). b.upper.own) (λ (b : Band). b.lower.beside) course bands n c.args.both.now c.loop-j.both) at c.loop-j.invariant.stored)
