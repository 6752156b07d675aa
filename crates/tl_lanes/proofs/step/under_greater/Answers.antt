use Rattle.std.proofs.Common.{◌≡◌, ◌∙◌, ◌-ℤ◌, pos, sym, subst, arith, w32, SFits}
use Rattle.std.specs.Simd.Lanes.{Each1, zip2}
use Rattle.tl_lanes.specs.Lanes.{under}
use Rattle.tl_lanes.proofs.OverUnder.{each-of_all, each-under, lanes-under, lanes-under-asked}
use Rattle.tl_lanes.proofs.step.under_greater.Goals as goal

pub overflow_sub-result : goal.overflow_sub-result
overflow_sub-result c =
    lanes-under-asked 4 c.load-left.result c.load-right.result c.load-left.ensures.fits c.load-right.ensures.fits
    (each-of_all (λ z. SFits w32 (z -ℤ pos 1)) c.load-left.result c.args.to.now c.load-left.ensures.same c.requires.to_fits)
    (each-of_all (λ z. SFits w32 (z -ℤ pos 1)) c.load-right.result c.args.to_other.now c.load-right.ensures.same c.requires.to_other_fits)

pub returns-clause-value : goal.returns-clause-value
returns-clause-value c =
    lanes-under 4 c.load-left.result c.load-right.result (omega arith) c.load-left.ensures.fits c.load-right.ensures.fits
    (each-of_all (λ z. SFits w32 (z -ℤ pos 1)) c.load-left.result c.args.to.now c.load-left.ensures.same c.requires.to_fits)
    (each-of_all (λ z. SFits w32 (z -ℤ pos 1)) c.load-right.result c.args.to_other.now c.load-right.ensures.same c.requires.to_other_fits)
    ∙ (λ i. zip2 under (c.load-left.ensures.same i) (c.load-right.ensures.same i))

pub returns-clause-fits : goal.returns-clause-fits
returns-clause-fits c =
    let left = each-of_all (λ z. SFits w32 (z -ℤ pos 1)) c.load-left.result c.args.to.now c.load-left.ensures.same c.requires.to_fits in
    let right = each-of_all (λ z. SFits w32 (z -ℤ pos 1)) c.load-right.result c.args.to_other.now c.load-right.ensures.same c.requires.to_other_fits in
    subst (Each1 (SFits w32)) (sym (lanes-under 4 c.load-left.result c.load-right.result (omega arith) c.load-left.ensures.fits c.load-right.ensures.fits left right))
    (each-under c.load-left.result c.load-right.result left right)
