use Rattle.std.proofs.Common.{◌≡◌, ◌∙◌, ◌+ℤ◌, pos, sym, subst, arith, w32, SFits}
use Rattle.std.specs.Simd.Lanes.{Each1, zip2}
use Rattle.tl_lanes.specs.Lanes.{over}
use Rattle.tl_lanes.proofs.OverUnder.{each-of_all, each-over, lanes-over, lanes-over-asked}
use Rattle.tl_lanes.proofs.step.over_lesser.Goals as goal

pub overflow_add-result : goal.overflow_add-result
overflow_add-result c =
    lanes-over-asked 4 c.load-left.result c.load-right.result c.load-left.ensures.fits c.load-right.ensures.fits
    (each-of_all (λ z. SFits w32 (z +ℤ pos 1)) c.load-left.result c.args.from.now c.load-left.ensures.same c.requires.from_fits)
    (each-of_all (λ z. SFits w32 (z +ℤ pos 1)) c.load-right.result c.args.from_other.now c.load-right.ensures.same c.requires.from_other_fits)

pub returns-clause-value : goal.returns-clause-value
returns-clause-value c =
    lanes-over 4 c.load-left.result c.load-right.result (omega arith) c.load-left.ensures.fits c.load-right.ensures.fits
    (each-of_all (λ z. SFits w32 (z +ℤ pos 1)) c.load-left.result c.args.from.now c.load-left.ensures.same c.requires.from_fits)
    (each-of_all (λ z. SFits w32 (z +ℤ pos 1)) c.load-right.result c.args.from_other.now c.load-right.ensures.same c.requires.from_other_fits)
    ∙ (λ i. zip2 over (c.load-left.ensures.same i) (c.load-right.ensures.same i))

pub returns-clause-fits : goal.returns-clause-fits
returns-clause-fits c =
    let left = each-of_all (λ z. SFits w32 (z +ℤ pos 1)) c.load-left.result c.args.from.now c.load-left.ensures.same c.requires.from_fits in
    let right = each-of_all (λ z. SFits w32 (z +ℤ pos 1)) c.load-right.result c.args.from_other.now c.load-right.ensures.same c.requires.from_other_fits in
    subst (Each1 (SFits w32)) (sym (lanes-over 4 c.load-left.result c.load-right.result (omega arith) c.load-left.ensures.fits c.load-right.ensures.fits left right))
    (each-over c.load-left.result c.load-right.result left right)
