use Rattle.std.proofs.Common.{Bool, sym, ◌∙◌, ap}
use Rattle.tl_sweep.specs.Places.{triangle_stepped}
use Rattle.tl_sweep.proofs.Rows.{lowered-three, lowered-three-fits, raised-three, raised-three-fits}
use Rattle.tl_sweep.proofs.triangles.triangle_height.Goals as goal

pub returns-then-bit : goal.returns-then-bit
returns-then-bit c =
    let s = c.requires.small in
    raised-three _ _ _ c.least-high.result (s _) (s _) (s _) c.least-high.ensures ∙ ap (λ (b : Bool). triangle_stepped c.args.numbers.now c.args.width c.args.place b) (sym c.if-bit.true)

pub returns-else-bit : goal.returns-else-bit
returns-else-bit c =
    let s = c.requires.small in
    lowered-three _ _ _ c.greatest-low.result (s _) (s _) (s _) c.greatest-low.ensures ∙ ap (λ (b : Bool). triangle_stepped c.args.numbers.now c.args.width c.args.place b) (sym c.if-bit.false)

pub overflow_add-result : goal.overflow_add-result
overflow_add-result c = let s = c.requires.small in raised-three-fits _ _ _ c.least-high.result (s _) (s _) (s _) c.least-high.ensures

pub overflow_sub-result : goal.overflow_sub-result
overflow_sub-result c = let s = c.requires.small in lowered-three-fits _ _ _ c.greatest-low.result (s _) (s _) (s _) c.greatest-low.ensures
