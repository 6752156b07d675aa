use Rattle.std.proofs.Common.{◌+◌, ◌/◌, ◌==◌, ◌∙◌, ap, Bool, arith, rules, w32}
use mir.Val.{SFits}
use Rattle.std.proofs.lemmas.Int.{to_z-of_z}
use Rattle.std.proofs.lemmas.Nat.Bits.{shr_and_one}
use Rattle.tl_sweep.specs.Places.{triangle_stepped}
use Rattle.tl_sweep.proofs.Sixths.{sixths-done, sixths-left}
use Rattle.tl_sweep.proofs.triangles.step_row.Goals as goal

pub sixths-preserved : goal.sixths-preserved
sixths-preserved c =
    let t = c.sixths.t in
    let fits : SFits w32 c.triangle_height.result = search rules in
    record {
      sixth = omega (arith, c.sixths.invariant.sixth, c.requires.first);
      done = sixths-done c.args.numbers.now c.args.width c.args.start c.args.first c.args.bits t c.sixths.out _ c.requires.first c.sixths.invariant.sixth c.sixths-test.true
          (to_z-of_z w32 c.triangle_height.result fits ∙ c.triangle_height.ensures
          ∙ ap (λ (b : Bool). triangle_stepped c.args.numbers.now c.args.width (c.args.start + t) b) (ap (λ n. n == 1) (shr_and_one c.args.bits (t / 2))))
          c.sixths.invariant.done c.sixths.invariant.left;
      left = sixths-left c.args.numbers.now c.args.width c.args.start c.args.first c.args.bits t c.sixths.out _ c.requires.first c.sixths.invariant.sixth c.sixths-test.true c.sixths.invariant.left;
    }
