use Rattle.std.proofs.Common.{◌+◌, ◌-◌, ◌∙◌, w32, SFits, to_z, of_z, rules, arith}
use Rattle.std.proofs.lemmas.Int.{to_z-of_z}
use Rattle.tl_lanes.specs.Lanes.{step_or_old}
use Rattle.tl_lanes.proofs.Choices.{placed-next, placed-part}
use Rattle.tl_lanes.proofs.Steps.{step-part}
use Rattle.tl_lanes.proofs.step.lanes_step.Goals as goal

pub vectors-preserved : goal.vectors-preserved
vectors-preserved c =
    let i = c.vectors.done in
    let old = c.args.old.now in
    let beside = c.args.beside.now in
    let f = step_or_old old beside.from.now beside.from_other.now beside.to.now beside.to_other.now c.args.bits c.args.class in
    record {
      within = omega arith;
      so_far = placed-part i (i + 4 - i) 4 c.vectors.out c.step_block.new.out f (omega arith) (omega arith) c.vectors.invariant.so_far
          (λ j small. c.step_block.ensures j small ∙ step-part old beside.from.now beside.from_other.now beside.to.now beside.to_other.now c.args.bits c.args.class i (i + 4 - i) j (omega arith));
    }

pub loop-place-preserved : goal.loop-place-preserved
loop-place-preserved c =
    let old = c.args.old.now in
    let beside = c.args.beside.now in
    let f = step_or_old old beside.from.now beside.from_other.now beside.to.now beside.to_other.now c.args.bits c.args.class in
    let fits : SFits w32 c.step_place.result = search rules in
    placed-next c.loop-place.place c.loop-place.out (to_z w32 (of_z w32 c.step_place.result)) f (omega arith) (to_z-of_z w32 c.step_place.result fits ∙ c.step_place.ensures) c.loop-place.invariant
