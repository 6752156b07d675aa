use Rattle.std.proofs.Common.{◌+◌, ◌-◌, ◌∙◌, arith}
use Rattle.tl_lanes.specs.Lanes.{by_bit}
use Rattle.tl_lanes.proofs.Choices.{by_bit-part, placed-part}
use Rattle.tl_lanes.proofs.blend.blend_word.Goals as goal

pub vectors-preserved : goal.vectors-preserved
vectors-preserved c =
    let i = c.vectors.done in
    let low = c.args.low.now in
    let high = c.args.high.now in
    let word = c.args.word in
    record {
      within = omega arith;
      so_far = placed-part i (i + 4 - i) 4 c.vectors.out c.blend_block.new.out (by_bit low high word) (omega arith) (omega arith) c.vectors.invariant.so_far
          (λ j small. c.blend_block.ensures j small ∙ by_bit-part low high word i (i + 4 - i) (i + 4 - i) j (omega arith) (omega arith));
    }
