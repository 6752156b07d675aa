use Rattle.std.proofs.Common.{◌+◌, ◌-◌, ◌∙◌, arith}
use Rattle.std.proofs.lemmas.Simd.{length-chunk}
use Rattle.tl_lanes.specs.Lanes.{chosen}
use Rattle.tl_lanes.proofs.Choices.{by_bit-chosen, placed-part}
use Rattle.tl_lanes.proofs.blend.lanes_blend.Goals as goal

pub words-preserved : goal.words-preserved
words-preserved c =
    let i = c.words.done in
    let low = c.args.low.now in
    let high = c.args.high.now in
    let words = c.args.bits.now in
    record {
      within = omega arith;
      whole = omega arith;
      so_far = placed-part i (i + 32 - i) 32 c.words.out c.blend_word.new.out (chosen low high words) (omega arith) (omega arith) c.words.invariant.so_far
          (λ j small. c.blend_word.ensures j (omega (arith, length-chunk i (i + 32 - i) c.words.out (omega arith))) ∙ by_bit-chosen low high words i (i + 32 - i) (i + 32 - i) j c.words.invariant.whole small (omega arith) (omega arith));
    }
