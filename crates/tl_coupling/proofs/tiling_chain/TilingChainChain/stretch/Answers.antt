use Rattle.std.proofs.Common.{rules, ◌≡◌, ℕ, ◌+◌, ◌-◌, ◌<◌, List, length, ◌∙◌, ap, subst, arith}
use Rattle.std.proofs.lemmas.Grind.{common_steps}
use Rattle.std.specs.Prelude.{slice_index, if◌then◌else◌}
use Rattle.tl_definitions.specs.Region.{inner_corners}
use Rattle.tl_bits.specs.Bits.{bit_at, words_for}
use Rattle.tl_sweep.specs.Sweeps.{bit_in}
use Rattle.tl_coupling.specs.Carried.{AgreeWithin, carried_numbers}
use Rattle.tl_coupling.proofs.ReadWords.{carried-step, read-bits, read-now}
use Rattle.tl_coupling.proofs.tiling_chain.TilingChainChain.stretch.Given
use Rattle.tl_coupling.proofs.tiling_chain.TilingChainChain.stretch.Goals as goal

pub loop-earlier-preserved : goal.loop-earlier-preserved
loop-earlier-preserved g c =
    let word_at = g.B.Bits.word_at c.args.self.now.bits in
    let time : ℕ = c.loop-earlier.earlier - 1 + 1 in
    let some : 0 < c.loop-earlier.earlier = omega arith in
    let kept = c.loop-earlier.invariant in
    let same : c.deref.result.now ≡ c.read_words.new.words = grind (arith, common_steps) in
    let size : length c.deref.result.now ≡ words_for (length (inner_corners c.loop-earlier.low.region)) = search rules in
    let read : (w : ℕ) → w < length c.deref.result.now → slice_index c.deref.result.now w ≡ word_at time w =
    read-now c.deref.result.now c.read_words.new.words (g.B.Bits.word_at c.loop-earlier.self.bits) word_at time same kept.same_function c.read_words.ensures.read in
    let agree : AgreeWithin (length (inner_corners c.loop-earlier.low.region)) (bit_in c.deref.result.now) (bit_at word_at time) =
    read-bits (length (inner_corners c.loop-earlier.low.region)) c.deref.result.now word_at time size read in
    let region = c.loop-earlier.self.low.region in
    let here = c.loop-earlier.low in
    record {
      same_low = kept.same_low;
      same_high = kept.same_high;
      low_region = c.sweep_both-met.ensures.low_region ∙ kept.low_region;
      high_region = c.sweep_both-met.ensures.high_region ∙ kept.low_region;
      low_left = carried-step region here.region (bit_at word_at) c.loop-earlier.earlier here.numbers c.sweep_both-met.new.low.numbers
          (carried_numbers region (bit_at word_at) c.args.from c.args.low.now.numbers) kept.low_region some
          (c.sweep_both-met.ensures.low (bit_at word_at time) agree) kept.low_left;
      high_left = carried-step region here.region (bit_at word_at) c.loop-earlier.earlier (if c.loop-earlier.met then here.numbers else c.loop-earlier.high.numbers)
          (if c.sweep_both-met.result then c.sweep_both-met.new.low.numbers else c.sweep_both-met.new.high.numbers)
          (carried_numbers region (bit_at word_at) c.args.from c.args.high.now.numbers) kept.low_region some
          (c.sweep_both-met.ensures.high (bit_at word_at time) agree) kept.high_left;
      same_function = c.read_words.ensures.same_function ∙ kept.same_function;
    }
