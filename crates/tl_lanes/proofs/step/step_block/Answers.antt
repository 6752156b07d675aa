use Rattle.std.proofs.Common.{◌≡◌, ◌<◌, ℕ, ◌∙◌, ap, get_or, pos, arith}
use Rattle.std.proofs.lemmas.Simd.{put_chunk_whole}
use Rattle.std.specs.Simd.Lanes.{put_chunk}
use Rattle.tl_lanes.specs.Lanes.{by_bit}
use Rattle.tl_lanes.proofs.OverUnder.{passed, passed-fits}
use Rattle.tl_lanes.proofs.Steps.{block-steps}
use Rattle.tl_lanes.proofs.step.step_block.Goals as goal

pub by_bits-requires-clause-low : goal.by_bits-requires-clause-low
by_bits-requires-clause-low c = passed-fits c.under_greater-low.result c.under_greater-low.ensures.fits

pub by_bits-requires-clause-high : goal.by_bits-requires-clause-high
by_bits-requires-clause-high c = passed-fits c.over_lesser-high.result c.over_lesser-high.ensures.fits

pub by_bits-requires-2-clause-low : goal.by_bits-requires-2-clause-low
by_bits-requires-2-clause-low c = passed-fits c.load.result c.load.ensures.fits

pub by_bits-requires-2-clause-high : goal.by_bits-requires-2-clause-high
by_bits-requires-2-clause-high c = passed-fits c.by_bits.result c.by_bits.ensures.fits

pub returns : goal.returns
returns c j within =
    let out = c.args.out.now in
    let old = c.args.old.now in
    let b = c.args.beside.now in
    let low = c.under_greater-low.result in
    let high = c.over_lesser-high.result in
    let once = c.by_bits.result in
    let both = c.by_bits-2.result in
    let first : (i : ℕ) → i < 4 → get_or once i (pos 0) ≡ by_bit low high c.args.bits i =
    λ i small. c.by_bits.ensures.each i small ∙ (λ t. by_bit (passed low c.under_greater-low.ensures.fits t) (passed high c.over_lesser-high.ensures.fits t) c.args.bits i) in
    let second : (i : ℕ) → i < 4 → get_or both i (pos 0) ≡ by_bit old once c.args.class i =
    λ i small. c.by_bits-2.ensures.each i small
    ∙ (λ t. by_bit ((passed c.load.result c.load.ensures.fits ∙ c.load.ensures.same) t) (passed once c.by_bits.ensures.fits t) c.args.class i) in
    ap (λ zs. get_or (put_chunk 0 out zs) j (pos 0)) (passed both c.by_bits-2.ensures.fits)
    ∙ ap (λ zs. get_or zs j (pos 0)) (put_chunk_whole out both (omega arith))
    ∙ block-steps old b.from.now b.from_other.now b.to.now b.to_other.now low high once both c.args.bits c.args.class c.requires.beside
    c.over_lesser-high.ensures.value c.under_greater-low.ensures.value first second j within
