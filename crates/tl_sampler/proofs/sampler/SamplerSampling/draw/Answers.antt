use Rattle.std.proofs.Common.{◌≡◌, ℕ, length, sym, ◌∙◌, ap, subst}
use Rattle.tl_definitions.specs.Region.{inner_corners}
use Rattle.tl_definitions.specs.Sweep.{IsLate}
use Rattle.tl_bits.specs.Bits.{bits_of, words_for}
use Rattle.tl_bits.specs.Sources.{Numbering}
use Rattle.tl_height.specs.HeightFunction.{HeightFunction}
use Rattle.tl_packed.specs.PackedTiling.{PackedTiling}
use Rattle.tl_sampler.specs.Drawn.{AreHeightsOfSample}
use Rattle.tl_sampler.proofs.Samples.{drawn-late, drawn-sample}
use Rattle.tl_sampler.proofs.sampler.SamplerSampling.draw.Goals as goal
use Rattle.tl_sampler.proofs.sampler.SamplerSampling.draw.Goals.{After-set_bits}

one_region : (c : After-set_bits) → c.set_bits.new.self.low.heights.region ≡ c.self.inside.sample.region
one_region c = ap (λ (t : PackedTiling). t.heights.region) c.set_bits.ensures.low ∙ sym c.self.invariant.sample_region

numbered : (c : After-set_bits)
    → c.set_bits.new.self.kept.bits ≡ record { seed = c.args.seed; sample = c.args.number; words = words_for (length (inner_corners c.self.inside.sample.region)) }
numbered c =
    c.set_bits.ensures.bits ∙ c.new.ensures
    ∙ ap (λ (n : ℕ). let b : Numbering = record { seed = c.args.seed; sample = c.args.number; words = n } in b) c.words_of-words.ensures.words

pub returns-clause-at : goal.returns-clause-at
returns-clause-at c T at =
    let chain = c.set_bits.new.self in
    let R = c.self.inside.sample.region in
    let set = (goal.at.returns-clause-at c).After-set_bits in
    subst (λ (h : HeightFunction). AreHeightsOfSample h.region (bits_of h.region c.args.seed c.args.number) c.args.bound T c.unpack.new.heights) c.self.view_is
    (subst (λ (h : HeightFunction). AreHeightsOfSample R (bits_of R c.args.seed c.args.number) c.args.bound T h) (sym c.unpack.ensures.heights)
    (drawn-sample chain.low chain.high R chain.kept.bits c.args.seed c.args.number (one_region set) c.words_of-words.ensures.accepted (numbered set) c.args.bound T
    c.draw-drawn.new.low ((c.draw-drawn.ensures.at T).0 at) (c.draw-drawn.ensures.low_gathered T at) c.draw-drawn.ensures.low_lawful))

pub returns-clause-late : goal.returns-clause-late
returns-clause-late c late =
    let chain = c.set_bits.new.self in
    let R = c.self.inside.sample.region in
    let set = (goal.at.returns-clause-late c).After-set_bits in
    subst (λ (h : HeightFunction). IsLate h.region (bits_of h.region c.args.seed c.args.number) c.args.bound) c.self.view_is
    (drawn-late chain.low chain.high R chain.kept.bits c.args.seed c.args.number (one_region set) c.words_of-words.ensures.accepted (numbered set) c.args.bound
    (c.draw-drawn.ensures.late.0 late))
