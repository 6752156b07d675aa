use Rattle.std.proofs.Common.{◌≡◌, sym, ◌∙◌, ap, subst}
use Rattle.tl_bits.specs.Bits.{bit_at}
use Rattle.tl_bits.specs.Sources.{numbered_word}
use Rattle.tl_chain.specs.Chain.{IsLawfulChain}
use Rattle.tl_chain.proofs.Ends.{AllCarriedTo-low, AreEndsCarried, ChainGathers-one, same-gathered}
use Rattle.tl_packed.specs.PackedTiling.{PackedTiling}
use Rattle.tl_packed_chain.specs.Laws.{IsLawfulChain-packed}
use Rattle.tl_banded.specs.Banded.{sampled}
use Rattle.tl_banded.proofs.chain.BandedChain.gathers.Given
use Rattle.tl_banded.proofs.chain.BandedChain.gathers.Goals as goal
use Rattle.tl_banded.proofs.chain.BandedChain.gathers.Goals.{After-same}

lawful : (g : Given.Over) (c : After-same g) → IsLawfulChain (sampled c.args.self.now.plain.low c.args.self.now.plain.high c.args.self.now.bits)
lawful g c =
    let plain = c.args.self.now.plain in
    IsLawfulChain-packed plain.low plain.high (bit_at (numbered_word c.args.self.now.bits)) plain.one_layout plain.one_region plain.bottom plain.top plain.accepted

carried : (g : Given.Over) (c : After-same g)
    → AreEndsCarried (sampled c.args.self.now.plain.low c.args.self.now.plain.high c.args.self.now.bits) c.args.from c.stretch.new.low c.stretch.new.high
carried g c =
    let chain = c.args.self.now in
    let told = c.ends.ensures in
    record {
      low_is = subst (λ (t : PackedTiling). c.stretch.new.low ≡ (sampled t chain.plain.high chain.bits).carried c.ends.new.low c.args.from) (sym told.same_meaning.low) c.stretch.ensures.low
          ∙ ap (λ (s : PackedTiling). (sampled chain.plain.low chain.plain.high chain.bits).carried s c.args.from) told.low;
      high_is = subst (λ (t : PackedTiling). c.stretch.new.high ≡ (sampled t chain.plain.high chain.bits).carried c.ends.new.high c.args.from) (sym told.same_meaning.low) c.stretch.ensures.high
          ∙ ap (λ (s : PackedTiling). (sampled chain.plain.low chain.plain.high chain.bits).carried s c.args.from) told.high;
    }

pub returns-clause-gathered : goal.returns-clause-gathered
returns-clause-gathered g c met =
    let chain = c.args.self.now in
    AllCarriedTo-low (sampled chain.plain.low chain.plain.high chain.bits) c.args.from _ _ (lawful g c) c.requires.at_least_1 c.requires.in_range (carried g c) (c.same.ensures.0 met)

pub returns-clause-gathers : goal.returns-clause-gathers
returns-clause-gathers g c =
    let chain = c.args.self.now in
    let M = sampled chain.plain.low chain.plain.high chain.bits in (
      λ met. ChainGathers-one M c.args.from c.stretch.new.low (returns-clause-gathered g c met),
      λ all. c.same.ensures.1 (same-gathered M c.args.from _ _ (lawful g c) (carried g c) all),
    )

pub returns-clause-low_lawful : goal.returns-clause-low_lawful
returns-clause-low_lawful g c =
    let chain = c.args.self.now in
    let M = sampled chain.plain.low chain.plain.high chain.bits in
    let laws = lawful g c in
    subst (λ (s : PackedTiling). M.lawful s) (sym (carried g c).low_is) (laws.stays c.args.from M.low c.requires.at_least_1 c.requires.in_range laws.low_lawful)
