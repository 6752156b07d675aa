use Rattle.std.proofs.Common.{◌≡◌, List, ℤ, sym, ◌∙◌, ap, subst}
use Rattle.tl_definitions.specs.Region.{Region}
use Rattle.tl_bits.specs.Bits.{bit_at}
use Rattle.tl_bits.specs.Sources.{numbered_word}
use Rattle.tl_layout.specs.declared.layout.Layout.{Layout}
use Rattle.tl_packed.specs.OfClasses.{AreLows}
use Rattle.tl_packed.specs.PackedTiling.{PackedTiling}
use Rattle.tl_packed.specs.Packs.{HoldEnds}
use Rattle.tl_packed.specs.declared.strings.Strings.{Strings}
use Rattle.tl_coupling.specs.Carried.{carried_numbers}
use Rattle.tl_banded.proofs.Ends.{carries-same, lows-same}
use Rattle.tl_banded.proofs.chain.BandedChain.stretch.Given
use Rattle.tl_banded.proofs.chain.BandedChain.stretch.Goals as goal
use Rattle.tl_banded.proofs.chain.BandedChain.stretch.Goals.{After-lows}

held : (g : Given.Over) (c : After-lows g)
    → HoldEnds c.args.low.now.heights.region c.args.low.now.layout c.carry-carried.new.both
    (carried_numbers c.args.low.now.heights.region (bit_at (numbered_word c.args.self.now.bits)) c.args.from c.args.low.now.heights.numbers)
    (carried_numbers c.args.low.now.heights.region (bit_at (numbered_word c.args.self.now.bits)) c.args.from c.args.high.now.heights.numbers)
held g c =
    let chain = c.args.self.now in
    let low = c.args.low.now in
    carries-same chain.ground.region.now low.heights.region chain.ground.layout low.layout (bit_at (numbered_word chain.bits)) c.args.from c.join_ends.new.both c.carry-carried.new.both
    (c.requires.low_belongs.1 ∙ sym chain.one_region) (c.requires.low_belongs.0 ∙ sym chain.one_layout) c.in-Ok.ensures.carried low.heights.numbers c.args.high.now.heights.numbers c.join_ends.ensures

pub part_ends-requires-clause-lows : goal.part_ends-requires-clause-lows
part_ends-requires-clause-lows g c =
    let chain = c.args.self.now in
    let low = c.args.low.now in
    subst (λ (s : Strings). AreLows low.heights.region low.layout s) (sym c.lows.ensures)
    (lows-same chain.ground.region.now low.heights.region chain.ground.layout low.layout chain.ground.slots (c.requires.low_belongs.1 ∙ sym chain.one_region)
    (c.requires.low_belongs.0 ∙ sym chain.one_layout) chain.ground.slots_of)

pub part_ends-requires-clause-held : goal.part_ends-requires-clause-held
part_ends-requires-clause-held g c = (_, _, held g (goal.at.part_ends-requires-clause-held g c).After-lows)

pub returns-in-Ok-clause-low : goal.returns-in-Ok-clause-low
returns-in-Ok-clause-low g c =
    let low = c.args.low.now in
    let bits = bit_at (numbered_word c.args.self.now.bits) in
    c.part_ends.ensures.low _ _ (held g (goal.at.returns-in-Ok-clause-low g c).After-lows)
    ∙ (λ i. record { layout = low.layout; heights = record { region = low.heights.region; numbers = carried_numbers (c.requires.low_belongs.1 i) bits c.args.from low.heights.numbers } })

pub returns-in-Ok-clause-high : goal.returns-in-Ok-clause-high
returns-in-Ok-clause-high g c =
    let high = c.args.high.now in
    let bits = bit_at (numbered_word c.args.self.now.bits) in
    c.part_ends.ensures.high _ _ (held g (goal.at.returns-in-Ok-clause-high g c).After-lows)
    ∙ (λ i. record {
      layout = (c.requires.low_belongs.0 ∙ sym c.requires.high_belongs.0) i;
      heights = record {
        region = (c.requires.low_belongs.1 ∙ sym c.requires.high_belongs.1) i;
        numbers = carried_numbers (c.requires.low_belongs.1 i) bits c.args.from high.heights.numbers;
      };
    })

pub returns-in-Ok-clause-low_belongs : goal.returns-in-Ok-clause-low_belongs
returns-in-Ok-clause-low_belongs g c =
    let parted = c.part_ends.ensures.low _ _ (held g (goal.at.returns-in-Ok-clause-low_belongs g c).After-lows) in
    (ap (λ (t : PackedTiling). t.layout) parted ∙ c.requires.low_belongs.0, ap (λ (t : PackedTiling). t.heights.region) parted ∙ c.requires.low_belongs.1)

pub returns-in-Ok-clause-high_belongs : goal.returns-in-Ok-clause-high_belongs
returns-in-Ok-clause-high_belongs g c =
    let parted = c.part_ends.ensures.high _ _ (held g (goal.at.returns-in-Ok-clause-high_belongs g c).After-lows) in
    (ap (λ (t : PackedTiling). t.layout) parted ∙ c.requires.low_belongs.0, ap (λ (t : PackedTiling). t.heights.region) parted ∙ c.requires.low_belongs.1)
