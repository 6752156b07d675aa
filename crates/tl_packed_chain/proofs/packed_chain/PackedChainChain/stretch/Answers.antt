use Rattle.std.proofs.Common.{◌≡◌, List, sym, ◌∙◌, ap, subst, ℤ}
use Rattle.std.proofs.Math.Logic.{∥∥₁_elim}
use Rattle.std.proofs.Math.Nat.{ℕ_set}
use Rattle.tl_definitions.specs.Region.{Region}
use Rattle.tl_bits.specs.Bits.{bit_at}
use Rattle.tl_layout.specs.declared.layout.Layout.{Layout}
use Rattle.tl_layout.specs.Layouts.{size_of}
use Rattle.tl_packed.specs.OfClasses.{AreOfLayout}
use Rattle.tl_packed.specs.Packs.{HoldEnds}
use Rattle.tl_packed.specs.PackedTiling.{PackedTiling}
use Rattle.tl_coupling.specs.Carried.{carried_numbers}
use Rattle.tl_packed_chain.proofs.Known.{held-after, known-lows, known-slots}
use Rattle.tl_packed_chain.proofs.packed_chain.PackedChainChain.stretch.Given
use Rattle.tl_packed_chain.proofs.packed_chain.PackedChainChain.stretch.Goals as goal
use Rattle.tl_packed_chain.proofs.packed_chain.PackedChainChain.stretch.Goals.{After-carry}

pub carry-requires-clause-lows : goal.carry-requires-clause-lows
carry-requires-clause-lows g c =
    let chain = c.args.self.now in
    let lows = (known-slots chain.low.heights.region chain.low.layout chain.slots chain.slots_of).lows in
    subst (λ (l : Layout). AreOfLayout l chain.slots.lows) (sym (c.layout-layout.ensures.layout ∙ c.requires.low_belongs.0)) lows.size

pub carry-requires-clause-free : goal.carry-requires-clause-free
carry-requires-clause-free g c =
    let chain = c.args.self.now in
    let slots = known-slots chain.low.heights.region chain.low.layout chain.slots chain.slots_of in
    subst (λ (l : Layout). AreOfLayout l chain.slots.free) (sym (c.layout-layout.ensures.layout ∙ c.requires.low_belongs.0)) slots.free_size

pub carry-requires-clause-words : goal.carry-requires-clause-words
carry-requires-clause-words g c =
    let chain = c.args.self.now in
    ∥∥₁_elim chain.pieces_of (ℕ_set _ _) (λ pieces. pieces.words) ∙ sym chain.enough_words

pub carry-requires-clause-size : goal.carry-requires-clause-size
carry-requires-clause-size g c =
    let chain = c.args.self.now in
    ∥∥₁_elim chain.pieces_of (ℕ_set _ _) (λ pieces. pieces.size) ∙ ap size_of (sym (c.layout-layout.ensures.layout ∙ c.requires.low_belongs.0))

held : (g : Given.Over) (c : After-carry g)
    → HoldEnds c.args.low.now.heights.region c.args.low.now.layout c.carry.new.both
    (carried_numbers c.args.low.now.heights.region (bit_at (g.B.Bits.word_at c.args.self.now.kept.bits)) c.args.from c.args.low.now.heights.numbers)
    (carried_numbers c.args.low.now.heights.region (bit_at (g.B.Bits.word_at c.args.self.now.kept.bits)) c.args.from c.args.high.now.heights.numbers)
held g c =
    let chain = c.args.self.now in
    let low = c.args.low.now in
    held-after chain.low.heights.region low.heights.region chain.low.layout low.layout c.layout-layout.result chain.slots chain.pieces c.join_ends.new.both c.carry.new.both
    low.heights.numbers c.args.high.now.heights.numbers (λ R numbers. carried_numbers R (bit_at (g.B.Bits.word_at chain.kept.bits)) c.args.from numbers)
    c.requires.low_belongs.1 c.requires.low_belongs.0 c.layout-layout.ensures.layout c.layout-layout.ensures.accepted c.layout-layout.ensures.of_region chain.slots_of chain.pieces_of
    c.carry.ensures.carried c.join_ends.ensures

pub part_ends-requires-clause-lows : goal.part_ends-requires-clause-lows
part_ends-requires-clause-lows g c =
    let chain = c.args.self.now in
    let low = c.args.low.now in
    known-lows chain.low.heights.region low.heights.region chain.low.layout low.layout chain.slots c.requires.low_belongs.1 c.requires.low_belongs.0 chain.slots_of

pub part_ends-requires-clause-held : goal.part_ends-requires-clause-held
part_ends-requires-clause-held g c = (_, _, held g (goal.at.part_ends-requires-clause-held g c).After-carry)

pub returns-clause-low : goal.returns-clause-low
returns-clause-low g c =
    let low = c.args.low.now in
    let bits = bit_at (g.B.Bits.word_at c.args.self.now.kept.bits) in
    c.part_ends.ensures.low _ _ (held g (goal.at.returns-clause-low g c).After-carry)
    ∙ (λ i. record { layout = low.layout; heights = record { region = low.heights.region; numbers = carried_numbers (c.requires.low_belongs.1 i) bits c.args.from low.heights.numbers } })

pub returns-clause-high : goal.returns-clause-high
returns-clause-high g c =
    let high = c.args.high.now in
    let bits = bit_at (g.B.Bits.word_at c.args.self.now.kept.bits) in
    c.part_ends.ensures.high _ _ (held g (goal.at.returns-clause-high g c).After-carry)
    ∙ (λ i. record {
      layout = (c.requires.low_belongs.0 ∙ sym c.requires.high_belongs.0) i;
      heights = record {
        region = (c.requires.low_belongs.1 ∙ sym c.requires.high_belongs.1) i;
        numbers = carried_numbers (c.requires.low_belongs.1 i) bits c.args.from high.heights.numbers;
      };
    })

pub returns-clause-low_belongs : goal.returns-clause-low_belongs
returns-clause-low_belongs g c =
    let parted = c.part_ends.ensures.low _ _ (held g (goal.at.returns-clause-low_belongs g c).After-carry) in
    (ap (λ (t : PackedTiling). t.layout) parted ∙ c.requires.low_belongs.0, ap (λ (t : PackedTiling). t.heights.region) parted ∙ c.requires.low_belongs.1)

pub returns-clause-high_belongs : goal.returns-clause-high_belongs
returns-clause-high_belongs g c =
    let parted = c.part_ends.ensures.high _ _ (held g (goal.at.returns-clause-high_belongs g c).After-carry) in
    (ap (λ (t : PackedTiling). t.layout) parted ∙ c.requires.low_belongs.0, ap (λ (t : PackedTiling). t.heights.region) parted ∙ c.requires.low_belongs.1)
