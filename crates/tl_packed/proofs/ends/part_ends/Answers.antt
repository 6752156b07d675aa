use Rattle.std.proofs.Common.{◌≡◌, ◌∙◌, List, ap, subst, sym, ℤ}
use Rattle.tl_layout.specs.declared.layout.Layout.{Layout}
use Rattle.tl_packed.specs.Inner.{AreInner}
use Rattle.tl_packed.specs.PackedTiling.{PackedTiling}
use Rattle.tl_packed.specs.Packs.{HoldEnds, Packs}
use Rattle.tl_packed.proofs.EndsSeen.{packs-seen}
use Rattle.tl_packed.proofs.InnerWords.{lows-inner}
use Rattle.tl_packed.proofs.PartEnds.{parted-inside}
use Rattle.tl_packed.proofs.ends.part_ends.Goals as goal
use Rattle.tl_packed.proofs.ends.part_ends.Goals.{After-part_strings}

module _ (c : After-part_strings) where
  low_region : c.low.inside.region.now ≡ c.args.low.now.heights.region
  low_region = ap (λ (t : PackedTiling). t.heights.region) c.low.view_is

  low_layout : c.low.inside.layout ≡ c.args.low.now.layout
  low_layout = ap (λ (t : PackedTiling). t.layout) c.low.view_is

  high_region : c.high.inside.region.now ≡ c.args.low.now.heights.region
  high_region = ap (λ (t : PackedTiling). t.heights.region) c.high.view_is ∙ c.requires.region

  high_layout : c.high.inside.layout ≡ c.args.low.now.layout
  high_layout = ap (λ (t : PackedTiling). t.layout) c.high.view_is ∙ c.requires.layout

  abbrev AreHeld : List ℤ → List ℤ → Type 0
  AreHeld bottom top = HoldEnds c.args.low.now.heights.region c.args.low.now.layout c.args.both.now bottom top

  low-packs : (bottom top : List ℤ) → AreHeld bottom top → Packs c.low.inside.region.now c.low.inside.layout c.part_strings.new.low bottom
  low-packs bottom top held =
      parted-inside c.args.low.now.heights.region _ c.args.low.now.layout c.layout.result _ 0 c.args.both.now c.args.lows.now c.low.inside.strings _ bottom
      low_region low_layout c.layout.ensures.layout c.layout.ensures.accepted c.layout.ensures.of_region c.requires.lows c.part_strings.ensures.low c.low.inside.packs held.low_lawful held.holds.low_end

  high-packs : (bottom top : List ℤ) → AreHeld bottom top → Packs c.high.inside.region.now c.high.inside.layout c.part_strings.new.high top
  high-packs bottom top held =
      parted-inside c.args.low.now.heights.region _ c.args.low.now.layout c.layout.result _ 1 c.args.both.now c.args.lows.now c.high.inside.strings _ top
      high_region high_layout c.layout.ensures.layout c.layout.ensures.accepted c.layout.ensures.of_region c.requires.lows c.part_strings.ensures.high c.high.inside.packs held.high_lawful held.holds.high_end

pub part_strings-requires-clause-inner : goal.part_strings-requires-clause-inner
part_strings-requires-clause-inner c =
    subst (λ (l : Layout). AreInner l.height c.args.lows.now) (sym c.layout.ensures.layout)
    (lows-inner c.args.low.now.heights.region c.args.low.now.layout c.layout.ensures.of_region c.args.lows.now c.requires.lows)

pub invariant_of-low-inside : goal.invariant_of-low-inside
invariant_of-low-inside c = let (bottom, top, held) = c.requires.held in ((bottom, low-packs c bottom top held), tt)

pub invariant_of-high-inside : goal.invariant_of-high-inside
invariant_of-high-inside c =
    let (bottom, top, held) = c.requires.held in ((top, high-packs (goal.at.invariant_of-high-inside c).After-part_strings bottom top held), tt)

pub returns-clause-low : goal.returns-clause-low
returns-clause-low c bottom top held =
    let k = (goal.at.returns-clause-low c).After-part_strings in
    packs-seen c.low.inside.region.now c.args.low.now.heights.region c.low.inside.layout c.args.low.now.layout c.part_strings.new.low (assumption c) bottom
    (low_region k) (low_layout k) (low-packs k bottom top held)

pub returns-clause-high : goal.returns-clause-high
returns-clause-high c bottom top held =
    let k = (goal.at.returns-clause-high c).After-part_strings in
    packs-seen c.high.inside.region.now c.args.low.now.heights.region c.high.inside.layout c.args.low.now.layout c.part_strings.new.high (assumption c) top
    (high_region k) (high_layout k) (high-packs k bottom top held)
