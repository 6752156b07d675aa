use Rattle.std.proofs.Common.{◌≡◌, ℕ, ◌∙◌, ap, sym, subst}
use Rattle.tl_packed.specs.Inner.{AreInner}
use Rattle.tl_packed.specs.OfClasses.{AreLows}
use Rattle.tl_packed.specs.PackedTiling.{PackedTiling}
use Rattle.tl_packed.proofs.Copied.{other-frame, same-frame, tiling_of}
use Rattle.tl_packed.proofs.InnerWords.{lows-inner}
use Rattle.tl_packed.proofs.Same.{agree-same, same-agree}
use Rattle.tl_packed.proofs.packed.Packed.is_same.Goals as goal

pub classes_agree_under-requires-clause-inner : goal.classes_agree_under-requires-clause-inner
classes_agree_under-requires-clause-inner c =
    let of = c.self.inside in
    let lows : AreLows of.region.now of.layout c.args.lows.now = subst (λ (t : PackedTiling). AreLows t.heights.region t.layout c.args.lows.now) (sym c.self.view_is) c.requires.lows in
    subst (λ (height : ℕ). AreInner height c.args.lows.now) (sym c.height.ensures) (lows-inner of.region.now of.layout c.self.invariant.layout c.args.lows.now lows)

pub returns : goal.returns
returns c =
    let of = c.self.inside in
    let from = c.other.inside in
    let frame = same-frame of.region.now from.region.now of.layout from.layout of.packs.0 from.packs.0 c.args.self.now c.args.other.now c.self.view_is c.other.view_is c.requires.layout c.requires.region in
    let packs = other-frame from.region.now of.region.now from.layout of.layout from.strings from.packs.0 frame.0 frame.1 from.packs.1 in
    let lows : AreLows of.region.now of.layout c.args.lows.now = subst (λ (t : PackedTiling). AreLows t.heights.region t.layout c.args.lows.now) (sym c.self.view_is) c.requires.lows in (
      λ t.
          let same = agree-same of.region.now of.layout c.args.lows.now of.strings from.strings of.packs.0 from.packs.0 c.self.invariant lows of.packs.1 packs (c.classes_agree_under.ensures.0 t) in
          sym c.self.view_is ∙ ((λ i. tiling_of (sym frame.0 i) (sym frame.1 i) (sym same i)) ∙ c.other.view_is),
      λ e.
          let same : from.packs.0 ≡ of.packs.0 = ap (λ (t : PackedTiling). t.heights.numbers) (c.other.view_is ∙ (sym e ∙ sym c.self.view_is)) in
          c.classes_agree_under.ensures.1 (same-agree of.region.now of.layout c.args.lows.now of.strings from.strings of.packs.0 from.packs.0 c.self.invariant lows of.packs.1 packs same),
    )
