use Rattle.std.proofs.Common.{◌∙◌, sym}
use Rattle.tl_packed.specs.Packs.{Packs}
use Rattle.tl_packed.proofs.Copied.{copies-pack, other-frame, same-frame, same-seen}
use Rattle.tl_packed.proofs.packed.Packed.copy_from.Goals as goal
use Rattle.tl_packed.proofs.packed.Packed.copy_from.Goals.{After-copy_from}

packs : (c : After-copy_from) → Packs c.self.inside.region.now c.self.inside.layout c.copy_from.new.self c.other.inside.packs.0
packs c =
    let of = c.self.inside in
    let from = c.other.inside in
    let frame = same-frame of.region.now from.region.now of.layout from.layout of.packs.0 from.packs.0 c.args.self.now c.args.other.now c.self.view_is c.other.view_is c.requires.layout c.requires.region in
    copies-pack of.region.now of.layout c.copy_from.new.self from.strings from.packs.0 c.copy_from.ensures
    (other-frame from.region.now of.region.now from.layout of.layout from.strings from.packs.0 frame.0 frame.1 from.packs.1)

pub invariant_of-self-inside : goal.invariant_of-self-inside
invariant_of-self-inside c = ((c.other.inside.packs.0, packs (goal.at.invariant_of-self-inside c).After-copy_from), tt)

pub returns : goal.returns
returns c =
    let of = c.self.inside in
    let from = c.other.inside in
    let frame = same-frame of.region.now from.region.now of.layout from.layout of.packs.0 from.packs.0 c.args.self.now c.args.other.now c.self.view_is c.other.view_is c.requires.layout c.requires.region in
    same-seen of.region.now from.region.now of.layout from.layout c.copy_from.new.self from.packs.0 _ (assumption) (packs (goal.at.returns c).After-copy_from) (sym frame.0) (sym frame.1)
    ∙ c.other.view_is
