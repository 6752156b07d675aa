use Rattle.std.proofs.Common.{◌∙◌, refl}
use Rattle.tl_packed.proofs.Copied.{copies-pack, same-seen}
use Rattle.tl_packed.proofs.packed.Packed.copy.Goals as goal

pub invariant_of-result : goal.invariant_of-result
invariant_of-result c =
    let of = c.self.inside in
    ((of.packs.0, copies-pack of.region.now of.layout c.in_ok-strings.strings of.strings of.packs.0 c.in_ok-strings.ensures of.packs.1), tt)

pub returns : goal.returns
returns c =
    let of = c.self.inside in
    let strings = c.in_ok-strings.strings in
    same-seen of.region.now of.region.now of.layout of.layout strings of.packs.0 _ (assumption) (copies-pack of.region.now of.layout strings of.strings of.packs.0 c.in_ok-strings.ensures of.packs.1) refl refl
    ∙ c.self.view_is
