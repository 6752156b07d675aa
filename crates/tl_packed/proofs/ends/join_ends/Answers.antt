use Rattle.std.proofs.Common.{subst}
use Rattle.tl_layout.specs.declared.layout.Layout.{Layout}
use Rattle.tl_packed.specs.Ends.{AreJoined}
use Rattle.tl_packed.proofs.EndsSeen.{packs-moved, seen-packs}
use Rattle.tl_packed.proofs.JoinEnds.{joined-ends}
use Rattle.tl_packed.proofs.ends.join_ends.Goals as goal

pub returns : goal.returns
returns c =
    let low = c.low.inside in
    let high = c.high.inside in
    let seen = c.args.low.now in
    let joined = subst (λ (l : Layout). AreJoined l low.strings high.strings c.join_strings.new.both) c.layout.ensures.layout c.join_strings.ensures in
    let low_packs = seen-packs low.region.now low.layout low.strings low.packs c.args.low.now c.low.view_is in
    let high_packs = seen-packs high.region.now high.layout high.strings high.packs c.args.high.now c.high.view_is in
    joined-ends seen.heights.region seen.layout c.layout.ensures.of_region low.strings high.strings c.join_strings.new.both seen.heights.numbers
    c.args.high.now.heights.numbers low_packs
    (packs-moved c.args.high.now.heights.region seen.heights.region c.args.high.now.layout seen.layout high.strings c.args.high.now.heights.numbers c.requires.region c.requires.layout high_packs) joined
