use Rattle.std.proofs.Common.{refl, sym, subst}
use Rattle.tl_definitions.specs.Region.{Region}
use Rattle.tl_packed.specs.Packs.{Packs}
use Rattle.tl_packed.proofs.Copied.{same-seen}
use Rattle.tl_packed.proofs.packed.Packed.of.Goals as goal

pub returns : goal.returns
returns c =
    let region = c.region.ensures.region in
    let numbers = c.args.heights.now.numbers in
    let packs = subst (λ (R : Region). Packs R c.args.layout c.pack_classes.new.strings numbers) (sym region) c.pack_classes.ensures in
    same-seen c.region.result.now c.args.heights.now.region c.args.layout c.args.layout c.pack_classes.new.strings numbers _ (assumption) packs region refl
