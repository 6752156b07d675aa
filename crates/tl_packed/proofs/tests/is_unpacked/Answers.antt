use Rattle.std.proofs.Common.{◌∙◌, sym, ap, subst}
use Rattle.tl_definitions.specs.Heights.{AreLawful}
use Rattle.tl_definitions.specs.Region.{Region}
use Rattle.tl_height.specs.HeightFunction.{HeightFunction}
use Rattle.tl_packed.specs.PackedTiling.{PackedTiling}
use Rattle.tl_packed.proofs.tests.is_unpacked.Goals as goal

pub unpack-requires-clause-spare : goal.unpack-requires-clause-spare
unpack-requires-clause-spare c =
    let copied = ap (λ (h : HeightFunction). h.region) c.in_ok-copy.ensures in
    let packed = ap (λ (t : PackedTiling). t.heights.region) c.in_ok-packed.ensures in
    subst (λ (R : Region). AreLawful R c.into_numbers-spare.result.items) (copied ∙ (sym c.requires ∙ sym packed)) c.into_numbers-spare.ensures.lawful
