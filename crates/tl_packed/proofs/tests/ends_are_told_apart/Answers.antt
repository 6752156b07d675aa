use Rattle.std.proofs.Common.{◌∙◌, sym, ap, subst}
use Rattle.tl_definitions.specs.Region.{Region}
use Rattle.tl_packed.specs.OfClasses.{AreLows}
use Rattle.tl_packed.specs.PackedTiling.{PackedTiling}
use Rattle.tl_packed.proofs.tests.ends_are_told_apart.Goals as goal

pub are_told_apart-requires-clause-layout : goal.are_told_apart-requires-clause-layout
are_told_apart-requires-clause-layout c = ap (λ (t : PackedTiling). t.layout) c.in_ok-high.ensures ∙ sym (ap (λ (t : PackedTiling). t.layout) c.in_ok-low.ensures)

pub are_told_apart-requires-clause-region : goal.are_told_apart-requires-clause-region
are_told_apart-requires-clause-region c =
    ap (λ (t : PackedTiling). t.heights.region) c.in_ok-high.ensures ∙ (c.requires ∙ sym (ap (λ (t : PackedTiling). t.heights.region) c.in_ok-low.ensures))

pub are_told_apart-requires-clause-lows : goal.are_told_apart-requires-clause-lows
are_told_apart-requires-clause-lows c =
    subst (λ (t : PackedTiling). AreLows t.heights.region t.layout c.in_ok-lows.lows) (sym c.in_ok-low.ensures)
    (subst (λ (R : Region). AreLows R c.of-layout.result c.in_ok-lows.lows) c.region-region.ensures.region c.in_ok-lows.ensures)
