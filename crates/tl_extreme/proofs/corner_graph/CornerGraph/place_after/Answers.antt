use Rattle.std.proofs.Common.{◌≡◌, ap, sym, ◌∙◌}
use Rattle.tl_definitions.specs.Region.{Region, is_step}
use Rattle.tl_closing.proofs.Stated.{step-ends}
use Rattle.tl_extreme.proofs.corner_graph.CornerGraph.place_after.Goals as goal

pub place-requires : goal.place-requires
place-requires c =
    (step-ends c.args.self.now c.args.from c.in_ok-to.to
    (sym (c.is_step.ensures ∙ ap (λ (S : Region). is_step S c.args.from c.in_ok-to.to) c.self.view_is) ∙ c.if-is_step.true)).1
