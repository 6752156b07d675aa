use Rattle.std.proofs.Common.{◌≡◌, ap, sym, ◌∙◌}
use Rattle.tl_definitions.specs.Region.{Region, is_step}
use Rattle.tl_closing.proofs.Stated.{step-ends}
use Rattle.tl_extreme.proofs.corner_graph.CornerGraph.place_before.Goals as goal

pub place-requires : goal.place-requires
place-requires c =
    (step-ends c.args.self.now c.in_ok-from.from c.args.to
    (sym (c.is_step.ensures ∙ ap (λ (S : Region). is_step S c.in_ok-from.from c.args.to) c.self.view_is) ∙ c.if-is_step.true)).0
