use Rattle.std.proofs.Common.{◌≡◌, ◌∙◌, ap, subst, ℤ, pos, w32, rules, to_z, of_z}
use Rattle.std.proofs.lemmas.Int.{to_z-of_z}
use Rattle.tl_definitions.specs.declared.Kind.{Kind}
use Rattle.tl_definitions.specs.Lattice.{rise}
use Rattle.tl_definitions.specs.Accepted.{Accepted}
use Rattle.tl_definitions.specs.Heights.{AreLawful}
use Rattle.tl_closing.specs.Changed.{IsChangedAt}
use Rattle.tl_closing.proofs.Stated.{inner-of_region, raised-lawful}
use Rattle.tl_height.specs.HeightFunction.{HeightFunction}
use Rattle.tl_height.proofs.heights.Heights.raise.Goals as goal

pub change-requires-clause-of_region : goal.change-requires-clause-of_region
change-requires-clause-of_region c = inner-of_region c.args.self.now.region c.args.corner c.requires.inner

pub change-requires-clause-lawful : goal.change-requires-clause-lawful
change-requires-clause-lawful c others changed =
    let more : to_z w32 (of_z w32 c.rise-rise.result) ≡ pos (rise c.args.self.now.region.kind) =
    to_z-of_z w32 c.rise-rise.result (search rules) ∙ c.rise-rise.ensures ∙ ap (λ (k : Kind). pos (rise k)) (c.kind.ensures ∙ ap (λ (f : HeightFunction). f.region.kind) c.self.view_is) in
    raised-lawful c.args.self.now.region c.args.self.now.numbers others c.args.corner
    (subst (λ (f : HeightFunction). Accepted f.region) c.self.view_is c.self.invariant.accepted)
    (subst (λ (f : HeightFunction). AreLawful f.region f.numbers) c.self.view_is c.self.invariant.lawful)
    c.requires.inner c.requires.low
    (subst (λ (z : ℤ). IsChangedAt c.args.self.now.region c.args.self.now.numbers others c.args.corner z) more changed)
