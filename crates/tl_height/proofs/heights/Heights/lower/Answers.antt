use Rattle.std.proofs.Common.{◌≡◌, ◌-◌, ◌∙◌, ap, subst, arith, ℤ, pos, negsuc, ◌-ℤ◌, w32, to_z, of_z}
use Rattle.std.proofs.lemmas.Int.{ints}
use Rattle.tl_definitions.specs.declared.Kind.TheVariants.{Square, Triangle}
use Rattle.tl_definitions.specs.declared.Kind.{Kind}
use Rattle.tl_definitions.specs.Lattice.{rise}
use Rattle.tl_definitions.specs.Accepted.{Accepted}
use Rattle.tl_definitions.specs.Heights.{AreLawful}
use Rattle.tl_closing.specs.Changed.{IsChangedAt}
use Rattle.tl_closing.proofs.Stated.{inner-of_region, lowered-lawful}
use Rattle.tl_height.specs.HeightFunction.{HeightFunction}
use Rattle.tl_height.proofs.heights.Heights.lower.Goals as goal

pub change-requires-clause-of_region : goal.change-requires-clause-of_region
change-requires-clause-of_region c = inner-of_region c.args.self.now.region c.args.corner c.requires.inner

negated : (k : Kind) (z : ℤ) → z ≡ pos (rise k) → to_z w32 (of_z w32 (pos 0 -ℤ to_z w32 (of_z w32 z))) ≡ negsuc (rise k - 1)
negated Square z e = omega (arith, ints, e)
negated Triangle z e = omega (arith, ints, e)

pub change-requires-clause-lawful : goal.change-requires-clause-lawful
change-requires-clause-lawful c others changed =
    let rises : c.rise-rise.result ≡ pos (rise c.args.self.now.region.kind) =
    c.rise-rise.ensures ∙ ap (λ (k : Kind). pos (rise k)) (c.kind.ensures ∙ ap (λ (f : HeightFunction). f.region.kind) c.self.view_is) in
    let more = negated c.args.self.now.region.kind c.rise-rise.result rises in
    lowered-lawful c.args.self.now.region c.args.self.now.numbers others c.args.corner
    (subst (λ (f : HeightFunction). Accepted f.region) c.self.view_is c.self.invariant.accepted)
    (subst (λ (f : HeightFunction). AreLawful f.region f.numbers) c.self.view_is c.self.invariant.lawful)
    c.requires.inner c.requires.high
    (subst (λ (z : ℤ). IsChangedAt c.args.self.now.region c.args.self.now.numbers others c.args.corner z) more changed)
