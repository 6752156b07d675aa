use Rattle.std.proofs.Common.{sym, subst}
use Rattle.tl_definitions.specs.Accepted.{Accepted}
use Rattle.tl_lawful.specs.Order.{AreGreatest, AreLeast}
use Rattle.tl_packed.specs.PackedTiling.{PackedTiling}
use Rattle.tl_packed_chain.proofs.packed_chain.PackedChain.new.Goals as goal

pub invariant_of-result-clause-accepted : goal.invariant_of-result-clause-accepted
invariant_of-result-clause-accepted g c =
    subst (λ (t : PackedTiling). ∥ Accepted t.heights.region ∥₁) (sym c.in_ok-of.ensures) (∣ c.region-region.ensures.accepted ∣₁)

pub invariant_of-result-clause-bottom : goal.invariant_of-result-clause-bottom
invariant_of-result-clause-bottom g c =
    subst (λ (t : PackedTiling). AreLeast t.heights.region t.heights.numbers) (sym c.in_ok-of.ensures) c.requires.bottom

pub invariant_of-result-clause-top : goal.invariant_of-result-clause-top
invariant_of-result-clause-top g c =
    subst (λ (t : PackedTiling). AreGreatest t.heights.region c.in_ok-of-2.field-0.heights.numbers) (sym c.in_ok-of.ensures)
    (subst (λ (t : PackedTiling). AreGreatest c.args.low.now.region t.heights.numbers) (sym c.in_ok-of-2.ensures) c.requires.top)
