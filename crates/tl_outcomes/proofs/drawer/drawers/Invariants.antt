use Rattle.std.proofs.Common.{◌≡◌, length, All}
use Rattle.tl_outcomes.proofs.drawer.drawers.Given as goal

abbrev pub invariant-loop-worker : goal.invariant-loop-worker
invariant-loop-worker l =
    (length l.all.items ≡ l.worker) × All (λ d. d.sampler.region ≡ l.low.region) l.all.items × All (λ d. d.bottom.now ≡ l.low) l.all.items
