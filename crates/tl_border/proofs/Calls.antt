-- What a call of an end promises follows from what its pass is told.
use Rattle.std.proofs.Common.{◌≡◌, ℕ, ap, ◌∙◌, subst, arith}
use Rattle.crossbeam_queue.specs.Fifo.{Held}
use Rattle.tl_border.specs.declared.line.PassView.{PassView}
use Rattle.tl_border.specs.Rule.{after_failure, HoldsAtMost}
use Rattle.tl_border.specs.Ends.{EndView, end_view, IsRefusedBy}

-- s is the sender before the push, t after it, and w after the failure is counted
pub refused : (s t w r : PassView) (e : EndView) (n : ℕ) → end_view s r ≡ e → t ≡ s → w ≡ after_failure t → n ≡ 2 → Held n (HoldsAtMost s)
    → IsRefusedBy e (end_view w r)
refused s t w r e n is same counted two held =
    let long = held.1 in
    let most = held.2.0 in
    let within = held.2.1 in
    let known : IsRefusedBy (end_view s r) (end_view w r) = (ap (λ y. end_view y r) (counted ∙ ap after_failure same), omega arith, omega arith) in
    subst (λ f. IsRefusedBy f (end_view w r)) is known
