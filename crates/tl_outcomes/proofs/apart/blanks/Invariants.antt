use Rattle.std.proofs.Common.{◌≡◌, length, All}
use Rattle.tl_outcomes.specs.Outcomes.{draw_of}
use Rattle.tl_outcomes.proofs.apart.blanks.Given as goal

abbrev pub invariant-loop-number : goal.invariant-loop-number
invariant-loop-number l =
    (length l.all.items ≡ l.number) × All (λ o. draw_of o ≡ record { region = l.region; job = l.job; is_ranked = l.is_ranked }) l.all.items
