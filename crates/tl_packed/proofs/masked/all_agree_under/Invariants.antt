use Rattle.std.proofs.Common.{ℕ, ◌<◌, ◌≤◌, get_or}
use Rattle.tl_packed.specs.Masked.{AgreeUnder}
use Rattle.tl_packed.proofs.masked.all_agree_under.Given as goal

abbrev pub invariant-loop-at : goal.invariant-loop-at
invariant-loop-at l = (k : ℕ) → l.first ≤ k → k < l.at → AgreeUnder (get_or l.lows k 0) (get_or l.one k 0) (get_or l.other k 0)
