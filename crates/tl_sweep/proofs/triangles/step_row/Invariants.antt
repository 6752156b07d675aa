use Rattle.std.proofs.Common.{◌≡◌, ◌≤◌, ◌<◌, ◌+◌, ◌-◌, ◌%◌, ℕ, length}
use Rattle.tl_sweep.specs.Places.{at, every_sixth}
use Rattle.tl_sweep.proofs.triangles.step_row.Given as goal

abbrev pub invariant-sixths : goal.invariant-sixths
invariant-sixths l = record {
  sixth : l.t % 6 ≡ l.first;
  done : (s : ℕ) → s < length l.out → s < l.t → at l.out s ≡ every_sixth l.numbers l.width l.start l.first l.bits s;
  left : (s : ℕ) → s < length l.out → l.t ≤ s → at l.out s ≡ at l.numbers (l.start + s);
}

abbrev pub decreases-sixths : goal.decreases-sixths
decreases-sixths l = length l.out - l.t
