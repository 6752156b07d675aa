use Rattle.std.proofs.Common.{◌≡◌, ℕ, ◌<◌, ◌≤◌, true, false}
use Rattle.tl_definitions.specs.Lattice.{cell}
use Rattle.tl_definitions.specs.Region.{has}
use Rattle.tl_tiling.proofs.letters.is_empty.Given as goal

abbrev pub invariant-loop-c : goal.invariant-loop-c
invariant-loop-c l = l.empty ≡ true → (k : ℕ) → l.from ≤ k → k < l.c → has l.region (cell l.r k) ≡ false
