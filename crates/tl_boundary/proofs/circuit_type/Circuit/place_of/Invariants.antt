use Rattle.std.proofs.Common.{◌≡◌, ℕ, ◌<◌, false, get_or}
use Rattle.tl_boundary.proofs.SideLemmas.{leaves}
use Rattle.tl_boundary.proofs.circuit_type.Circuit.place_of.Given as goal

abbrev pub invariant-loop-k : goal.invariant-loop-k
invariant-loop-k l = (j : ℕ) → j < l.k → leaves l.corner (get_or l.step-items j (record { r = 0; x = 0; dart = 0 })) ≡ false
