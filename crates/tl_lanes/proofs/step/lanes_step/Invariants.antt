use Rattle.std.proofs.Common.{◌≡◌, ◌≤◌, ◌<◌, ◌-◌, ℕ, pos, length, slice_index_or}
use Rattle.tl_lanes.specs.Lanes.{step_or_old}
use Rattle.tl_lanes.proofs.step.lanes_step.Given as goal

abbrev pub invariant-vectors : goal.invariant-vectors
invariant-vectors l = record {
  within : l.done ≤ length l.old;
  so_far : (j : ℕ) → j < l.done → slice_index_or l.out j (pos 0) ≡ step_or_old l.old l.beside.from.now l.beside.from_other.now l.beside.to.now l.beside.to_other.now l.bits l.class j;
}

abbrev pub decreases-vectors : goal.decreases-vectors
decreases-vectors l = length l.old - l.done

abbrev pub invariant-loop-place : goal.invariant-loop-place
invariant-loop-place l = (j : ℕ) → j < l.place → slice_index_or l.out j (pos 0) ≡ step_or_old l.old l.beside.from.now l.beside.from_other.now l.beside.to.now l.beside.to_other.now l.bits l.class j
