use Rattle.std.proofs.Common.{◌≡◌, ◌≤◌, ◌<◌, ◌-◌, ℕ, pos, length, slice_index_or}
use Rattle.tl_lanes.specs.Lanes.{by_bit}
use Rattle.tl_lanes.proofs.blend.blend_word.Given as goal

abbrev pub invariant-vectors : goal.invariant-vectors
invariant-vectors l = record {
  within : l.done ≤ length l.low;
  so_far : (j : ℕ) → j < l.done → slice_index_or l.out j (pos 0) ≡ by_bit l.low l.high l.word j;
}

abbrev pub decreases-vectors : goal.decreases-vectors
decreases-vectors l = length l.low - l.done

abbrev pub invariant-loop-place : goal.invariant-loop-place
invariant-loop-place l = (j : ℕ) → j < l.place → slice_index_or l.out j (pos 0) ≡ by_bit l.low l.high l.word j
