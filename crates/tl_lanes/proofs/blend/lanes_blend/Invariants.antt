use Rattle.std.proofs.Common.{◌≡◌, ◌≤◌, ◌<◌, ◌-◌, ◌%◌, ℕ, pos, length, slice_index_or}
use Rattle.tl_lanes.specs.Lanes.{chosen}
use Rattle.tl_lanes.proofs.blend.lanes_blend.Given as goal

abbrev pub invariant-words : goal.invariant-words
invariant-words l = record {
  within : l.done ≤ length l.low;
  whole : l.done % 32 ≡ 0;
  so_far : (j : ℕ) → j < l.done → slice_index_or l.out j (pos 0) ≡ chosen l.low l.high l.bits j;
}

abbrev pub decreases-words : goal.decreases-words
decreases-words l = length l.low - l.done
