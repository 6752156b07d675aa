use Rattle.std.proofs.Common.{◌≡◌, ◌<◌, ℕ, length, get_or}
use Rattle.tl_layout.specs.Slots.{free_word}
use Rattle.tl_layout.proofs.slots.free_slots.Given as goal

abbrev pub invariant-loop-place : goal.invariant-loop-place
invariant-loop-place l = record {
  size : length l.words.items ≡ l.place;
  each : (k : ℕ) → k < l.place → get_or l.words.items k 0 ≡ free_word l.height l.lows k;
}
