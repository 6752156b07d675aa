use Rattle.std.proofs.Common.{◌≡◌, ◌<◌, ℕ, length, get_or, take}
use Rattle.std.specs.Int.{bit_at}
use Rattle.std.specs.List.{list_any}
use Rattle.std.specs.Prelude.{◌==◌}
use Rattle.tl_layout.specs.Layouts.{size_of}
use Rattle.tl_layout.specs.Slots.{is_at_bit}
use Rattle.tl_layout.proofs.slots.marked.Given as goal

abbrev pub invariant-loop-place : goal.invariant-loop-place
invariant-loop-place l = record {
  size : length l.words.items ≡ size_of l.layout;
  bits : (word x : ℕ) → x < 64 → (bit_at (get_or l.words.items word 0) x == 1) ≡ list_any (is_at_bit l.layout l.class word x) (take l.place-index l.places);
}
