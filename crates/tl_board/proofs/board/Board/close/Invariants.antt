use Rattle.std.proofs.Common.{◌≡◌, ℕ, ◌<◌, ◌≤◌, false, map, get_or}
use Rattle.std.specs.Vec.{vec_len, vec_capacity}
use Rattle.std.specs.Mem.Slots.{slots_items, slots_filled, slots_len}
use Rattle.std.specs.Mem.Slots.Ownership.{Filled}
use Rattle.tl_lists.specs.Lists.{upto}
use Rattle.tl_board.proofs.Closes.{entry}
use Rattle.tl_board.proofs.board.Board.close.Given as goal

-- the numbers so far have left what they leave, and their slots are empty
abbrev pub invariant-loop-number : goal.invariant-loop-number
invariant-loop-number g l =
    (l.closed.words ≡ l.initial.closed.words)
    × (slots_items l.closed.slots ≡ slots_items l.initial.closed.slots)
    × (slots_len l.closed.slots ≡ slots_len l.initial.closed.slots)
    × Filled (slots_filled l.closed.slots) l.number (slots_len l.closed.slots)
    × ((k : ℕ) → k < l.number → get_or (slots_filled l.closed.slots) k false ≡ false)
    × (l.left.items ≡ map (entry (slots_items l.initial.closed.words) (slots_items l.initial.closed.slots)) (upto l.number))
    × (vec_len l.left ≡ l.number)
    × (slots_len l.initial.closed.slots ≤ vec_capacity l.left)
