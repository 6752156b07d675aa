use Rattle.std.proofs.Common.{◌≡◌, map, ◌++◌, [], length}
use Rattle.std.specs.Prelude.{All}
use Rattle.tl_board.specs.Hands.{unposted}
use Rattle.tl_board.specs.Calls.{view, IsSeatOf}
use Rattle.tl_board.proofs.closing.merge_all.Given as goal

abbrev pub invariant-loop-caller : goal.invariant-loop-caller
invariant-loop-caller g l = (l.seat.table_id ≡ l.shared.table_id) × All (IsSeatOf l.shared.table_id) l.callers.items × All (λ c. unposted (view c) ≡ []) l.callers.items
    × (map view l.callers.items ++ l.seat.me.0 ≡ map view l.fn.callers.items)

abbrev pub decreases-loop-caller : goal.decreases-loop-caller
decreases-loop-caller g l = length l.callers.items
