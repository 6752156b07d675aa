use Rattle.std.proofs.Common.{◌≡◌, map, Some, [], ◌-◌}
use Rattle.std.specs.Prelude.{All}
use Rattle.std.specs.List.{range_with_len}
use Rattle.tl_lists.specs.Lists.{upto}
use Rattle.tl_board.specs.Hands.{fresh}
use Rattle.tl_board.specs.Calls.{view, IsSeatOf}
use Rattle.tl_board.proofs.opening.deal.Given as goal

abbrev pub invariant-loop-index : goal.invariant-loop-index
invariant-loop-index g l = let new = fresh (Some (g.P.Piece.job l.shared.key.like.value)) l.shared.table_id.slots l.count in
    (l.seat.table_id ≡ l.shared.table_id) × (l.seat.me ≡ (map new (range_with_len l.index (l.count - l.index)), [])) × (map view l.callers.items ≡ map new (upto l.index)) × All (IsSeatOf l.shared.table_id) l.callers.items
