use Rattle.std.proofs.Common.{◌≡◌}
use Rattle.tl_board.specs.Calls.{view, IsCallerOf}
use Rattle.tl_workers.specs.Seats.{IsIdle, Serves}
use Rattle.tl_workers.proofs.Undrawn.{undrawn}
use Rattle.tl_workers.proofs.filling.work.Given as goal

abbrev pub invariant-loop-claim : goal.invariant-loop-claim
invariant-loop-claim g l = record {
  caller : IsCallerOf l.board l.seat.caller;
  idle : IsIdle (view l.seat.caller);
  of_job : (view l.seat.caller).job ≡ (view l.fn.seat.caller).job;
  of_count : (view l.seat.caller).count ≡ (view l.fn.seat.caller).count;
  served : Serves g.W.Worker.serves (view l.seat.caller) l.seat.worker;
}

-- the numbers that the caller has not drawn
abbrev pub decreases-loop-claim : goal.decreases-loop-claim
decreases-loop-claim g l = undrawn (view l.seat.caller)
