use Rattle.tl_board.specs.Calls.{view}
use Rattle.tl_board.proofs.Stated.{none_out}
use Rattle.tl_workers.proofs.Undrawn.{undrawn-less}
use Rattle.tl_workers.proofs.filling.work.Goals as goal

pub claim-requires-clause-none_out : goal.claim-requires-clause-none_out
claim-requires-clause-none_out g c κs within = none_out (view c.loop-claim.seat.caller) c.loop-claim.invariant.idle.all_posted

pub loop-claim-smaller : goal.loop-claim-smaller
loop-claim-smaller g c = let told = c.in-Some.ensures.claim in
    undrawn-less (view c.loop-claim.seat.caller) (view c.claim.new.caller) (view c.post.new.caller) c.in-Some.claim.number c.in-Some.claim.number told.0 told.1 told.4 c.post.ensures.posted
