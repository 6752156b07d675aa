use Rattle.std.proofs.Common.{◌≡◌, map}
use Rattle.tl_board.proofs.tests.callers_back.Given as goal

abbrev pub invariant-loop-hand : goal.invariant-loop-hand
invariant-loop-hand l = l.callers.items ≡ map (λ h. h.caller) l.yielded
