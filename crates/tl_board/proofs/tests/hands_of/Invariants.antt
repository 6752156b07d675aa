use Rattle.std.proofs.Common.{◌≡◌, map}
use Rattle.tl_board.proofs.tests.hands_of.Given as goal

abbrev pub invariant-loop-caller : goal.invariant-loop-caller
invariant-loop-caller l = map (λ h. h.caller) l.hands.items ≡ l.yielded
