use Rattle.std.proofs.Common.{◌≡◌, map}
use Rattle.tl_workers.proofs.filling.seats_of.Given as goal

abbrev pub invariant-loop-caller : goal.invariant-loop-caller
invariant-loop-caller g l = map (λ s. (s.caller, s.worker)) l.seats.items ≡ l.yielded
