use Rattle.std.proofs.Common.{◌≡◌, map}
use Rattle.tl_workers.proofs.filling.callers_from.Given as goal

abbrev pub invariant-loop-seat : goal.invariant-loop-seat
invariant-loop-seat g l = l.callers.items ≡ map (λ s. s.caller) l.yielded
