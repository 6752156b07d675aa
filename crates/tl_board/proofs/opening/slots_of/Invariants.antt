use Rattle.std.proofs.Common.{◌≡◌, map, Some}
use Rattle.tl_board.proofs.opening.slots_of.Given as goal

abbrev pub invariant-loop-blank : goal.invariant-loop-blank
invariant-loop-blank g l = l.slots.items ≡ map Some l.yielded
