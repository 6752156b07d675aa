use Rattle.tl_strings.specs.Words.{IsJoinedWord}
use Rattle.tl_strings.specs.Swept.{IsSwept}
use Rattle.tl_strings.proofs.ends.join.Given as goal

abbrev pub invariant-loop-at : goal.invariant-loop-at
invariant-loop-at l = IsSwept (IsJoinedWord l.height l.low l.high) 0 l.at l.fn.both l.both

abbrev pub invariant-loop-at-2 : goal.invariant-loop-at-2
invariant-loop-at-2 l = IsSwept (IsJoinedWord l.height l.low l.high) 0 l.at l.fn.both l.both
