use Rattle.std.proofs.Common.{slice_index}
use Rattle.tl_strings.specs.Words.{IsHighWord, IsLowWord}
use Rattle.tl_strings.specs.Swept.{IsSwept}
use Rattle.tl_strings.proofs.ends.part.Given as goal

abbrev pub invariant-loop-at : goal.invariant-loop-at
invariant-loop-at l = record {
  low_swept : IsSwept (λ k word. IsLowWord l.height l.joined l.lows (slice_index l.fn.low k) k word) l.first l.at l.fn.low l.low;
  high_swept : IsSwept (λ k word. IsHighWord l.height l.joined l.lows (slice_index l.fn.high k) k word) l.first l.at l.fn.high l.high;
}
