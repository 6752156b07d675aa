use Rattle.std.proofs.Common.{◌≡◌, ◌≤◌, ◌-◌, length, slice_index}
use Rattle.tl_strings.specs.Words.{IsSquareWord}
use Rattle.tl_strings.specs.Swept.{IsSwept}
use Rattle.tl_strings.proofs.squares.sweep.Given as goal

abbrev pub invariant-pairs : goal.invariant-pairs
invariant-pairs l = record {
  from : l.first ≤ l.at;
  within : l.at ≤ l.end;
  len : length l.strings ≡ length l.fn.strings;
  swept : IsSwept
      (λ k word. IsSquareWord l.is_odd l.height l.others l.planes.coins.now l.planes.lows.now l.planes.free.now (slice_index l.fn.strings k) k word) l.first l.at l.fn.strings l.strings;
}

abbrev pub decreases-pairs : goal.decreases-pairs
decreases-pairs l = l.end - l.at
