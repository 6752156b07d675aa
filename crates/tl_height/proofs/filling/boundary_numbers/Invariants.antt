use Rattle.tl_height.proofs.FilledNumbers.{ArePrefixes}
use Rattle.tl_height.proofs.filling.boundary_numbers.Given as goal

abbrev pub invariant-loop-k : goal.invariant-loop-k
invariant-loop-k l = ArePrefixes l.region l.circuit l.k l.numbers.items
