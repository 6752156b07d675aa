use Rattle.std.proofs.Common.{◌≡◌, drop}
use Rattle.std.specs.Prelude.{find, nat_le}
use Rattle.tl_tiling.proofs.letters.first_cell_from.Given as goal

abbrev pub invariant-loop-i : goal.invariant-loop-i
invariant-loop-i l = find (λ a. nat_le l.from a.r) (drop l.i l.region.cells) ≡ find (λ a. nat_le l.from a.r) l.region.cells
