use Rattle.std.proofs.Common.{◌≡◌, ◌/◌, ◌%◌, map, length, take}
use Rattle.tl_lists.specs.Lists.{upto}
use Rattle.tl_grid.specs.Patterns.{facts_by}
use Rattle.tl_grid.proofs.patterns.FactTable.new.Given as goal

abbrev pub invariant-loop-i : goal.invariant-loop-i
invariant-loop-i l =
    record {
      done : take l.i l.all ≡ map (λ i. facts_by l.fn.kind (i / 64) (i % 64)) (upto l.i);
      size : length l.all ≡ 128;
    }
