use Rattle.std.proofs.Common.{◌≡◌, ℕ, ◌<◌, true, false, get_or}
use Rattle.tl_definitions.specs.Lattice.{cell}
use Rattle.tl_definitions.specs.Region.{has}
use Rattle.tl_tiling.proofs.letters.put_letters.Given as goal

abbrev pub invariant-loop-c : goal.invariant-loop-c
invariant-loop-c l =
    record {
      put : (k : ℕ) → k < l.c → has l.region (cell l.r k) ≡ true → get_or l.row k 0 ≡ get_or l.line k 0;
      kept : (k : ℕ) → has l.region (cell l.r k) ≡ false → get_or l.row k 0 ≡ get_or l.fn.row k 0;
    }
