use Rattle.std.proofs.Common.{◌≡◌, ℕ, ◌<◌, true}
use Rattle.tl_definitions.specs.Lattice.{cell}
use Rattle.tl_tiling.specs.Letters.{is_settled}
use Rattle.tl_tiling.proofs.matching.first_unmatched.Given as goal

abbrev pub invariant-loop-r : goal.invariant-loop-r
invariant-loop-r l = (i k : ℕ) → i < l.r → k < l.region.columns → is_settled l.region l.letters (cell i k) ≡ true

abbrev pub invariant-loop-c : goal.invariant-loop-c
invariant-loop-c l = (k : ℕ) → k < l.c → is_settled l.region l.letters (cell l.r k) ≡ true
