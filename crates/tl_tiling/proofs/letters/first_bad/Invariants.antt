use Rattle.std.proofs.Common.{◌≡◌, ℕ, ◌<◌, true}
use Rattle.tl_definitions.specs.Lattice.{cell}
use Rattle.tl_tiling.specs.Letters.{is_allowed_in}
use Rattle.tl_tiling.proofs.letters.first_bad.Given as goal

abbrev pub invariant-loop-c : goal.invariant-loop-c
invariant-loop-c l = (k : ℕ) → k < l.c → is_allowed_in l.region l.line (cell l.r k) ≡ true
