use Rattle.std.proofs.Common.{◌≡◌, ℕ, ◌<◌, ◌≤◌, true}
use Rattle.std.specs.Prelude.{slice_get}
use Rattle.tl_formats.specs.RegionText.{is_blank}
use Rattle.tl_tiling.proofs.letters.are_blank.Given as goal

abbrev pub invariant-loop-c : goal.invariant-loop-c
invariant-loop-c l = l.fine ≡ true → (k : ℕ) → l.from ≤ k → k < l.c → is_blank (slice_get l.line k) ≡ true
