use Rattle.std.proofs.Common.{◌≡◌, ◌<◌, ℕ, false, get_or, if◌then◌else◌}
use Rattle.tl_height.specs.Letters.{triangle_letter}
use Rattle.tl_height.proofs.letters.write_triangles.Given as goal

abbrev pub invariant-loop-c : goal.invariant-loop-c
invariant-loop-c l =
    (k : ℕ) → k < l.c → get_or l.line k 0 ≡ (if get_or l.flags k false then triangle_letter l.r l.upper l.lower k else 46)
