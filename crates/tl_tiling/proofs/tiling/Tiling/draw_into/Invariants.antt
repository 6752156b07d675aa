use Rattle.std.proofs.Common.{◌≡◌, ◌*◌, ◌+◌, take}
use Rattle.tl_tiling.proofs.PrintLemmas.{lines_of}
use Rattle.tl_tiling.proofs.tiling.Tiling.draw_into.Given as goal

abbrev pub invariant-loop-r : goal.invariant-loop-r
invariant-loop-r l = take (l.r * (l.columns + 1)) l.out ≡ lines_of l.columns l.self-inside.letters.items 0 l.r
