use Rattle.std.proofs.Common.{◌≡◌, [], ◌∷◌, ◌++◌, length, take, flat_map, codes}
use Rattle.std.specs.Prelude.{decimal}
use Rattle.tl_formats.specs.Texts.{line, corner_words}
use Rattle.tl_run.proofs.path_text.path_text.Given as goal

abbrev pub invariant-loop-corner : goal.invariant-loop-corner
invariant-loop-corner l =
    l.text.items ≡ line (codes "flips" ∷ decimal (length l.path) ∷ []) ++ flat_map (λ v. line (corner_words v)) (take l.corner-index l.path)
