use Rattle.std.proofs.Common.{◌≡◌, ◌++◌, take, flat_map}
use Rattle.tl_formats.specs.Texts.{line, corner_words}
use Rattle.tl_obstruction.proofs.writing.write_corners.Given as goal

abbrev pub invariant-loop-corner : goal.invariant-loop-corner
invariant-loop-corner l = l.text.items ≡ l.fn.text.items ++ flat_map (λ v. line (corner_words v)) (take l.corner-index l.path)
