-- The head line of a sample.
use Rattle.std.specs.Prelude.{ℕ, List, [], ◌∷◌, Option, Some, None, codes, decimal}
use Rattle.tl_formats.specs.Texts.{line}

-- the number of a sample, and its start and its rank where they are told; a sample without a start is late
abbrev pub sample_line : ℕ → Option ℕ → Option ℕ → List ℕ
sample_line number None rank = line (codes "sample" ∷ decimal number ∷ codes "late" ∷ [])
sample_line number (Some start) None =
    line (codes "sample" ∷ decimal number ∷ codes "start" ∷ decimal start ∷ [])
sample_line number (Some start) (Some rank) =
    line (codes "sample" ∷ decimal number ∷ codes "start" ∷ decimal start ∷ codes "rank" ∷ decimal rank ∷ [])
