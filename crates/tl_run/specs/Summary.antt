-- What `gen` with its flag answers: how many cells and inner corners the region of a shape has, how far its bottom and
-- its top tiling lie apart, and of each sample its start and its rank. It reads no input.
--
-- The region is the one that the text of the shape is of, read as an input is. Nothing here says that no such text is
-- refused: were one refused, the answer would be that of an input.
use Rattle.std.specs.Prelude.{◌≡◌, ◌⊎◌, ℕ, List, [], ◌∷◌, ◌++◌, length, codes, decimal}
use Rattle.std.specs.Fmt.{signed_decimal}
use Rattle.tl_definitions.specs.declared.Tile.{Tile}
use Rattle.tl_definitions.specs.Flip.{IsTop}
use Rattle.tl_definitions.specs.Obstruction.{Obstruction, Open, Gap}
use Rattle.tl_definitions.specs.Region.{Region, inner_corners}
use Rattle.tl_extreme.specs.Verdicts.{IsReason}
use Rattle.tl_formats.specs.Texts.{line}
use Rattle.tl_outcomes.specs.Entries.{IsRank, RankedEntries}
use Rattle.tl_text.specs.Shapes.{shape_text}
use Rattle.tl_text.specs.declared.GenJob.{GenJob}
use Rattle.tl_text.specs.declared.SampleJob.{SampleJob}
use Rattle.tl_run.specs.Answers.{answer, Allows, Is}
use Rattle.tl_run.specs.InEntries.{IsInEntries}
use Rattle.tl_run.specs.Samples.{OfSampled}

-- the counts of the cells and of the inner corners
abbrev pub counts_text : Region → List ℕ
counts_text R =
    line (codes "cells" ∷ decimal (length R.cells) ∷ [])
    ++ line (codes "corners" ∷ decimal (length (inner_corners R)) ∷ [])

-- ---- a region without a tiling

-- the kind of a reason, and the total of an open one
abbrev pub reason_line : Obstruction → List ℕ
reason_line (Open n) = line (codes "none" ∷ codes "open" ∷ signed_decimal n ∷ [])
reason_line (Gap rise path) = line (codes "none" ∷ codes "gap" ∷ [])

-- the region has no tiling, for a reason of this kind, an open one exactly where the total isn't 0
abbrev pub IsUntiled : Region → Allows
IsUntiled R a = (o : Obstruction) × IsReason R o × Is (answer (counts_text R ++ reason_line o) 1) a

-- ---- a region with a tiling

-- the flip distance from the bottom tiling to the top tiling
abbrev pub IsSpan : Region → ℕ → Type 0
IsSpan R span = (A : List Tile) × IsTop R A × IsRank R A span

-- the counts and the span
abbrev pub IsSummaryHead : Region → List ℕ → Type 0
IsSummaryHead R head =
    (span : ℕ) × IsSpan R span × (head ≡ counts_text R ++ line (codes "span" ∷ decimal span ∷ []))

-- the head, and a line for each number below the count, once and in order
abbrev pub IsSummary : Region → SampleJob → Allows
IsSummary R job a = (head : List ℕ) × IsSummaryHead R head × IsInEntries (RankedEntries R job) head job.count a

-- ---- the reply

abbrev pub Summarized : Region → SampleJob → Allows
Summarized R job a = IsSummary R job a ⊎ IsUntiled R a

-- The workers and the bands have no part in it.
abbrev pub SummaryReply : GenJob → Allows
SummaryReply gen = OfSampled gen.job (shape_text gen.shape gen.order) (λ R. Summarized R gen.job)
