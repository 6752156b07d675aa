-- What `check` answers: whether a drawing is one of a tiling.
use Rattle.std.specs.Prelude.{ℕ, List, [], ◌∷◌, codes}
use Rattle.tl_definitions.specs.Region.{Region}
use Rattle.tl_formats.specs.Texts.{line}
use Rattle.tl_run.specs.Answers.{Answer, answer, Allows, Is}
use Rattle.tl_run.specs.Refusals.{check_refused}
use Rattle.tl_run.specs.Readers.{OfRegion, OfDrawing, AtEnd}

abbrev pub yes : Answer
yes = answer (line (codes "yes" ∷ [])) 0

abbrev pub DrawingReply : Region → List ℕ → Allows
DrawingReply R rest = OfDrawing check_refused R rest (λ A rest. AtEnd rest (Is yes))

abbrev pub CheckReply : List ℕ → Allows
CheckReply input = OfRegion input DrawingReply
