-- What `refute` answers: whether a text tells why the region has no tiling.
use Rattle.std.specs.Prelude.{◌⊎◌, ℕ, List, [], ◌∷◌, codes}
use Rattle.tl_definitions.specs.Region.{Region}
use Rattle.tl_definitions.specs.Obstruction.{Obstruction, IsObstruction}
use Rattle.tl_formats.specs.Texts.{line}
use Rattle.tl_run.specs.Answers.{Answer, answer, Allows, Is}
use Rattle.tl_run.specs.Readers.{OfRegion, OfObstruction, AtEnd}

abbrev pub refuted : Answer
refuted = answer (line (codes "refuted" ∷ [])) 0

abbrev pub not_refuted : Answer
not_refuted = answer (line (codes "not refuted" ∷ [])) 1

-- the reason holds of the region, or it doesn't
abbrev pub Judged : Region → Obstruction → Allows
Judged R o a = (IsObstruction R o × Is refuted a) ⊎ ((¬ IsObstruction R o) × Is not_refuted a)

abbrev pub ReasonReply : Region → List ℕ → Allows
ReasonReply R rest = OfObstruction rest (λ o rest. AtEnd rest (Judged R o))

abbrev pub RefuteReply : List ℕ → Allows
RefuteReply input = OfRegion input ReasonReply
