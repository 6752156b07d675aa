-- What `flips` and `distance` answer to two drawn tilings of one region: a shortest flip path from the first to the
-- second, and how many flips it has.
use Rattle.std.specs.Prelude.{◌≡◌, ℕ, nat_lt, if◌then◌else◌, List, [], ◌∷◌, ◌++◌, length, flat_map, codes, decimal}
use Rattle.tl_definitions.specs.declared.Corner.{Corner}
use Rattle.tl_definitions.specs.declared.Tile.{Tile}
use Rattle.tl_definitions.specs.Region.{Region}
use Rattle.tl_definitions.specs.Flip.{IsShortestFlipPath, IsFlipDistance}
use Rattle.tl_formats.specs.Texts.{line, corner_words}
use Rattle.tl_flip.specs.declared.shortest.TheConstants.{FLIP_LIMIT}
use Rattle.tl_run.specs.Answers.{Answer, answer, Allows, Is}
use Rattle.tl_run.specs.Refusals.{drawing_refused}
use Rattle.tl_run.specs.Readers.{OfRegion, OfDrawing, AtEnd}

-- The tilings of two drawings, one after the other, and nothing more. The first refusal is that of the first drawing, or
-- else that of the second.
abbrev pub TwoDrawings : Region → List ℕ → (List Tile → List Tile → Allows) → Allows
TwoDrawings R bytes P =
    OfDrawing (drawing_refused 1) R bytes (λ A rest. OfDrawing (drawing_refused 2) R rest (λ B end. AtEnd end (P A B)))

-- one of the drawings is refused, or something follows them
abbrev pub RefusesDrawings : Region → List ℕ → Allows
RefusesDrawings R bytes = TwoDrawings R bytes (λ A B a. ⊥)

-- the drawings are those of these tilings, and nothing follows them
abbrev pub AreDrawn : Region → List ℕ → List Tile → List Tile → Type 0
AreDrawn R bytes A B = (a : Answer) → TwoDrawings R bytes (λ C D b. (C ≡ A) × (D ≡ B)) a

-- ---- flips

-- how many flips there are, and a line for each corner
abbrev pub flips_text : List Corner → List ℕ
flips_text path = line (codes "flips" ∷ decimal (length path) ∷ []) ++ flat_map (λ v. line (corner_words v)) path

abbrev pub too_long : ℕ → Answer
too_long n = answer (line (codes "too long" ∷ decimal n ∷ [])) 8

-- a path, but only the number of its flips where they are too many
abbrev pub told_path : List Corner → Answer
told_path path = if nat_lt FLIP_LIMIT (length path) then too_long (length path) else answer (flips_text path) 0

-- a shortest flip path from the one tiling to the other
abbrev pub IsPathAnswer : Region → List Tile → List Tile → Allows
IsPathAnswer R A B a = (path : List Corner) × IsShortestFlipPath R A B path × Is (told_path path) a

abbrev pub FlipsReply : List ℕ → Allows
FlipsReply input = OfRegion input (λ R rest. TwoDrawings R rest (IsPathAnswer R))

-- ---- distance

abbrev pub told_distance : ℕ → Answer
told_distance n = answer (line (codes "distance" ∷ decimal n ∷ [])) 0

-- the least number of flips from the one tiling to the other
abbrev pub IsDistanceAnswer : Region → List Tile → List Tile → Allows
IsDistanceAnswer R A B a = (n : ℕ) × IsFlipDistance R A B n × Is (told_distance n) a

abbrev pub DistanceReply : List ℕ → Allows
DistanceReply input = OfRegion input (λ R rest. TwoDrawings R rest (IsDistanceAnswer R))
