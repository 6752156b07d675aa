-- Readers of an input: each hands on what it read and the bytes that follow, or its refusal is the answer. So the order
-- of refusals is the order in which readers stand inside one another.
use Rattle.std.specs.Prelude.{◌≡◌, ◌⊎◌, ℕ, Some, None, nat_lt, List, length, MatchBool, MatchOption}
use Rattle.tl_definitions.specs.declared.Tile.{Tile}
use Rattle.tl_definitions.specs.Region.{Region}
use Rattle.tl_formats.specs.Input.{first_section, further_section, rest_is_empty}
use Rattle.tl_formats.specs.declared.TheConstants.{INPUT_LIMIT}
use Rattle.tl_formats.specs.RegionText.{RegionRefusal, IsRegionText, IsRefusedText}
use Rattle.tl_formats.specs.Drawing.{DrawingRefusal, drawing_refusal, Draws}
use Rattle.tl_definitions.specs.Obstruction.{Obstruction}
use Rattle.tl_formats.specs.ObstructionText.{first_bad_line, told}
use Rattle.tl_run.specs.Answers.{Answer, Allows, Is}
use Rattle.tl_run.specs.Refusals.{input_too_long, extra_text, region_refused, bad_obstruction}

-- an input, where it isn't too long
abbrev pub OfInput : List ℕ → Allows → Allows
OfInput input P a = MatchBool (nat_lt INPUT_LIMIT (length input)) (Is input_too_long a) (P a)

-- the lines of the first section are refused, for their first cause
abbrev pub RefusesRegion : List ℕ → Allows
RefusesRegion bytes a = (f : RegionRefusal) × IsRefusedText (first_section bytes).lines f × Is (region_refused f) a

-- the region of the first section
abbrev pub OfRegion : List ℕ → (Region → List ℕ → Allows) → Allows
OfRegion bytes P a =
    let s = first_section bytes in
    RefusesRegion bytes a ⊎ ((R : Region) × IsRegionText s.lines R × P R s.rest a)

-- the lines of a further section draw no tiling, for this first cause
abbrev pub RefusesDrawing : (DrawingRefusal → Answer) → Region → List ℕ → Allows
RefusesDrawing refused R bytes a =
    (f : DrawingRefusal) × (drawing_refusal R (further_section bytes).lines ≡ Some f) × Is (refused f) a

-- The tiling that a further section draws. What a refused drawing is answered with is the command's affair.
abbrev pub OfDrawing : (DrawingRefusal → Answer) → Region → List ℕ → (List Tile → List ℕ → Allows) → Allows
OfDrawing refused R bytes P a =
    let s = further_section bytes in
    MatchOption (drawing_refusal R s.lines)
    ((A : List Tile) × Draws R s.lines A × P A s.rest a)
    (λ f. Is (refused f) a)

-- a line of the further section is wrong, missing or too much
abbrev pub RefusesObstruction : List ℕ → Allows
RefusesObstruction bytes a =
    (i : ℕ) × (first_bad_line (further_section bytes).lines ≡ Some i) × Is (bad_obstruction i) a

-- the obstruction that a further section tells
abbrev pub OfObstruction : List ℕ → (Obstruction → List ℕ → Allows) → Allows
OfObstruction bytes P a =
    let s = further_section bytes in
    RefusesObstruction bytes a
    ⊎ ((first_bad_line s.lines ≡ None) × (o : Obstruction) × (told s.lines ≡ Some o) × P o s.rest a)

-- the end of the input: only line ends stand there
abbrev pub AtEnd : List ℕ → Allows → Allows
AtEnd bytes P a = MatchBool (rest_is_empty bytes) (P a) (Is extra_text a)
