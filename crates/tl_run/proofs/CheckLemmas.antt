-- The parts of the reply of `check`.
use Rattle.std.proofs.Common.{◌≡◌, ℕ, List, drop, Option, Some, None, ◌∙◌, ap}
use Rattle.std.specs.Prelude.{IfSome, IsSomeAnd}
use Rattle.tl_definitions.specs.declared.Tile.{Tile}
use Rattle.tl_definitions.specs.Region.{Region}
use Rattle.tl_formats.specs.Input.{first_section, further_section, taken}
use Rattle.tl_formats.specs.RegionText.{IsRegionText}
use Rattle.tl_formats.specs.Drawing.{DrawingRefusal, Draws, drawing_refusal}
use Rattle.tl_formats.proofs.Lines.{drop-further}
use Rattle.tl_run.specs.Answers.{Answer, Is}
use Rattle.tl_run.specs.Refusals.{check_refused}
use Rattle.tl_run.specs.Readers.{AtEnd}
use Rattle.tl_run.specs.Check.{yes, DrawingReply, CheckReply}
use Rattle.tl_run.proofs.ReaderLemmas.{OfRegion-read, OfDrawing-read, OfDrawing-told}

pub check-refused : (input rest : List ℕ) (R : Region) (told : Option DrawingRefusal) (a : Answer) → IsRegionText (first_section input).lines R
    → rest ≡ (first_section input).rest → IfSome told (λ f. drawing_refusal R (further_section rest).lines ≡ Some f)
    → IsSomeAnd told (λ f. Is (check_refused f) a) → CheckReply input a
check-refused input rest R told a text is refused p =
    OfRegion-read input rest R DrawingReply a text is (OfDrawing-told check_refused R rest told (λ A end. AtEnd end (Is yes)) a refused p)

-- a drawing that isn't refused, and what follows it
pub check-drawn : (input rest end : List ℕ) (n : ℕ) (R : Region) (A : List Tile) (a : Answer) → IsRegionText (first_section input).lines R
    → rest ≡ (first_section input).rest → drawing_refusal R (further_section rest).lines ≡ None → Draws R (further_section rest).lines A
    → n ≡ taken rest (further_section rest) → end ≡ drop n rest → AtEnd end (Is yes) a → CheckReply input a
check-drawn input rest end n R A a text is allowed draws taken_is back p =
    OfRegion-read input rest R DrawingReply a text is
    (OfDrawing-read check_refused R rest end A (λ B last. AtEnd last (Is yes)) a allowed draws
    (back ∙ ap (λ (m : ℕ). drop m rest) taken_is ∙ drop-further rest) p)
