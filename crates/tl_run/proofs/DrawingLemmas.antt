-- Two drawings, one after the other.
use Rattle.std.proofs.Common.{◌≡◌, ℕ, Bool, true, false, List, Option, Some, None, sym, subst}
use Rattle.std.specs.Prelude.{MatchBool, MatchOption, IfSome, IsSomeAnd}
use Rattle.tl_definitions.specs.declared.Tile.{Tile}
use Rattle.tl_definitions.specs.Region.{Region}
use Rattle.tl_formats.specs.Drawing.{DrawingRefusal, Draws, drawing_refusal}
use Rattle.tl_formats.specs.Input.{further_section, rest_is_empty}
use Rattle.tl_run.specs.Answers.{Answer, Allows, Is}
use Rattle.tl_run.specs.Flips.{TwoDrawings, RefusesDrawings, AreDrawn}
use Rattle.tl_run.specs.Readers.{OfDrawing, RefusesDrawing, AtEnd}
use Rattle.tl_run.specs.Refusals.{drawing_refused, extra_text}
use Rattle.tl_run.proofs.ReaderLemmas.{OfDrawing-told, OfDrawing-read}

pub OfDrawing-refused : (refused : DrawingRefusal → Answer) (R : Region) (bytes : List ℕ) (P : List Tile → List ℕ → Allows) (a : Answer)
    → RefusesDrawing refused R bytes a → OfDrawing refused R bytes P a
OfDrawing-refused refused R bytes P a (f, e, p) = OfDrawing-told refused R bytes (Some f) P a e p

-- a drawing that was told to be refused
pub RefusesDrawing-told : (refused : DrawingRefusal → Answer) (R : Region) (bytes : List ℕ) (told : Option DrawingRefusal) (a : Answer)
    → IfSome told (λ f. drawing_refusal R (further_section bytes).lines ≡ Some f) → IsSomeAnd told (λ f. Is (refused f) a) → RefusesDrawing refused R bytes a
RefusesDrawing-told refused R bytes None a e p = absurd p
RefusesDrawing-told refused R bytes (Some f) a e p = (f, e, p)

OfDrawing-weaker : (refused : DrawingRefusal → Answer) (R : Region) (bytes : List ℕ) (P Q : List Tile → List ℕ → Allows) (a : Answer)
    → ((A : List Tile) (rest : List ℕ) → P A rest a → Q A rest a) → OfDrawing refused R bytes P a → OfDrawing refused R bytes Q a
OfDrawing-weaker refused R bytes P Q a f p = go (drawing_refusal R (further_section bytes).lines) p
  where
    go : (o : Option DrawingRefusal)
        → MatchOption o ((A : List Tile) × Draws R (further_section bytes).lines A × P A (further_section bytes).rest a) (λ r. Is (refused r) a)
        → MatchOption o ((A : List Tile) × Draws R (further_section bytes).lines A × Q A (further_section bytes).rest a) (λ r. Is (refused r) a)
    go None (A, d, q) = (A, d, f A (further_section bytes).rest q)
    go (Some r) e = e

pub AtEnd-weaker : (bytes : List ℕ) (P Q : Allows) (a : Answer) → (P a → Q a) → AtEnd bytes P a → AtEnd bytes Q a
AtEnd-weaker bytes P Q a f p = go (rest_is_empty bytes) p
  where
    go : (b : Bool) → MatchBool b (P a) (Is extra_text a) → MatchBool b (Q a) (Is extra_text a)
    go true q = f q
    go false e = e

pub TwoDrawings-weaker : (R : Region) (bytes : List ℕ) (P Q : List Tile → List Tile → Allows) (a : Answer) → ((A B : List Tile) → P A B a → Q A B a)
    → TwoDrawings R bytes P a → TwoDrawings R bytes Q a
TwoDrawings-weaker R bytes P Q a f p =
    OfDrawing-weaker (drawing_refused 1) R bytes (λ A rest. OfDrawing (drawing_refused 2) R rest (λ B end. AtEnd end (P A B))) (λ A rest. OfDrawing (drawing_refused 2) R rest (λ B end. AtEnd end (Q A B))) a
    (λ A rest. OfDrawing-weaker (drawing_refused 2) R rest (λ B end. AtEnd end (P A B)) (λ B end. AtEnd end (Q A B)) a (λ B end. AtEnd-weaker end (P A B) (Q A B) a (f A B)))
    p

pub TwoDrawings-refused : (R : Region) (bytes : List ℕ) (P : List Tile → List Tile → Allows) (a : Answer) → RefusesDrawings R bytes a → TwoDrawings R bytes P a
TwoDrawings-refused R bytes P a = TwoDrawings-weaker R bytes (λ A B b. ⊥) P a (λ A B e. absurd e)

pub TwoDrawings-drawn : (R : Region) (bytes : List ℕ) (A B : List Tile) (P : List Tile → List Tile → Allows) (a : Answer) → AreDrawn R bytes A B → P A B a
    → TwoDrawings R bytes P a
TwoDrawings-drawn R bytes A B P a drawn p =
    TwoDrawings-weaker R bytes (λ C D b. (C ≡ A) × (D ≡ B)) P a
    (λ C D e. subst (λ (X : List Tile). P X D a) (sym e.0) (subst (λ (Y : List Tile). P A Y a) (sym e.1) p)) (drawn a)

-- ---- one drawing after the other

pub first-read : (R : Region) (bytes rest : List ℕ) (A : List Tile) (P : List Tile → List Tile → Allows) (a : Answer)
    → drawing_refusal R (further_section bytes).lines ≡ None → Draws R (further_section bytes).lines A → rest ≡ (further_section bytes).rest
    → OfDrawing (drawing_refused 2) R rest (λ B end. AtEnd end (P A B)) a → TwoDrawings R bytes P a
first-read R bytes rest A P a =
    OfDrawing-read (drawing_refused 1) R bytes rest A (λ C mid. OfDrawing (drawing_refused 2) R mid (λ B end. AtEnd end (P C B))) a

pub second-read : (R : Region) (bytes end : List ℕ) (A B : List Tile) (P : List Tile → List Tile → Allows) (a : Answer)
    → drawing_refusal R (further_section bytes).lines ≡ None → Draws R (further_section bytes).lines B → end ≡ (further_section bytes).rest
    → AtEnd end (P A B) a → OfDrawing (drawing_refused 2) R bytes (λ B end. AtEnd end (P A B)) a
second-read R bytes end A B P a = OfDrawing-read (drawing_refused 2) R bytes end B (λ D last. AtEnd last (P A D)) a
