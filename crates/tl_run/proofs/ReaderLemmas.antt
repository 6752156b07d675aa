-- What is allowed by one reader after the other, and the statuses of what is allowed.
use Rattle.std.proofs.Common.{◌≡◌, inl, inr, ℕ, ◌≤◌, ◌<◌, Bool, true, false, List, length, Option, Some, None, refl, sym, subst, arith}
use Rattle.std.specs.Prelude.{◌==◌, nat_lt, MatchBool, MatchOption, IfSome, IsSomeAnd}
use Rattle.std.proofs.lemmas.Bool.{ltb-true, lt-ltb}
use Rattle.tl_definitions.specs.declared.Tile.{Tile}
use Rattle.tl_definitions.specs.Region.{Region}
use Rattle.tl_formats.specs.declared.TheConstants.{INPUT_LIMIT}
use Rattle.tl_formats.specs.Input.{first_section, further_section, rest_is_empty}
use Rattle.tl_formats.specs.RegionText.{RegionRefusal, IsRegionText, IsRefusedText}
use Rattle.tl_formats.specs.Drawing.{DrawingRefusal, Draws, drawing_refusal}
use Rattle.tl_definitions.specs.Obstruction.{Obstruction}
use Rattle.tl_formats.specs.ObstructionText.{first_bad_line, told}
use Rattle.tl_run.specs.Answers.{Answer, Allows, Is}
use Rattle.tl_run.specs.Refusals.{input_too_long, extra_text, region_refused, bad_obstruction}
use Rattle.tl_run.specs.Readers.{OfInput, RefusesRegion, OfRegion, OfDrawing, RefusesObstruction, OfObstruction, AtEnd}
use Rattle.tl_run.specs.Reading.{read_fault_status}

-- ---- what is allowed

pub OfInput-short : (input : List ℕ) (P : Allows) (a : Answer) → length input ≤ INPUT_LIMIT → P a → OfInput input P a
OfInput-short input P a h p = subst (λ (b : Bool). MatchBool b (Is input_too_long a) (P a)) (sym (short (nat_lt INPUT_LIMIT (length input)) refl)) p
  where
    short : (b : Bool) → nat_lt INPUT_LIMIT (length input) ≡ b → nat_lt INPUT_LIMIT (length input) ≡ false
    short true e = absurd (omega (arith, h, ltb-true INPUT_LIMIT (length input) e))
    short false e = e

pub OfInput-long : (input : List ℕ) (P : Allows) (a : Answer) → INPUT_LIMIT < length input → Is input_too_long a → OfInput input P a
OfInput-long input P a h p = subst (λ (b : Bool). MatchBool b (Is input_too_long a) (P a)) (sym (lt-ltb INPUT_LIMIT (length input) h)) p

-- a region that was told to be refused
pub RefusesRegion-told : (bytes : List ℕ) (told : Option RegionRefusal) (a : Answer) → IfSome told (IsRefusedText (first_section bytes).lines)
    → IsSomeAnd told (λ f. Is (region_refused f) a) → RefusesRegion bytes a
RefusesRegion-told bytes None a e p = absurd p
RefusesRegion-told bytes (Some f) a e p = (f, e, p)

pub OfRegion-read : (bytes rest : List ℕ) (R : Region) (P : Region → List ℕ → Allows) (a : Answer) → IsRegionText (first_section bytes).lines R
    → rest ≡ (first_section bytes).rest → P R rest a → OfRegion bytes P a
OfRegion-read bytes rest R P a text is p = inr (R, text, subst (λ (r : List ℕ). P R r a) is p)

pub OfDrawing-read : (refused : DrawingRefusal → Answer) (R : Region) (bytes rest : List ℕ) (A : List Tile) (P : List Tile → List ℕ → Allows) (a : Answer)
    → drawing_refusal R (further_section bytes).lines ≡ None → Draws R (further_section bytes).lines A → rest ≡ (further_section bytes).rest → P A rest a
    → OfDrawing refused R bytes P a
OfDrawing-read refused R bytes rest A P a none draws is p =
    let s = further_section bytes in
    subst (λ (o : Option DrawingRefusal). MatchOption o ((B : List Tile) × Draws R s.lines B × P B s.rest a) (λ f. Is (refused f) a)) (sym none)
    (A, draws, subst (λ (r : List ℕ). P A r a) is p)

-- a drawing that was told to be refused
pub OfDrawing-told : (refused : DrawingRefusal → Answer) (R : Region) (bytes : List ℕ) (told : Option DrawingRefusal) (P : List Tile → List ℕ → Allows) (a : Answer)
    → IfSome told (λ f. drawing_refusal R (further_section bytes).lines ≡ Some f) → IsSomeAnd told (λ f. Is (refused f) a) → OfDrawing refused R bytes P a
OfDrawing-told refused R bytes None P a e p = absurd p
OfDrawing-told refused R bytes (Some f) P a e p =
    let s = further_section bytes in
    subst (λ (o : Option DrawingRefusal). MatchOption o ((B : List Tile) × Draws R s.lines B × P B s.rest a) (λ g. Is (refused g) a)) (sym e) p

-- an obstruction's text that was told to be refused
pub RefusesObstruction-told : (bytes : List ℕ) (line : Option ℕ) (a : Answer) → IfSome line (λ i. first_bad_line (further_section bytes).lines ≡ Some i)
    → IsSomeAnd line (λ i. Is (bad_obstruction i) a) → RefusesObstruction bytes a
RefusesObstruction-told bytes None a e p = absurd p
RefusesObstruction-told bytes (Some i) a e p = (i, e, p)

pub OfObstruction-read : (bytes rest : List ℕ) (o : Obstruction) (P : Obstruction → List ℕ → Allows) (a : Answer)
    → first_bad_line (further_section bytes).lines ≡ None → told (further_section bytes).lines ≡ Some o → rest ≡ (further_section bytes).rest → P o rest a
    → OfObstruction bytes P a
OfObstruction-read bytes rest o P a good tells is p = inr (good, o, tells, subst (λ (r : List ℕ). P o r a) is p)

pub AtEnd-empty : (bytes : List ℕ) (P : Allows) (a : Answer) → rest_is_empty bytes ≡ true → P a → AtEnd bytes P a
AtEnd-empty bytes P a e p = subst (λ (b : Bool). MatchBool b (P a) (Is extra_text a)) (sym e) p

pub AtEnd-extra : (bytes : List ℕ) (P : Allows) (a : Answer) → rest_is_empty bytes ≡ false → Is extra_text a → AtEnd bytes P a
AtEnd-extra bytes P a e p = subst (λ (b : Bool). MatchBool b (P a) (Is extra_text a)) (sym e) p

-- ---- statuses

-- it has another status than that of a failed read
abbrev pub IsHeard : Allows
IsHeard a = (a.status == read_fault_status) ≡ false

pub Is-heard : (b a : Answer) → IsHeard b → Is b a → IsHeard a
Is-heard b a h e = subst IsHeard (sym e) h

pub OfInput-heard : (input : List ℕ) (P : Allows) (a : Answer) → (P a → IsHeard a) → OfInput input P a → IsHeard a
OfInput-heard input P a next p = go (nat_lt INPUT_LIMIT (length input)) p
  where
    go : (b : Bool) → MatchBool b (Is input_too_long a) (P a) → IsHeard a
    go true e = Is-heard input_too_long a refl e
    go false q = next q

pub OfRegion-heard : (bytes : List ℕ) (P : Region → List ℕ → Allows) (a : Answer) → ((R : Region) (rest : List ℕ) → P R rest a → IsHeard a)
    → OfRegion bytes P a → IsHeard a
OfRegion-heard bytes P a next (inl (f, t, e)) = Is-heard (region_refused f) a refl e
OfRegion-heard bytes P a next (inr (R, t, p)) = next R (first_section bytes).rest p

pub OfDrawing-heard : (refused : DrawingRefusal → Answer) (R : Region) (bytes : List ℕ) (P : List Tile → List ℕ → Allows) (a : Answer)
    → ((f : DrawingRefusal) → IsHeard (refused f)) → ((A : List Tile) (rest : List ℕ) → P A rest a → IsHeard a) → OfDrawing refused R bytes P a → IsHeard a
OfDrawing-heard refused R bytes P a told next p = go (drawing_refusal R (further_section bytes).lines) p
  where
    go : (o : Option DrawingRefusal)
        → MatchOption o ((A : List Tile) × Draws R (further_section bytes).lines A × P A (further_section bytes).rest a) (λ f. Is (refused f) a) → IsHeard a
    go None (A, d, q) = next A (further_section bytes).rest q
    go (Some f) e = Is-heard (refused f) a (told f) e

pub OfObstruction-heard : (bytes : List ℕ) (P : Obstruction → List ℕ → Allows) (a : Answer) → ((o : Obstruction) (rest : List ℕ) → P o rest a → IsHeard a)
    → OfObstruction bytes P a → IsHeard a
OfObstruction-heard bytes P a next (inl (i, t, e)) = Is-heard (bad_obstruction i) a refl e
OfObstruction-heard bytes P a next (inr (good, o, t, p)) = next o (further_section bytes).rest p

pub AtEnd-heard : (bytes : List ℕ) (P : Allows) (a : Answer) → (P a → IsHeard a) → AtEnd bytes P a → IsHeard a
AtEnd-heard bytes P a next p = go (rest_is_empty bytes) p
  where
    go : (b : Bool) → MatchBool b (P a) (Is extra_text a) → IsHeard a
    go true q = next q
    go false e = Is-heard extra_text a refl e
