-- What the letters of a drawing draw.
use Rattle.std.proofs.Common.{◌≡◌, ◌≢◌, ℕ, ◌<◌, Bool, true, false, not, ◌&&◌, inl, inr, List, [], ◌∷◌, refl, sym, ◌∙◌, ap, subst, Option, Some, None}
use Rattle.std.specs.Prelude.{find, option_and_then, option_map, IfSome}
use Rattle.std.specs.List.{list_all}
use Rattle.tl_definitions.specs.declared.Cell.{Cell}
use Rattle.tl_definitions.specs.declared.Tile.{Tile}
use Rattle.std.proofs.lemmas.Bool.{and_parts, or_cases}
use Rattle.tl_definitions.specs.Lattice.{cell_eq, cell_lt, are_neighbours}
use Rattle.tl_definitions.proofs.Cells.{cell_eq-same}
use Rattle.tl_lists.proofs.Tests.{same_test}
use Rattle.tl_definitions.specs.Region.{Region, has}
use Rattle.tl_formats.specs.Input.{Section}
use Rattle.tl_definitions.specs.Tiling.{partner, is_tile, is_tiling, covers, other_cell}
use Rattle.tl_formats.specs.Drawing.{named, named_at, Draws, is_matched, first_unmatched, drawing_refusal, DrawingRefusal, unmatched, letter}
use Rattle.tl_definitions.proofs.Partners.{IsMatched, tiles_by-tiling, partner-tiles_by}
use Rattle.tl_formats.proofs.Drawings.{AgreeOn, all-matched, find-none, drawn, refused-bad_letter, refused-unmatched, refused-none, first_unmatched-same, tiles_by-same, letter-named}
use Rattle.tl_grid.specs.Grid.{IsGrid}
use Rattle.tl_tiling.specs.Letters.{letter_at, partner_in, AreLetters, tiles_in, AreReadLetters, IsFirstBadLetter}

-- the letters name the partners that the lines name
agree : (R : Region) (lines : List (List ℕ)) (letters : List ℕ) → AreReadLetters R lines letters → AgreeOn R (named_at lines) (partner_in R letters)
agree R lines letters s a h = ap (option_and_then (λ b. named b a)) (s.read a h)

unmatched-lines : (R : Region) (lines : List (List ℕ)) (letters : List ℕ) → AreReadLetters R lines letters
    → first_unmatched R lines ≡ find (λ a. not (is_matched R (partner_in R letters) a)) R.cells
unmatched-lines R lines letters s = first_unmatched-same R (named_at lines) (partner_in R letters) (agree R lines letters s)

pub refused-letter : (R : Region) (lines : List (List ℕ)) (f : DrawingRefusal) → IsFirstBadLetter R lines f → drawing_refusal R lines ≡ Some f
refused-letter R lines f (a, is, first) = refused-bad_letter R lines a first ∙ ap (λ (g : DrawingRefusal). Some g) (sym is)

pub refused-cell : (R : Region) (lines : List (List ℕ)) (letters : List ℕ) (a : Cell) → AreReadLetters R lines letters
    → Some a ≡ find (λ a. not (is_matched R (partner_in R letters) a)) R.cells → drawing_refusal R lines ≡ Some (unmatched a)
refused-cell R lines letters a s e = refused-unmatched R lines a s.allowed (unmatched-lines R lines letters s ∙ sym e)

pub not_refused : (R : Region) (lines : List (List ℕ)) (letters : List ℕ) → AreReadLetters R lines letters
    → None ≡ find (λ a. not (is_matched R (partner_in R letters) a)) R.cells → drawing_refusal R lines ≡ None
not_refused R lines letters s e = refused-none R lines s.allowed (unmatched-lines R lines letters s ∙ sym e)

pub are_letters : (R : Region) (lines : List (List ℕ)) (letters : List ℕ) → AreReadLetters R lines letters
    → None ≡ find (λ a. not (is_matched R (partner_in R letters) a)) R.cells → AreLetters R letters
are_letters R lines letters s e = record { size = s.lettered.size; matched = find-none (is_matched R (partner_in R letters)) R.cells (sym e); dotted = s.lettered.dotted }

pub drawn_by : (R : Region) (lines : List (List ℕ)) (letters : List ℕ) → IsGrid R → AreReadLetters R lines letters
    → None ≡ find (λ a. not (is_matched R (partner_in R letters) a)) R.cells → Draws R lines (tiles_in R letters)
drawn_by R lines letters k s e =
    subst (Draws R lines) (tiles_by-same R (named_at lines) (partner_in R letters) (agree R lines letters s))
    (drawn R lines k.placed (not_refused R lines letters s e))

-- ---- a tiling that is kept as letters

pub letters-tiling : (R : Region) (letters : List ℕ) → IsGrid R → AreLetters R letters → is_tiling R (tiles_in R letters) ≡ true
letters-tiling R letters k s = tiles_by-tiling R (partner_in R letters) k.placed (all-matched R (partner_in R letters) s.matched)

pub letters-partner : (R : Region) (letters : List ℕ) (a : Cell) → IsGrid R → AreLetters R letters → has R a ≡ true → partner (tiles_in R letters) a ≡ partner_in R letters a
letters-partner R letters a k s h = partner-tiles_by R (partner_in R letters) k.placed (all-matched R (partner_in R letters) s.matched) a h

pub has_partner : (R : Region) (letters : List ℕ) (a : Cell) → AreLetters R letters → has R a ≡ true → partner_in R letters a ≢ None
has_partner R letters a s h e = cc (e, (all-matched R (partner_in R letters) s.matched a h).1)

-- ---- a section that stands where another one's lines are

-- the refusal that a fault tells, of the lines of one section or the other
pub refused_section : (R : Region) (told : Option DrawingRefusal) (s t : Section) → s ≡ t → IfSome told (IsFirstBadLetter R s.lines) → IfSome told (λ f. drawing_refusal R t.lines ≡ Some f)
refused_section R None s t e p = p
refused_section R (Some f) s t e p = subst (λ (u : Section). drawing_refusal R u.lines ≡ Some f) e (refused-letter R s.lines f p)

-- a cell that isn't in the region has no partner
no_partner : (R : Region) (A : List Tile) (a : Cell) → is_tiling R A ≡ true → has R a ≡ false → partner A a ≡ None
no_partner R A a t h = ap (option_map (λ t. other_cell t a)) (none A (and_parts _ _ (and_parts _ _ t).0).1)
  where
    not_covered : (t : Tile) → is_tile R t ≡ true → covers t a ≡ false
    not_covered t i =
        let p : ((has R t.first && has R t.second && cell_lt t.first t.second) ≡ true) × (are_neighbours R.kind t.first t.second ≡ true) = and_parts _ _ i in
        let q : ((has R t.first && has R t.second) ≡ true) × (cell_lt t.first t.second ≡ true) = and_parts _ _ p.0 in
        let both : (has R t.first ≡ true) × (has R t.second ≡ true) = and_parts _ _ q.0 in
        same_test (covers t a) false
        (λ c. elim (or_cases (cell_eq t.first a) _ c) [
          | inl e ↦ cc (sym both.0, ap (has R) (cell_eq-same t.first a e), h)
          | inr e ↦ cc (sym both.1, ap (has R) (cell_eq-same t.second a e), h)
        ])
        (λ c. cc c)

    none : (A : List Tile) → list_all (is_tile R) A ≡ true → find (λ t. covers t a) A ≡ None
    none [] i = refl
    none (t ∷ A) i = rw (not_covered t (and_parts _ _ i).0) (none A (and_parts _ _ i).1)

-- the letter that is printed at a place
pub letter-is : (R : Region) (letters : List ℕ) (a : Cell) → IsGrid R → AreLetters R letters → a.r < R.rows → a.c < R.columns
    → letter a (partner (tiles_in R letters) a) ≡ letter_at R letters a
letter-is R letters a k s h l = go (has R a) refl
  where
    go : (b : Bool) → has R a ≡ b → letter a (partner (tiles_in R letters) a) ≡ letter_at R letters a
    go true e =
        let m : IsMatched R (partner_in R letters) a = all-matched R (partner_in R letters) s.matched a e in
        ap (letter a) (letters-partner R letters a k s e ∙ m.1) ∙ letter-named (letter_at R letters a) a m.0 m.1
    go false e = ap (letter a) (no_partner R (tiles_in R letters) a (letters-tiling R letters k s) e) ∙ sym (s.dotted a h l e)
