use Rattle.std.proofs.Common.{◌≡◌, ℕ, List, Some, None, sym, ◌∙◌, subst}
use Rattle.std.specs.Prelude.{find, not}
use Rattle.std.proofs.lemmas.Result.{err_from_is_err_and}
use Rattle.tl_formats.specs.Input.{Section, further_section}
use Rattle.tl_definitions.specs.Tiling.{Tiled}
use Rattle.tl_formats.specs.Drawing.{Draws, drawing_refusal, unmatched, is_matched}
use Rattle.tl_lines.specs.Lines.{section_at}
use Rattle.tl_tiling.specs.Letters.{partner_in, tiles_in}
use Rattle.tl_tiling.proofs.DrawLemmas.{refused-cell, not_refused, are_letters, drawn_by, refused_section}
use Rattle.tl_tiling.proofs.PrintedLemmas.{printed-same, printed-none}
use Rattle.tl_tiling.proofs.reading.read_drawing.Goals as goal

pub returns-in_err-letters-clause-refused : goal.returns-in_err-letters-clause-refused
returns-in_err-letters-clause-refused c =
    let p = err_from_is_err_and c.from_residual.result c.from_residual.ensures.1 in
    rw (p.1, p.2)
    (refused_section c.args.region.now _ (section_at c.skip_empty_lines.result.now) (further_section c.args.bytes.now) c.skip_empty_lines.ensures.section c.in_err-letters.ensures.refused)

pub returns-in-Some-clause-refused : goal.returns-in-Some-clause-refused
returns-in-Some-clause-refused c =
    let R = c.args.region.now in
    let s = section_at c.skip_empty_lines.result.now in
    let first = subst (λ (l : List ℕ). Some c.in-Some.cell ≡ find (λ a. not (is_matched R (partner_in R l) a)) R.cells) c.as_slice.ensures.value c.in-Some.ensures.first in
    subst (λ (u : Section). drawing_refusal R u.lines ≡ Some (unmatched c.in-Some.cell)) c.skip_empty_lines.ensures.section
    (refused-cell R s.lines c.in_ok-letters.letters.items c.in-Some.cell c.in_ok-letters.ensures.read first)

pub of-requires-clause-is_grid : goal.of-requires-clause-is_grid
of-requires-clause-is_grid c = c.first_unmatched.ensures.is_grid

pub of-requires-clause-letters : goal.of-requires-clause-letters
of-requires-clause-letters c =
    let R = c.args.region.now in
    let s = section_at c.skip_empty_lines.result.now in
    let none = subst (λ (l : List ℕ). None ≡ find (λ a. not (is_matched R (partner_in R l) a)) R.cells) c.as_slice.ensures.value (sym c.in_default.is ∙ c.first_unmatched.ensures.first) in
    are_letters R s.lines c.in_ok-letters.letters.items c.in_ok-letters.ensures.read none

pub returns-clause-drawn : goal.returns-clause-drawn
returns-clause-drawn c =
    let R = c.args.region.now in
    let s = section_at c.skip_empty_lines.result.now in
    let none = subst (λ (l : List ℕ). None ≡ find (λ a. not (is_matched R (partner_in R l) a)) R.cells) c.as_slice.ensures.value (sym c.in_default.is ∙ c.first_unmatched.ensures.first) in
    subst (λ (t : Tiled). Draws R (further_section c.args.bytes.now).lines t.tiles) (sym c.of.ensures)
    (subst (λ (u : Section). Draws R u.lines (tiles_in R c.in_ok-letters.letters.items)) c.skip_empty_lines.ensures.section
    (drawn_by R s.lines c.in_ok-letters.letters.items c.first_unmatched.ensures.is_grid c.in_ok-letters.ensures.read none))

pub returns-clause-allowed : goal.returns-clause-allowed
returns-clause-allowed c =
    let R = c.args.region.now in
    let s = section_at c.skip_empty_lines.result.now in
    let none = subst (λ (l : List ℕ). None ≡ find (λ a. not (is_matched R (partner_in R l) a)) R.cells) c.as_slice.ensures.value (sym c.in_default.is ∙ c.first_unmatched.ensures.first) in
    subst (λ (u : Section). drawing_refusal R u.lines ≡ None) c.skip_empty_lines.ensures.section (not_refused R s.lines c.in_ok-letters.letters.items c.in_ok-letters.ensures.read none)

pub returns-in_err-letters-clause-printed : goal.returns-in_err-letters-clause-printed
returns-in_err-letters-clause-printed c =
    let R = c.args.region.now in
    let p = err_from_is_err_and c.from_residual.result c.from_residual.ensures.1 in
    rw (p.1, p.2)
    (λ A rest t b e. printed-none R c.args.bytes.now rest A _ c.in_err-letters.ensures.is_grid
    (refused_section R _ (section_at c.skip_empty_lines.result.now) (further_section c.args.bytes.now) c.skip_empty_lines.ensures.section c.in_err-letters.ensures.refused) t b e)

pub returns-in-Some-clause-printed : goal.returns-in-Some-clause-printed
returns-in-Some-clause-printed c =
    let R = c.args.region.now in
    let s = section_at c.skip_empty_lines.result.now in
    let first = subst (λ (l : List ℕ). Some c.in-Some.cell ≡ find (λ a. not (is_matched R (partner_in R l) a)) R.cells) c.as_slice.ensures.value c.in-Some.ensures.first in
    let told = subst (λ (u : Section). drawing_refusal R u.lines ≡ Some (unmatched c.in-Some.cell)) c.skip_empty_lines.ensures.section
    (refused-cell R s.lines c.in_ok-letters.letters.items c.in-Some.cell c.in_ok-letters.ensures.read first) in
    λ A rest t b e. printed-none R c.args.bytes.now rest A (Some (unmatched c.in-Some.cell)) c.first_unmatched.ensures.is_grid told t b e

pub returns-clause-again : goal.returns-clause-again
returns-clause-again c =
    let R = c.args.region.now in
    let s = section_at c.skip_empty_lines.result.now in
    let is_grid = c.first_unmatched.ensures.is_grid in
    let none = subst (λ (l : List ℕ). None ≡ find (λ a. not (is_matched R (partner_in R l) a)) R.cells) c.as_slice.ensures.value (sym c.in_default.is ∙ c.first_unmatched.ensures.first) in
    let drawn = subst (λ (u : Section). Draws R u.lines (tiles_in R c.in_ok-letters.letters.items)) c.skip_empty_lines.ensures.section
    (drawn_by R s.lines c.in_ok-letters.letters.items is_grid c.in_ok-letters.ensures.read none) in
    λ A rest t b e. subst (λ (u : Tiled). u.tiles ≡ A) (sym c.of.ensures)
    (printed-same R c.args.bytes.now rest A (tiles_in R c.in_ok-letters.letters.items) is_grid drawn t b e)
