-- What is read of the rows so far, and which cells of them are kept.
use Rattle.std.proofs.Common.{◌≡◌, ℕ, ◌+◌, true, ◌≤◌, List, [], ◌∷◌, ◌++◌, map, length, refl, sym, ◌∙◌, ap, arith, append_assoc, Option, Some, None}
use Rattle.std.specs.Prelude.{nat_lt, nat_le, slice_get, fold, max}
use Rattle.std.proofs.lemmas.Bool.{lt-ltb, le-leb}
use Rattle.tl_definitions.specs.declared.Cell.{Cell}
use Rattle.tl_formats.specs.Input.{Section}
use Rattle.tl_formats.specs.RegionText.{longest}
use Rattle.tl_formats.specs.Marks.{marks, text_marks, is_hash, is_bad}
use Rattle.tl_formats.proofs.RegionTexts.{fold_max-above}
use Rattle.tl_definitions.specs.declared.TheConstants.{SIDE_LIMIT}
use Rattle.tl_region.specs.Rows.{kept_of_row, kept_of_rows}

nil_of_first : {A : Type 0} (xs : List A) → slice_get xs 0 ≡ None → xs ≡ []
nil_of_first [] e = refl
nil_of_first (x ∷ xs) e = cc e

first-append : {A : Type 0} (xs ys : List A) (a : A) → slice_get xs 0 ≡ Some a → slice_get (xs ++ ys) 0 ≡ Some a
first-append [] ys a e = cc e
first-append (x ∷ xs) ys a e = e

-- What was read of a section's rows, and what is left of them: the numbers so far and those of what is left
-- make up those of all.
pub record AreReadSoFar (all left : Section) (r width : ℕ) (found : List Cell) : Type 0 where
  pub rest : left.rest ≡ all.rest
  pub count : r + length left.lines ≡ length all.lines
  pub columns : fold max width (map length left.lines) ≡ longest all.lines
  pub cells : found ++ kept_of_rows r left.lines ≡ kept_of_rows 0 all.lines
  pub clean : text_marks is_bad r left.lines ≡ text_marks is_bad 0 all.lines

pub so_far-start : (all : Section) → AreReadSoFar all all 0 0 []
so_far-start all = record { rest = refl; count = omega arith; columns = refl; cells = refl; clean = refl }

-- a line more
pub so_far-line : (all left next : Section) (count columns : ℕ) (cells more : List Cell) (line : List ℕ) (bad : Option Cell)
    → AreReadSoFar all left count columns cells → left ≡ record { lines = line ∷ next.lines; rest = next.rest }
    → bad ≡ slice_get (marks is_bad count 0 line) 0 → bad ≡ None → more ≡ cells ++ kept_of_row count line
    → AreReadSoFar all next (count + 1) (max columns (length line)) more
so_far-line all left next count columns cells more line bad s e b n m =
    let clean : marks is_bad count 0 line ≡ [] = nil_of_first (marks is_bad count 0 line) (sym b ∙ n) in
    record {
      rest = sym (ap (λ (l : Section). l.rest) e) ∙ s.rest;
      count = omega (arith, ap (λ (l : Section). length l.lines) e, s.count);
      columns = sym (ap (λ (l : Section). fold max columns (map length l.lines)) e) ∙ s.columns;
      cells =
          ap (λ (l : List Cell). l ++ kept_of_rows (count + 1) next.lines) m
          ∙ append_assoc cells (kept_of_row count line) (kept_of_rows (count + 1) next.lines)
          ∙ sym (ap (λ (l : Section). cells ++ kept_of_rows count l.lines) e) ∙ s.cells;
      clean =
          sym (ap (λ (l : List Cell). l ++ text_marks is_bad (count + 1) next.lines) clean)
          ∙ sym (ap (λ (l : Section). text_marks is_bad count l.lines) e) ∙ s.clean;
    }

-- the first bad byte of a line is the first of all
pub so_far-bad : (all left next : Section) (count columns : ℕ) (cells : List Cell) (line : List ℕ) (bad : Option Cell) (a : Cell)
    → AreReadSoFar all left count columns cells → left ≡ record { lines = line ∷ next.lines; rest = next.rest }
    → bad ≡ slice_get (marks is_bad count 0 line) 0 → bad ≡ Some a → slice_get (text_marks is_bad 0 all.lines) 0 ≡ Some a
so_far-bad all left next count columns cells line bad a s e b n =
    ap (λ (l : List Cell). slice_get l 0) (sym s.clean ∙ ap (λ (l : Section). text_marks is_bad count l.lines) e)
    ∙ first-append (marks is_bad count 0 line) (text_marks is_bad (count + 1) next.lines) a (sym b ∙ n)

-- where no row is past the limit, all cells are kept
pub kept-all : (r width : ℕ) (ls : List (List ℕ)) → r + length ls ≤ SIDE_LIMIT → fold max width (map length ls) ≤ SIDE_LIMIT
    → kept_of_rows r ls ≡ text_marks is_hash r ls
kept-all r width [] rows columns = refl
kept-all r width (l ∷ ls) rows columns =
    let row : nat_lt r SIDE_LIMIT ≡ true = lt-ltb r SIDE_LIMIT (omega arith) in
    let short : nat_le (length l) SIDE_LIMIT ≡ true = le-leb (length l) SIDE_LIMIT (omega (arith, fold_max-above (max width (length l)) (map length ls))) in
    rw (row, short) (ap (λ (m : List Cell). marks is_hash r 0 l ++ m) (kept-all (r + 1) (max width (length l)) ls (omega arith) columns))
