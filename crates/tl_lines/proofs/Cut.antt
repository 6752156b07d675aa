-- How the first line feed cuts an input.
use Rattle.std.proofs.Common.{◌≡◌, ◌≢◌, ℕ, Bool, true, false, ◌+◌, ◌-◌, ◌<◌, ◌≤◌, List, [], ◌∷◌, ◌++◌, length, take, drop, Some, None, sym, ◌∙◌, ap, arith, add-one}
use Rattle.std.specs.Prelude.{slice_index, ◌==◌}
use Rattle.std.specs.List.{concat}
use Rattle.std.proofs.Math.Seq.{take-nil, drop-length}
use Rattle.std.proofs.lemmas.Bool.{eqb-true, eq-eqb}
use Rattle.std.proofs.lemmas.List.{take_more, take_all, length-drop}
use Rattle.memchr.specs.Find.{IsFirstByte, is_byte}
use Rattle.tl_formats.specs.Input.{pieces, without_end, is_empty_line, open_section}
use Rattle.tl_formats.proofs.Lines.{concat-pieces, pieces-cut, pieces-whole, open-line, open-empty_line, without_end-last, without_end-other}
use Rattle.tl_lines.specs.Lines.{IsFirstLine, after_line, section_at}

none_before : (s : List ℕ) (k : ℕ) → ((i : ℕ) → 0 ≤ i → i < k → ¬ (is_byte 10 (slice_index s i) ≡ true)) → (i : ℕ) → i < k → slice_index s i ≢ 10
none_before s k f i h e = f i (omega arith) h (eq-eqb (slice_index s i) 10 e)

-- at a line feed
pub first_line-cut : (s line : List ℕ) (k : ℕ) → IsFirstByte (is_byte 10) s (Some k) → line ≡ without_end 13 (take k s)
    → IsFirstLine s line (take (length s - (k + 1)) (drop (k + 1) s))
first_line-cut s line k found is_line =
    let at : slice_index s k ≡ 10 = eqb-true _ _ found.1 in
    let piece : take (k + 1) s ≡ take k s ++ 10 ∷ [] = take_more s k 0 found.0.high ∙ ap (λ (b : ℕ). take k s ++ b ∷ []) at in
    let rest : take (length s - (k + 1)) (drop (k + 1) s) ≡ drop (k + 1) s = take_all (length s - (k + 1)) (drop (k + 1) s) (omega (arith, length-drop (k + 1) s)) in
    record {
      piece = take (k + 1) s;
      first =
          rw rest
          (rw add-one (pieces-cut s k found.0.high at (none_before s k found.0.before)));
      is_line = is_line ∙ ap (without_end 13) (sym (ap (without_end 10) piece ∙ without_end-last 10 (take k s)));
    }

-- without one
pub first_line-whole : (s line : List ℕ) → 0 < length s → IsFirstByte (is_byte 10) s None → line ≡ without_end 13 s
    → IsFirstLine s line (take (length s - length s) (drop (length s) s))
first_line-whole [] line h none is_line = absurd (omega (arith, h))
first_line-whole (b ∷ bs) line h none is_line =
    let s = b ∷ bs in
    let no_feed : (i : ℕ) → i < length s → slice_index s i ≢ 10 = none_before s (length s) none in
    let empty : take (length s - length s) (drop (length s) s) ≡ [] = ap (take (length s - length s)) (drop-length s) ∙ take-nil (length s - length s) in
    record {
      piece = s;
      first = rw empty (pieces-whole b bs no_feed);
      is_line = is_line ∙ ap (without_end 13) (sym (without_end-other 10 s no_feed));
    }

-- ---- what an empty line, and another one, tell of sections

empty_piece : (s line rest : List ℕ) (b : Bool) (f : IsFirstLine s line rest) → b ≡ (length line == 0) → is_empty_line f.piece ≡ b
empty_piece s line rest b f e = ap (λ (l : List ℕ). length l == 0) (sym f.is_line) ∙ sym e

pub section-ends : (s line rest : List ℕ) (b : Bool) → IsFirstLine s line rest → b ≡ (length line == 0) → b ≡ true
    → section_at s ≡ record { lines = []; rest = rest }
section-ends s line rest b f e t =
    ap open_section f.first ∙ open-empty_line f.piece (pieces rest) (empty_piece s line rest b f e ∙ t)
    ∙ ap (λ (l : List ℕ). record { lines = []; rest = l }) (concat-pieces rest)

pub section-line : (s line rest : List ℕ) (b : Bool) → IsFirstLine s line rest → b ≡ (length line == 0) → b ≡ false
    → section_at s ≡ record { lines = line ∷ (section_at rest).lines; rest = (section_at rest).rest }
section-line s line rest b f e t =
    ap open_section f.first ∙ open-line f.piece (pieces rest) (empty_piece s line rest b f e ∙ t)
    ∙ ap (λ (l : List ℕ). record { lines = l ∷ (section_at rest).lines; rest = (section_at rest).rest }) (sym f.is_line)

-- ---- what is left after a line

pub after_line-first : (s line rest : List ℕ) → IsFirstLine s line rest → rest ≡ after_line s
after_line-first s line rest f = sym (ap (λ (ps : List (List ℕ)). concat (drop 1 ps)) f.first ∙ concat-pieces rest)
