-- What cutting lines off an input gives.
use Rattle.std.specs.Prelude.{◌≡◌, ℕ, Bool, ◌==◌, ◌&&◌, ◌||◌, List, [], ◌∷◌, drop, Option, Some, None}
use Rattle.std.specs.List.{concat, prefix_len}
use Rattle.tl_formats.specs.Input.{pieces, line_of, is_empty_line, Section, open_section}

-- the line is the first one of the input, and the rest follows its end
pub record IsFirstLine (input line rest : List ℕ) : Type 0 where
  pub piece : List ℕ
  pub first : pieces input ≡ piece ∷ pieces rest
  pub is_line : line ≡ line_of piece

-- the input after its first line, with the end of that
abbrev pub after_line : List ℕ → List ℕ
after_line input = concat (drop 1 (pieces input))

-- the input after the empty lines at its front
abbrev pub after_empty_lines : List ℕ → List ℕ
after_empty_lines input =
    let ps = pieces input in concat (drop (prefix_len is_empty_line ps) ps)

-- Whether a byte at the front belongs to the end of an empty line, by the byte that follows it. At the end of the
-- input a line feed counts as that byte.
abbrev pub in_line_end : ℕ → ℕ → Bool
in_line_end b next = b == 10 || (b == 13 && next == 10)

abbrev pub section_at : List ℕ → Section
section_at input = open_section (pieces input)

-- the next line of a section whose first line stands before the input, and the input after it; or nothing, and
-- the input after the section
abbrev pub IsNextLine : List ℕ → Option (List ℕ) → List ℕ → Type 0
IsNextLine input None rest = section_at input ≡ record { lines = []; rest = rest }
IsNextLine input (Some line) rest =
    section_at input ≡ record { lines = line ∷ (section_at rest).lines; rest = (section_at rest).rest }
