-- The text of an obstruction.
use Rattle.std.specs.Prelude.{ℕ, ◌+◌, ◌-◌, Bool, not, ◌&&◌, ◌||◌, ◌==◌, nat_le, if◌then◌else◌, List, [], ◌∷◌, ◌++◌, length, position, flat_map, filter_map, codes, decimal, Option, Some, None, option_map, option_and_then, is_some, ℤ, pos, neg_ℤ}
use Rattle.std.specs.Fmt.{signed_decimal}
use Rattle.std.specs.List.{enumerate_from, slice_split, starts_with}
use Rattle.std.specs.Str.{bytes_eq}
use Rattle.tl_definitions.specs.declared.Corner.{Corner}
use Rattle.tl_definitions.specs.Lattice.{corner}
use Rattle.tl_definitions.specs.Obstruction.{Obstruction, Open, Gap}
use Rattle.tl_formats.specs.Texts.{line, are_digits, number_of, corner_words}

-- One line of the kind and its numbers. Of a gap these are the rise and the number of steps, and then
-- each corner of the path has a line.
abbrev pub obstruction_text : Obstruction → List ℕ
obstruction_text (Open n) = line (codes "none" ∷ codes "open" ∷ signed_decimal n ∷ [])
obstruction_text (Gap rise path) =
    line (codes "none" ∷ codes "gap" ∷ signed_decimal rise ∷ decimal (length path - 1) ∷ [])
    ++ flat_map (λ v. line (corner_words v)) path

-- A plain number is `0`, or a digit from 1 to 9 followed by at most 8 digits.
abbrev pub plain_of : List ℕ → Option ℕ
plain_of word =
    if are_digits word && nat_le (length word) 9 && (length word == 1 || not (starts_with ◌==◌ word (48 ∷ [])))
    then Some (number_of word) else None

-- A signed number is a plain number, or `-` before a plain number other than `0`.
abbrev pub negative_of : List ℕ → Option ℤ
negative_of word = option_and_then (λ n. if n == 0 then None else Some (neg_ℤ (pos n))) (plain_of word)

abbrev pub signed_of : List ℕ → Option ℤ
signed_of [] = None
signed_of (b ∷ bs) = if b == 45 then negative_of bs else option_map (λ n. pos n) (plain_of (b ∷ bs))

-- what the first line says
pub data Head : Type 0 where
  open_head : ℤ → Head
  gap_head : ℤ → ℕ → Head

abbrev pub are_words : List ℕ → List ℕ → List ℕ → List ℕ → Bool
are_words a b a' b' = bytes_eq a a' && bytes_eq b b'

abbrev pub head_of_words : List (List ℕ) → Option Head
head_of_words (a ∷ b ∷ n ∷ []) =
    if are_words a b (codes "none") (codes "open") then option_map (λ z. open_head z) (signed_of n) else None
head_of_words (a ∷ b ∷ s ∷ n ∷ []) =
    if are_words a b (codes "none") (codes "gap")
    then option_and_then (λ z. option_map (λ m. gap_head z m) (plain_of n)) (signed_of s) else None
head_of_words _ = None

abbrev pub corner_of_words : List (List ℕ) → Option Corner
corner_of_words (r ∷ x ∷ []) = option_and_then (λ m. option_map (λ n. corner m n) (plain_of x)) (plain_of r)
corner_of_words _ = None

-- words are separated by exactly one space
abbrev pub words_of : List ℕ → List (List ℕ)
words_of l = slice_split (λ b. b == 32) l

abbrev pub corner_of_line : List ℕ → Option Corner
corner_of_line l = corner_of_words (words_of l)

-- The first line that is wrong, missing or too much, counted from 1, of the lines after a head. A gap of
-- n steps has n + 1 corners.
abbrev pub first_bad_after : Head → List (List ℕ) → Option ℕ
first_bad_after (open_head z) [] = None
first_bad_after (open_head z) (l ∷ ls) = Some 2
first_bad_after (gap_head z n) ls =
    elim (position (λ p. not (nat_le p.0 n && is_some (corner_of_line p.1))) (enumerate_from 0 ls)) [
      | Some i ↦ Some (i + 2)
      | None ↦ if length ls == n + 1 then None else Some (length ls + 2)
    ]

abbrev pub first_bad_line : List (List ℕ) → Option ℕ
first_bad_line [] = Some 1
first_bad_line (l ∷ ls) = elim (head_of_words (words_of l)) [ None ↦ Some 1 | Some h ↦ first_bad_after h ls ]

-- what the lines say, where none of them is bad
abbrev pub told_after : Head → List (List ℕ) → Obstruction
told_after (open_head z) ls = Open z
told_after (gap_head z n) ls = Gap z (filter_map corner_of_line ls)

abbrev pub told : List (List ℕ) → Option Obstruction
told [] = None
told (l ∷ ls) = option_map (λ h. told_after h ls) (head_of_words (words_of l))
