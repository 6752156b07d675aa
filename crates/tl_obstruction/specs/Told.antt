-- The obstruction that a value tells, and the lines of its text.
use Rattle.std.specs.Prelude.{ℕ, Bool, not, ◌&&◌, ◌||◌, ◌==◌, nat_le, List, [], ◌∷◌, length, Option, Some, None}
use Rattle.std.specs.List.{starts_with}
use Rattle.tl_formats.specs.Texts.{are_digits}
use Rattle.tl_formats.specs.ObstructionText as text
use Rattle.tl_definitions.specs.Obstruction as why
use Rattle.tl_obstruction.specs.declared.obstruction_type.Obstruction.{Obstruction}
use Rattle.tl_obstruction.specs.declared.obstruction_type.Obstruction.TheVariants.{Open, Gap}

abbrev pub told_by : Obstruction → why.Obstruction
told_by (Open total) = why.Open total
told_by (Gap rise path) = why.Gap rise path.items

-- `0`, or a digit from 1 to 9 followed by at most 8 digits
abbrev pub is_plain : List ℕ → Bool
is_plain word = are_digits word && nat_le (length word) 9 && (length word == 1 || not (starts_with ◌==◌ word (48 ∷ [])))

-- the words of what follows a space, where there is one
abbrev pub words_after : Option (List ℕ) → List (List ℕ)
words_after None = []
words_after (Some rest) = text.words_of rest
