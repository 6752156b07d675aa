-- Places of rows of bytes whose bytes pass a test, in raster order.
use Rattle.std.specs.Prelude.{ℕ, ◌+◌, Bool, not, ◌||◌, ◌==◌, List, [], ◌∷◌, ◌++◌, if◌then◌else◌}
use Rattle.tl_definitions.specs.declared.Cell.{Cell}
use Rattle.tl_definitions.specs.Lattice.{cell}

-- the places of a row, from a column on, whose bytes pass a test
abbrev pub marks : (ℕ → Bool) → ℕ → ℕ → List ℕ → List Cell
marks test r c [] = []
marks test r c (b ∷ bs) = if test b then cell r c ∷ marks test r (c + 1) bs else marks test r (c + 1) bs

-- the same of all rows, from a row on
abbrev pub text_marks : (ℕ → Bool) → ℕ → List (List ℕ) → List Cell
text_marks test r [] = []
text_marks test r (l ∷ ls) = marks test r 0 l ++ text_marks test (r + 1) ls

-- `#`, and a byte other than `#`, `.` and a space
abbrev pub is_hash : ℕ → Bool
is_hash b = b == 35

abbrev pub is_bad : ℕ → Bool
is_bad b = not (b == 35 || (b == 46 || b == 32))
