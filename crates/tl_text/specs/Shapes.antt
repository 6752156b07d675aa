-- The generated regions.
use Rattle.std.specs.Prelude.{ℕ, ◌+◌, ◌-◌, ◌*◌, ◌%◌, nat_lt, if◌then◌else◌, List, [], ◌∷◌, ◌++◌, flat_map, replicate, codes}
use Rattle.tl_text.specs.declared.Shape.{Shape}
use Rattle.tl_text.specs.declared.Shape.TheVariants.{Aztec, Hexagon, Staircase, Hourglass}
use Rattle.tl_lists.specs.Lists.{upto}
use Rattle.tl_formats.specs.Texts.{line}

-- the first and the last column of row i of a hexagon of order n, where i < n
abbrev pub hexagon_columns : ℕ → ℕ → ℕ × ℕ
hexagon_columns n i = let o = (n - 1) % 2 in (n - 1 - i + o, 3 * n - 1 + i + o)

-- the first and the last column of row i of the shape of order n
abbrev pub row_columns : Shape → ℕ → ℕ → ℕ × ℕ
row_columns Aztec n i = if nat_lt i n then (n - 1 - i, n + i) else (i - n, 3 * n - 1 - i)
row_columns Hexagon n i = if nat_lt i n then hexagon_columns n i else hexagon_columns n (2 * n - 1 - i)
row_columns Staircase n i = (0, i)
row_columns Hourglass n i = if nat_lt i n then (0, i) else (i - 1, 2 * n - 2)

abbrev pub row_count : Shape → ℕ → ℕ
row_count Staircase n = n
row_count _ n = 2 * n

abbrev pub header : Shape → List ℕ
header Hexagon = codes "triangle"
header _ = codes "square"

-- `.` before the first column, and `#` from there to the last
abbrev pub row_text : ℕ × ℕ → List ℕ
row_text columns = replicate columns.0 46 ++ replicate (columns.1 + 1 - columns.0) 35

abbrev pub shape_text : Shape → ℕ → List ℕ
shape_text shape n =
    line (header shape ∷ []) ++ flat_map (λ i. line (row_text (row_columns shape n i) ∷ [])) (upto (row_count shape n))
