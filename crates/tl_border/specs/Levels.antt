-- Rows with one number in each word, and small jobs of such rows.
use Rattle.std.specs.Prelude.{ℕ, [], ◌∷◌, map}
use Rattle.tl_lists.specs.Lists.{upto}
use Rattle.tl_border.specs.declared.row.RowBits.{RowBits}
use Rattle.tl_border.specs.declared.job.JobRows.{JobRows}
use Rattle.tl_border.specs.Rows.{bits_of_words}

-- two words with this number
unfoldable pub level : ℕ → RowBits
level n = bits_of_words (n ∷ n ∷ [])

abbrev pub three_up : JobRows
three_up = record { upper = level 1 ∷ level 2 ∷ level 3 ∷ []; lower = [] }

-- each side sends the same row twice
abbrev pub to_and_fro : JobRows
to_and_fro = record { upper = level 7 ∷ level 7 ∷ []; lower = level 7 ∷ level 7 ∷ [] }

-- the upper side sends the rows with the numbers 0, 1, .., count - 1
abbrev pub rising : ℕ → JobRows
rising count = record { upper = map level (upto count); lower = [] }
