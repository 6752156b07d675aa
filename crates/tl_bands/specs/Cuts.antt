-- How rows are cut into bands, each of which has rows that follow one another.
use Rattle.std.specs.Prelude.{◌≡◌, ◌⊎◌, ℕ, zero, suc, ◌+◌, ◌*◌, ◌/◌, ◌<◌, ◌≤◌, Bool, List, length, map, filter, nat_lt, slice_get, slice_index, slice_index_or, Some}
use Rattle.tl_lists.specs.Lists.{upto}

-- how many rows there are, and the first row of each band
pub record Cut : Type 0 where
  pub rows : ℕ
  pub firsts : List ℕ

-- the row after the last one of band j: the first one of the next band, and behind the last band the number of rows
abbrev pub end_of : ℕ → List ℕ → ℕ → ℕ
end_of rows firsts j = slice_index_or firsts (j + 1) rows

-- The first band begins at row 0, and each band has a row.
pub record IsCut (rows : ℕ) (firsts : List ℕ) : Type 0 where
  pub begins : slice_get firsts 0 ≡ Some 0
  pub has_row : (j : ℕ) → j < length firsts → slice_index firsts j < end_of rows firsts j

-- ---- the rows of the bands

-- row r is one of band j
abbrev pub IsInBand : ℕ → List ℕ → ℕ → ℕ → Type 0
IsInBand rows firsts j r = (j < length firsts) × (slice_index firsts j ≤ r) × (r < end_of rows firsts j)

-- each row is in a band, and in no other
pub record AreParted (rows : ℕ) (firsts : List ℕ) : Type 0 where
  pub in_one : (r : ℕ) → r < rows → (j : ℕ) × IsInBand rows firsts j r
  pub in_no_other : (r i j : ℕ) → IsInBand rows firsts i r → IsInBand rows firsts j r → i ≡ j
  pub no_more : (r j : ℕ) → IsInBand rows firsts j r → r < rows

-- ---- an even cut

-- the first row of share j, where so many rows are shared out to so many bands
abbrev pub share : ℕ → ℕ → ℕ → ℕ
share rows bands j = j * rows / bands

abbrev pub share_has_row : ℕ → ℕ → ℕ → Bool
share_has_row rows bands j = nat_lt (share rows bands j) (share rows bands (j + 1))

-- the first row of each share that has one
abbrev pub even_firsts : ℕ → ℕ → List ℕ
even_firsts rows bands = map (share rows bands) (filter (share_has_row rows bands) (upto bands))

-- ---- a list that is no cut

-- row 0 stands at number 0, or at a further number a row after the one before
abbrev pub Follows : List ℕ → ℕ → Type 0
Follows firsts zero = slice_index firsts 0 ≡ 0
Follows firsts (suc i) = slice_index firsts i < slice_index firsts (suc i)

-- at this number stands a row that may be the first one of a band there
abbrev pub IsFirstRow : ℕ → List ℕ → ℕ → Type 0
IsFirstRow rows firsts i = (i < length firsts) × (slice_index firsts i < rows) × Follows firsts i

-- The first number of the list at which no such row stands. A list has number 0 even where it is empty.
pub record IsBadFirst (rows : ℕ) (firsts : List ℕ) (i : ℕ) : Type 0 where
  pub listed : (i ≡ 0) ⊎ (i < length firsts)
  pub bad : ¬ IsFirstRow rows firsts i
  pub earlier : (k : ℕ) → k < i → IsFirstRow rows firsts k
