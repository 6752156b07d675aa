-- The bands of a cut of a region's rows, as bands of the rows of words.
use Rattle.std.specs.Prelude.{◌≡◌, ℕ, ◌+◌, ◌-◌, ◌/◌, ◌<◌, nat_lt, if◌then◌else◌, List, [], ◌∷◌, length, slice_index_or}
use Rattle.tl_layout.specs.declared.layout.Layout.{Layout}
use Rattle.tl_bands.specs.Cuts.{Cut}
use Rattle.tl_band.specs.declared.band.Band.{Band}
use Rattle.tl_band.specs.Bands.{IsPlacedIn}

-- The row of words with which band j begins: corner row r stands in row of words r + 1. Where there are no more bands it is the
-- row behind the last one.
abbrev pub first_row : Cut → ℕ → ℕ
first_row cut j = slice_index_or cut.firsts j cut.rows + 1

-- the rows of band j
pub record IsBandOf (l : Layout) (cut : Cut) (j : ℕ) (b : Band) : Type 0 where
  pub placed : IsPlacedIn l b
  pub first : b.upper.own ≡ first_row cut j
  pub end : b.lower.beside ≡ first_row cut (j + 1)

-- those of bands that follow one another, the first of which has this number
abbrev pub AreBandsOf : Layout → Cut → ℕ → List Band → Type 0
AreBandsOf l cut from bands = (k : ℕ) (d : Band) → k < length bands → IsBandOf l cut (from + k) (slice_index_or bands k d)

-- How many of so many bands each hand has: the first has half of them, rounded up, and the second has the rest, where there are any.
abbrev pub bands_by_hand : ℕ → List ℕ
bands_by_hand bands = if nat_lt 1 bands then (bands - bands / 2) ∷ (bands / 2) ∷ [] else bands ∷ []
