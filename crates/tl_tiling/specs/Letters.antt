-- A tiling kept as one letter for each place of the region's rows and columns, row by row.
use Rattle.std.specs.Prelude.{◌≡◌, ℕ, ◌+◌, ◌*◌, ◌<◌, Bool, true, false, ◌⊎◌, ◌==◌, ◌||◌, if◌then◌else◌, List, length, slice_get, slice_index, Option, Some, None}
use Rattle.std.specs.List.{list_all}
use Rattle.tl_definitions.specs.declared.Cell.{Cell}
use Rattle.tl_definitions.specs.declared.Kind.{Kind}
use Rattle.tl_definitions.specs.declared.Kind.TheVariants.{Square, Triangle}
use Rattle.tl_definitions.specs.Lattice.{cell, is_dark, are_neighbours}
use Rattle.tl_definitions.specs.declared.Tile.{Tile}
use Rattle.tl_definitions.specs.Region.{Region, has}
use Rattle.tl_formats.specs.RegionText.{byte_at, is_blank}
use Rattle.tl_definitions.specs.Tiling.{tiles_by}
use Rattle.tl_formats.specs.Drawing.{is_letter, is_allowed, named, is_matched, first_bad_letter, DrawingRefusal, bad_letter}

-- the letter at a place
abbrev pub letter_at : Region → List ℕ → Cell → ℕ
letter_at R letters a = slice_index letters (a.r * R.columns + a.c)

-- the cell that it names
abbrev pub partner_in : Region → List ℕ → Cell → Option Cell
partner_in R letters a = named (letter_at R letters a) a

-- One letter for each place: each cell is matched by its letter, and `.` stands at every other place.
pub record AreLetters (R : Region) (letters : List ℕ) : Type 0 where
  pub size : length letters ≡ R.rows * R.columns
  pub matched : list_all (is_matched R (partner_in R letters)) R.cells ≡ true
  pub dotted : (a : Cell) → a.r < R.rows → a.c < R.columns → has R a ≡ false → letter_at R letters a ≡ 46

-- the tiling that the letters draw
abbrev pub tiles_in : Region → List ℕ → List Tile
tiles_in R letters = tiles_by (partner_in R letters) R.cells

-- ---- reading the letters of a drawing

-- whether the byte that a line has in a cell's column is allowed at the cell
abbrev pub is_allowed_in : Region → List ℕ → Cell → Bool
is_allowed_in R line a = if has R a then is_letter (slice_get line a.c) else is_blank (slice_get line a.c)

-- the letters of the row become those of the line, and all others stay
pub record ReadsLine (R : Region) (r : ℕ) (line old new : List ℕ) : Type 0 where
  pub read : (a : Cell) → a.r ≡ r → has R a ≡ true → slice_get line a.c ≡ Some (letter_at R new a)
  pub kept : (a : Cell) → a.r < R.rows → a.c < R.columns → ((a.r ≡ r → ⊥) ⊎ (has R a ≡ false)) → letter_at R new a ≡ letter_at R old a

-- the place is the first of its row whose byte isn't allowed
pub record IsFirstBadIn (R : Region) (r : ℕ) (line : List ℕ) (a : Cell) : Type 0 where
  pub row : a.r ≡ r
  pub bad : is_allowed_in R line a ≡ false
  pub before : (c : ℕ) → c < a.c → is_allowed_in R line (cell r c) ≡ true

-- The letters of the lines before a row stand at the region's cells, and no place there isn't allowed.
pub record AreReadBefore (R : Region) (lines : List (List ℕ)) (n : ℕ) (letters : List ℕ) : Type 0 where
  pub size : length letters ≡ R.rows * R.columns
  pub read : (a : Cell) → a.r < n → has R a ≡ true → byte_at lines a ≡ Some (letter_at R letters a)
  pub dotted : (a : Cell) → a.r < R.rows → a.c < R.columns → has R a ≡ false → letter_at R letters a ≡ 46
  pub allowed : (a : Cell) → a.r < n → is_allowed R lines a ≡ true

-- A letter stands at each of the region's cells, and `.` everywhere else.
pub record AreLettered (R : Region) (letters : List ℕ) : Type 0 where
  pub size : length letters ≡ R.rows * R.columns
  pub inside : (a : Cell) → has R a ≡ true → is_letter (Some (letter_at R letters a)) ≡ true
  pub dotted : (a : Cell) → a.r < R.rows → a.c < R.columns → has R a ≡ false → letter_at R letters a ≡ 46

-- The letters are those of the lines.
pub record AreReadLetters (R : Region) (lines : List (List ℕ)) (letters : List ℕ) : Type 0 where
  pub lettered : AreLettered R letters
  pub read : (a : Cell) → has R a ≡ true → byte_at lines a ≡ Some (letter_at R letters a)
  pub allowed : first_bad_letter R lines ≡ None

-- the refusal names the first place whose byte isn't allowed
abbrev pub IsFirstBadLetter : Region → List (List ℕ) → DrawingRefusal → Type 0
IsFirstBadLetter R lines f = (a : Cell) × (f ≡ bad_letter a) × (first_bad_letter R lines ≡ Some a)

-- ---- matching them

-- Two cells name each other by these letters, and are neighbours where `near` says so.
pub record IsPair (k : Kind) (near : Bool) (a b : Cell) (there back : ℕ) : Type 0 where
  pub names : named there a ≡ Some b
  pub is_named : named back b ≡ Some a
  pub share : are_neighbours k a b ≡ near

-- whether a cell has a neighbour below
abbrev pub has_below : Kind → Cell → Bool
has_below Square a = true
has_below Triangle a = is_dark a

-- a place has no letter, or that of a matched cell
abbrev pub is_settled : Region → List ℕ → Cell → Bool
is_settled R letters a = letter_at R letters a == 46 || is_matched R (partner_in R letters) a
