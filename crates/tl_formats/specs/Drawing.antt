-- Drawings of tilings: each cell has a letter that names its partner.
use Rattle.std.specs.Prelude.{◌≡◌, ℕ, max, Bool, false, not, ◌&&◌, ◌||◌, ◌==◌, if◌then◌else◌, List, [], ◌∷◌, ◌++◌, map, length, find, flat_map, Option, Some, None, option_and_then, IsTrue, IsFalse}
use Rattle.tl_definitions.specs.declared.Cell.{Cell}
use Rattle.tl_definitions.specs.declared.Tile.{Tile}
use Rattle.tl_definitions.specs.Lattice.{cell, left, right, above, below, is_cell, are_neighbours}
use Rattle.tl_definitions.specs.Region.{Region, has, places}
use Rattle.tl_lists.specs.Lists.{upto}
use Rattle.tl_formats.specs.RegionText.{byte_at, is_blank, longest}
use Rattle.tl_definitions.specs.Tiling.{is_tiling, partner}

-- `>`, `<`, `v` and `^`
abbrev pub is_letter : Option ℕ → Bool
is_letter None = false
is_letter (Some b) = b == 62 || b == 60 || b == 118 || b == 94

-- the cell that a letter names, from where it stands
abbrev pub named : ℕ → Cell → Option Cell
named b a =
    if b == 62 then right a
    else (if b == 60 then left a
    else (if b == 118 then below a
    else (if b == 94 then above a else None)))

abbrev pub named_at : List (List ℕ) → Cell → Option Cell
named_at rows a = option_and_then (λ b. named b a) (byte_at rows a)

-- The rows draw a tiling where each cell's place has the letter that names its partner, and every other
-- place has `.`, a space or nothing.
pub record Draws (R : Region) (rows : List (List ℕ)) (A : List Tile) : Type 0 where
  pub tiling : IsTrue (is_tiling R A)
  pub letters : (a : Cell) → IsTrue (has R a) → named_at rows a ≡ partner A a
  pub blanks : (a : Cell) → IsFalse (has R a) → IsTrue (is_blank (byte_at rows a))

-- A place of the region must have a letter, and every other place must be blank.
abbrev pub is_allowed : Region → List (List ℕ) → Cell → Bool
is_allowed R rows a = if has R a then is_letter (byte_at rows a) else is_blank (byte_at rows a)

-- the first place in raster order where this fails
abbrev pub first_bad_letter : Region → List (List ℕ) → Option Cell
first_bad_letter R rows =
    find (λ a. not (is_allowed R rows a)) (places (max R.rows (length rows)) (max R.columns (longest rows)))

-- A cell is matched where its partner is a neighbour in the region, whose partner is this cell. A letter names
-- the partner.
abbrev pub is_answered : Region → (Cell → Option Cell) → Cell → Option Cell → Bool
is_answered R f a None = false
is_answered R f a (Some b) = has R b && are_neighbours R.kind a b && is_cell a (f b)

abbrev pub is_matched : Region → (Cell → Option Cell) → Cell → Bool
is_matched R f a = is_answered R f a (f a)

abbrev pub first_unmatched : Region → List (List ℕ) → Option Cell
first_unmatched R rows = find (λ a. not (is_matched R (named_at rows) a)) R.cells

-- why a drawing is refused, and when: an unmatched cell is looked for only where all letters are allowed
pub data DrawingRefusal : Type 0 where
  bad_letter : Cell → DrawingRefusal
  unmatched : Cell → DrawingRefusal

abbrev pub drawing_refusal : Region → List (List ℕ) → Option DrawingRefusal
drawing_refusal R rows =
    elim (first_bad_letter R rows) [
      | Some a ↦ Some (bad_letter a)
      | None ↦ elim (first_unmatched R rows) [ Some a ↦ Some (unmatched a) | None ↦ None ]
    ]

-- the letter by which a cell names its partner, and `.` where it has none
abbrev pub letter : Cell → Option Cell → ℕ
letter a None = 46
letter a (Some b) =
    if is_cell b (right a) then 62
    else (if is_cell b (left a) then 60
    else (if is_cell b (below a) then 118 else 94))

-- The printed drawing: one line for each row, of as many bytes as the region has columns.
abbrev pub drawing : Region → List Tile → List ℕ
drawing R A =
    flat_map (λ r. map (λ c. letter (cell r c) (partner A (cell r c))) (upto R.columns) ++ (10 ∷ [])) (upto R.rows)
