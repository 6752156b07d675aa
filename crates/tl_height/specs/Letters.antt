-- The drawing of the tiling that some heights are those of.
use Rattle.std.specs.Prelude.{◌≡◌, ℕ, ◌+◌, if◌then◌else◌, List, [], ◌∷◌, ◌++◌, map, ℤ, pos, IsTrue, slice_index_or}
use Rattle.tl_definitions.specs.declared.Tile.{Tile}
use Rattle.tl_definitions.specs.Lattice.{cell, is_dark}
use Rattle.tl_definitions.specs.Region.{Region}
use Rattle.tl_lists.specs.Lists.{upto}
use Rattle.tl_definitions.specs.Tiling.{is_tiling, partner}
use Rattle.tl_formats.specs.Drawing.{letter, drawing}
use Rattle.tl_definitions.specs.Heights.{AreHeights}
use Rattle.tl_height.specs.HeightFunction.{falls_between}

-- the letter of a cell whose left and right side have ends of these heights: that of the side along which they fall
abbrev pub letter_between : ℤ → ℤ → ℤ → ℤ → ℕ
letter_between upper_left upper_right lower_left lower_right =
    if falls_between upper_right lower_right
    then 62
    else (if falls_between upper_left lower_left then 60 else (if falls_between lower_left lower_right then 118 else 94))

-- the letter of the square in a column, by the rows of heights above and below it
abbrev pub square_letter : List ℤ → List ℤ → ℕ → ℕ
square_letter upper lower c =
    letter_between (slice_index_or upper c (pos 0)) (slice_index_or upper (c + 1) (pos 0)) (slice_index_or lower c (pos 0)) (slice_index_or lower (c + 1) (pos 0))

-- the letter of the triangle in a column of row r
abbrev pub triangle_letter : ℕ → List ℤ → List ℤ → ℕ → ℕ
triangle_letter r upper lower c =
    if is_dark (cell r c)
    then letter_between (slice_index_or upper (c + 1) (pos 0)) (slice_index_or upper (c + 1) (pos 0)) (slice_index_or lower c (pos 0)) (slice_index_or lower (c + 2) (pos 0))
    else letter_between (slice_index_or upper c (pos 0)) (slice_index_or upper (c + 2) (pos 0)) (slice_index_or lower (c + 1) (pos 0)) (slice_index_or lower (c + 1) (pos 0))

-- a row of a printed drawing
abbrev pub row_text : Region → List Tile → ℕ → List ℕ
row_text R A r = map (λ c. letter (cell r c) (partner A (cell r c))) (upto R.columns) ++ (10 ∷ [])

-- the text is the printed drawing of the one tiling with these heights
pub record IsDrawnFrom (R : Region) (numbers : List ℤ) (text : List ℕ) : Type 0 where
  pub tiles : List Tile
  pub tiling : IsTrue (is_tiling R tiles)
  pub heights : AreHeights R tiles numbers
  pub drawn : text ≡ drawing R tiles
  pub only : (others : List Tile) → IsTrue (is_tiling R others) → AreHeights R others numbers → others ≡ tiles
