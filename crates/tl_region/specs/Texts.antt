-- Which texts name cells, before it is asked whether they lie in one part, without pinch and without hole.
use Rattle.std.specs.Prelude.{◌≡◌, ◌≢◌, ◌⊎◌, ℕ, List, [], Ok, Err}
use Rattle.tl_definitions.specs.Region.{Region}
use Rattle.tl_formats.specs.RegionText.{RegionRefusal, region_of_lines, empty}

-- the lines are the text of this region, which has a cell
abbrev pub IsReadableText : List (List ℕ) → Region → Type 0
IsReadableText lines R = (region_of_lines lines ≡ Ok R) × (R.cells ≢ [])

-- or they are refused, with the first cause in the order of `RegionRefusal`
abbrev pub IsUnreadableText : List (List ℕ) → RegionRefusal → Type 0
IsUnreadableText lines f =
    (region_of_lines lines ≡ Err f) ⊎ ((R : Region) × (region_of_lines lines ≡ Ok R) × (R.cells ≡ []) × (f ≡ empty))
