-- The cells of a region by colour.
use Rattle.std.specs.Prelude.{ℕ, not, length, filter}
use Rattle.tl_definitions.specs.Lattice.{is_dark}
use Rattle.tl_definitions.specs.Region.{Region}

-- how many cells of a region are dark, and how many are light
abbrev pub dark_count : Region → ℕ
dark_count R = length (filter is_dark R.cells)

abbrev pub light_count : Region → ℕ
light_count R = length (filter (λ a. not (is_dark a)) R.cells)
