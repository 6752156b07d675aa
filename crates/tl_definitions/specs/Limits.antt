-- Bounds that follow from the limit on the sides of a region.
use Rattle.std.specs.Prelude.{ℕ, ◌+◌, ◌*◌}
use Rattle.tl_definitions.specs.declared.TheConstants.{SIDE_LIMIT}

-- how many cells and how many corner places a region has at most
abbrev pub most_cells : ℕ
most_cells = SIDE_LIMIT * SIDE_LIMIT

abbrev pub most_corners : ℕ
most_corners = (SIDE_LIMIT + 1) * (SIDE_LIMIT + 2)

-- No lawful height is greater, and none is less than its negative.
abbrev pub most_height : ℕ
most_height = 4 * most_cells + 3 * (SIDE_LIMIT + 1)
