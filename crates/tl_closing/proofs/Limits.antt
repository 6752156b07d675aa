-- Lawful heights of a region within the limits are within theirs.
use Rattle.std.proofs.Common.{neg_ℤ, ◌≡◌, ◌+◌, ◌*◌, ◌<◌, ◌≤◌, true, List, arith, ℤ, pos, ◌≤ℤ◌}
use Rattle.std.proofs.Math.Nat.{mul-le-mul}
use Rattle.std.proofs.lemmas.Int.{ints}
use Rattle.tl_definitions.specs.declared.Corner.{Corner}
use Rattle.tl_definitions.specs.declared.TheConstants.{SIDE_LIMIT}
use Rattle.tl_definitions.specs.Limits.{most_cells, most_height}
use Rattle.tl_definitions.specs.Region.{Region, is_corner_of}
use Rattle.tl_definitions.specs.Accepted.{Accepted, cell_count}
use Rattle.tl_definitions.specs.Heights.{height, AreLawful}
use Rattle.tl_closing.proofs.Numbers.{corner-within}
use Rattle.tl_closing.proofs.Bounds.{Within, heights-small}
use Rattle.tl_closing.proofs.Filling.{cells-few}

pub heights-within_limits : (R : Region) (numbers : List ℤ) (v : Corner) → Accepted R → AreLawful R numbers → R.rows ≤ SIDE_LIMIT → R.columns ≤ SIDE_LIMIT → is_corner_of R v ≡ true
    → (neg_ℤ (pos most_height) ≤ℤ height R numbers v) × (height R numbers v ≤ℤ pos most_height)
heights-within_limits R numbers v accepted lawful rows columns e = (omega (arith, ints, s.0, s.1, few, column, columns), omega (arith, ints, s.0, s.1, few, column, columns))
  where
    s : Within (4 * cell_count R + 3 * v.x) (height R numbers v)
    s = heights-small R numbers accepted lawful v e

    column : v.x < R.columns + 2
    column = (corner-within R v accepted.placed e).1

    few : cell_count R ≤ most_cells
    few = let least : cell_count R ≤ R.rows * R.columns = cells-few R accepted.placed in omega (arith, least, mul-le-mul rows columns)
