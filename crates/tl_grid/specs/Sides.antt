-- The sides that the code's sides are.
use Rattle.std.specs.Prelude.{ℕ, ◌-◌, slice_index_or}
use Rattle.tl_definitions.specs.declared.Kind.{Kind}
use Rattle.tl_definitions.specs.declared.rings.Dart.{Dart}
use Rattle.tl_definitions.specs.Lattice.{Side, side, cell, corner}
use Rattle.tl_definitions.specs.Darts.{back, darts, other_end}
use Rattle.tl_grid.specs.declared.walk.BoundarySide.{BoundarySide}
use Rattle.tl_grid.specs.declared.walk.BoundaryStep.{BoundaryStep}

abbrev pub side_of : BoundarySide → Side
side_of s = side s.cell s.from s.to

-- the dart of this number
abbrev pub dart_by : Kind → ℕ → Dart
dart_by k n = slice_index_or (darts k) n (record { left = back 0 0; right = back 0 0 })

-- the side that leaves the corner by the dart
abbrev pub side_by : Kind → BoundaryStep → Side
side_by k s =
    let g = dart_by k s.dart in
    side (cell (s.r - g.left.rows) (s.x - g.left.columns)) (corner s.r s.x) (other_end k (corner s.r s.x) g)
