-- The darts of a corner: each an edge that ends there, between two consecutive cells of its ring.
use Rattle.std.specs.Prelude.{ℕ, ◌+◌, ◌-◌, Bool, not, ◌&&◌, ◌||◌, ◌==◌, ◌%◌, List, [], ◌∷◌, map, zip, Option}
use Rattle.tl_definitions.specs.declared.Kind.{Kind}
use Rattle.tl_definitions.specs.declared.Kind.TheVariants.{Square, Triangle}
use Rattle.tl_definitions.specs.declared.Cell.{Cell}
use Rattle.tl_definitions.specs.declared.Corner.{Corner}
use Rattle.tl_definitions.specs.declared.rings.Back.{Back}
use Rattle.tl_definitions.specs.declared.rings.Dart.{Dart}
use Rattle.tl_definitions.specs.Lattice.{corner, cell_back, cell_width}
use Rattle.tl_definitions.specs.Region.{Region, has_at}
use Rattle.tl_lists.specs.Lists.{turned}

abbrev pub back : ℕ → ℕ → Back
back rows columns = record { rows = rows; columns = columns }

-- the places of a ring, clockwise
abbrev pub ring_places : Kind → List Back
ring_places Square = back 1 1 ∷ back 1 0 ∷ back 0 0 ∷ back 0 1 ∷ []
ring_places Triangle = back 1 2 ∷ back 1 1 ∷ back 1 0 ∷ back 0 0 ∷ back 0 1 ∷ back 0 2 ∷ []

-- each place of the ring and the next
abbrev pub darts : Kind → List Dart
darts k = map (λ p. record { left = p.0; right = p.1 }) (zip (ring_places k) (turned (ring_places k)))

-- the cells on the two sides of the edge, as seen from the corner
abbrev pub left_cell : Corner → Dart → Option Cell
left_cell v g = cell_back v g.left.rows g.left.columns

abbrev pub right_cell : Corner → Dart → Option Cell
right_cell v g = cell_back v g.right.rows g.right.columns

-- The other end of the edge: the edge and the two cells have one middle.
abbrev pub other_end : Kind → Corner → Dart → Corner
other_end k v g =
    corner (v.r + 1 - (g.left.rows + g.right.rows)) (v.x + cell_width k - (g.left.columns + g.right.columns))

-- The boundary leaves the corner along the dart, with the region on its left; and it comes along it.
abbrev pub leaves : Region → Corner → Dart → Bool
leaves R v g = has_at R (left_cell v g) && not (has_at R (right_cell v g))

abbrev pub enters : Region → Corner → Dart → Bool
enters R v g = not (has_at R (left_cell v g)) && has_at R (right_cell v g)

-- whether the edge is that of a directed step from the corner: the cell to its left is dark
abbrev pub is_outward : Corner → Dart → Bool
is_outward v g = (v.r + v.x + (g.left.rows + g.left.columns)) % 2 == 0

-- whether the edge is a side of a cell of the region
abbrev pub is_edge_of : Region → Corner → Dart → Bool
is_edge_of R v g = has_at R (left_cell v g) || has_at R (right_cell v g)

-- whether the edge leads from the one corner to the other
abbrev pub leads_to : Kind → Corner → Dart → Corner → Bool
leads_to k v g w =
    v.r + 1 == w.r + (g.left.rows + g.right.rows) && v.x + cell_width k == w.x + (g.left.columns + g.right.columns)

-- whether it does so as a directed step of the region
abbrev pub is_step_by : Region → Corner → Corner → Dart → Bool
is_step_by R v w g = is_outward v g && leads_to R.kind v g w && is_edge_of R v g
