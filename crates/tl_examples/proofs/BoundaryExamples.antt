-- Darts, boundary corners and closed walks of small regions, by evaluation.
use Rattle.std.proofs.Common.{◌≡◌, false, List, [], ◌∷◌, map, refl, codes, Some, None}
use Rattle.std.specs.Prelude.{zip, count_by}
use Rattle.tl_definitions.specs.declared.Kind.{Kind}
use Rattle.tl_definitions.specs.declared.Kind.TheVariants.{Square, Triangle}
use Rattle.tl_definitions.specs.declared.Corner.{Corner}
use Rattle.tl_definitions.specs.Lattice.{cell, corner, ring, side, Side}
use Rattle.tl_definitions.specs.Region.{Region}
use Rattle.tl_formats.specs.RegionText.{region_of}
use Rattle.tl_lists.specs.Lists.{turned}
use Rattle.tl_definitions.specs.Darts.{darts, left_cell, right_cell, other_end, leaves, enters}
use Rattle.tl_definitions.specs.Boundary.{side_from, is_boundary_corner, IsClosedWalk}
use Rattle.tl_formats.proofs.Cases.{walk_of}

-- the cells beside the darts are each cell of the ring and the next
dart_cells : (k : Kind) (v : Corner) → map (λ g. (left_cell v g, right_cell v g)) (darts k) ≡ zip (ring k v) (turned (ring k v))
dart_cells Square v = refl
dart_cells Triangle v = refl

-- and the edges into them go round the corner
ends_square : map (other_end Square (corner 3 3)) (darts Square) ≡ corner 2 3 ∷ corner 3 4 ∷ corner 4 3 ∷ corner 3 2 ∷ []
ends_square = refl

ends_triangle : map (other_end Triangle (corner 3 4)) (darts Triangle)
    ≡ corner 2 3 ∷ corner 2 5 ∷ corner 3 6 ∷ corner 4 5 ∷ corner 4 3 ∷ corner 3 2 ∷ []
ends_triangle = refl

abbrev hole : Region
hole = region_of Square (codes "###" ∷ codes "#.#" ∷ codes "###" ∷ [])

abbrev two_two : Region
two_two = region_of Square (codes "##" ∷ codes "##" ∷ [])

-- the boundary leaves the first corner downwards, and the inner corner nowhere
first_side : side_from two_two (corner 0 0) ≡ Some (side (cell 0 0) (corner 0 0) (corner 1 0))
first_side = refl

inner_side : side_from two_two (corner 1 1) ≡ None
inner_side = refl

inner_corner : is_boundary_corner two_two (corner 1 1) ≡ false
inner_corner = refl

-- the circuit is a closed walk; so is the walk round the hole alone, from its first corner, and from no other
closed_two_two : IsClosedWalk two_two (corner 0 0) (walk_of two_two)
closed_two_two = record { on_boundary = refl; begins = refl; closed = refl; once = refl }

abbrev round_hole : List Side
round_hole =
    side (cell 0 1) (corner 1 1) (corner 1 2) ∷ side (cell 1 2) (corner 1 2) (corner 2 2)
    ∷ side (cell 2 1) (corner 2 2) (corner 2 1) ∷ side (cell 1 0) (corner 2 1) (corner 1 1) ∷ []

closed_hole : IsClosedWalk hole (corner 1 1) round_hole
closed_hole = record { on_boundary = refl; begins = refl; closed = refl; once = refl }

other_start : IsClosedWalk hole (corner 0 0) round_hole → ⊥
other_start w = cc w.begins

-- three of its sides aren't
open_walk : IsClosedWalk hole (corner 1 1) (side (cell 0 1) (corner 1 1) (corner 1 2) ∷ side (cell 1 2) (corner 1 2) (corner 2 2) ∷ side (cell 2 1) (corner 2 2) (corner 2 1) ∷ []) → ⊥
open_walk w = cc w.closed

-- two entries and two exits at a pinch
abbrev diagonal : Region
diagonal = region_of Square (codes "#." ∷ codes ".#" ∷ [])

pinch_leaves : count_by (leaves diagonal (corner 1 1)) (darts Square) ≡ 2
pinch_leaves = refl

pinch_enters : count_by (enters diagonal (corner 1 1)) (darts Square) ≡ 2
pinch_enters = refl
