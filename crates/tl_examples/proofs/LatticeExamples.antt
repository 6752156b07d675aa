-- The tables of the two lattices agree with each other, by evaluation over the cells and corners of a rectangle.
use Rattle.std.proofs.Common.{◌≡◌, Bool, true, not, ◌&&◌, ◌||◌, refl}
use Rattle.std.specs.Prelude.{◌==◌, zip}
use Rattle.std.specs.List.{list_any, list_all}
use Rattle.tl_definitions.specs.declared.Kind.{Kind}
use Rattle.tl_definitions.specs.declared.Kind.TheVariants.{Square, Triangle}
use Rattle.tl_definitions.specs.declared.Cell.{Cell}
use Rattle.tl_definitions.specs.declared.Corner.{Corner}
use Rattle.tl_definitions.specs.Lattice.{corner_eq, is_cell, is_dark, is_corner, corners, ring, sides, are_neighbours, steps_out, class_of, Side}
use Rattle.tl_definitions.specs.Region.{Region, places, corner_places, is_other_side, inner_corners}
use Rattle.tl_lists.specs.Lists.{present, turned}

abbrev whole : Kind → Region
whole k = record { kind = k; rows = 5; columns = 6; cells = places 5 6 }

abbrev same : Bool → Bool → Bool
same a b = (a && b) || (not a && not b)

-- a cell is in the ring of a corner exactly where the corner is one of the cell's
abbrev rings_fit : Kind → Bool
rings_fit k =
    list_all (λ v. list_all (λ a. same (list_any (is_cell a) (ring k v)) (list_any (corner_eq v) (corners k a))) (places 5 6))
    (corner_places (whole k))

rings_square : rings_fit Square ≡ true
rings_square = refl

rings_triangle : rings_fit Triangle ≡ true
rings_triangle = refl

-- two cells are neighbours exactly where they share a side
abbrev share : Kind → Cell → Cell → Bool
share k a b = list_any (λ s. list_any (is_other_side s) (sides k b)) (sides k a)

abbrev neighbours_fit : Kind → Bool
neighbours_fit k = list_all (λ a. list_all (λ b. same (are_neighbours k a b) (share k a b)) (places 5 6)) (places 5 6)

neighbours_square : neighbours_fit Square ≡ true
neighbours_square = refl

neighbours_triangle : neighbours_fit Triangle ≡ true
neighbours_triangle = refl

-- a side joins two corners of its cell, of different classes, and is a directed step where the cell is dark,
-- and one backwards where it is light
abbrev is_out : Kind → Corner → Corner → Bool
is_out k u v = list_any (corner_eq v) (present (steps_out k u))

abbrev side_fits : Kind → Cell → Side → Bool
side_fits k a s =
    list_any (corner_eq s.from) (corners k a) && list_any (corner_eq s.to) (corners k a)
    && is_corner k s.from && is_corner k s.to
    && not (class_of k s.from == class_of k s.to)
    && same (is_dark a) (is_out k s.from s.to) && same (not (is_dark a)) (is_out k s.to s.from)

abbrev sides_fit : Kind → Bool
sides_fit k = list_all (λ a. list_all (side_fits k a) (sides k a)) (places 5 6)

sides_square : sides_fit Square ≡ true
sides_square = refl

sides_triangle : sides_fit Triangle ≡ true
sides_triangle = refl

-- round an inner corner each cell of the ring and the next share an edge that goes out from the corner, with
-- the first cell on its left: so the ring is clockwise
abbrev goes_on : Kind → Corner → Cell × Cell → Bool
goes_on k v p = list_any (λ s. corner_eq s.from v && list_any (is_other_side s) (sides k p.1)) (sides k p.0)

abbrev clockwise : Kind → Bool
clockwise k =
    list_all (λ v. let cells = present (ring k v) in list_all (goes_on k v) (zip cells (turned cells))) (inner_corners (whole k))

clockwise_square : clockwise Square ≡ true
clockwise_square = refl

clockwise_triangle : clockwise Triangle ≡ true
clockwise_triangle = refl

-- dark and light cells alternate in a ring
abbrev alternate : Kind → Bool
alternate k =
    list_all (λ v. let cells = present (ring k v) in list_all (λ p. not (same (is_dark p.0) (is_dark p.1))) (zip cells (turned cells)))
    (inner_corners (whole k))

alternate_square : alternate Square ≡ true
alternate_square = refl

alternate_triangle : alternate Triangle ≡ true
alternate_triangle = refl
