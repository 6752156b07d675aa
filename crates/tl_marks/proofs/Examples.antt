-- What meets the definitions, and what near them doesn't.
use Rattle.std.proofs.Common.{◌≡◌, true, false, List, [], ◌∷◌, refl, codes, ℤ, pos, negsuc}
use Rattle.tl_definitions.specs.declared.Kind.TheVariants.{Square, Triangle}
use Rattle.tl_definitions.specs.Lattice.{corner}
use Rattle.tl_definitions.specs.Region.{Region}
use Rattle.tl_formats.specs.RegionText.{region_of}
use Rattle.tl_marks.specs.Marks.{base, crossed_by_marks, crossed_from, crossed_to, is_crossed_by, is_turned, is_upper_half, mark, stepped_mark, xor}

-- ---- the base, and where it falls

base_square : base Square (corner 0 1) ≡ negsuc 0
base_square = refl

-- in the row below it is one less
base_square_below : base Square (corner 1 1) ≡ negsuc 1
base_square_below = refl

base_triangle : base Triangle (corner 0 1) ≡ pos 2
base_triangle = refl

base_triangle_next : base Triangle (corner 1 2) ≡ pos 1
base_triangle_next = refl

-- a step to the right falls, and one to the left, or down, doesn't
turned_square : is_turned Square (corner 1 0) (corner 1 1) ≡ true
turned_square = refl

not_turned_left : is_turned Square (corner 1 2) (corner 1 1) ≡ false
not_turned_left = refl

not_turned_down : is_turned Square (corner 1 1) (corner 2 1) ≡ false
not_turned_down = refl

-- from class 1 it falls, and from class 2 it doesn't
turned_triangle : is_turned Triangle (corner 0 1) (corner 1 0) ≡ true
turned_triangle = refl

not_turned_triangle : is_turned Triangle (corner 1 2) (corner 0 1) ≡ false
not_turned_triangle = refl

upper_half : is_upper_half Square (pos 4) ≡ true
upper_half = refl

not_upper_half : is_upper_half Square (pos 3) ≡ false
not_upper_half = refl

-- a number below 0 is rounded down
upper_half_below : is_upper_half Triangle (negsuc 0) ≡ true
upper_half_below = refl

not_upper_half_below : is_upper_half Triangle (negsuc 3) ≡ false
not_upper_half_below = refl

one_of_two : xor false true ≡ true
one_of_two = refl

not_both : xor true true ≡ false
not_both = refl

-- where all marks are the same the steps that are turned are crossed
crossed_turned : is_crossed_by Square (λ v. false) (corner 1 0) (corner 1 1) ≡ true
crossed_turned = refl

not_crossed_left : is_crossed_by Square (λ v. false) (corner 1 2) (corner 1 1) ≡ false
not_crossed_left = refl

-- ---- the square of four cells, with 2 or -2 in the middle

abbrev two_two : Region
two_two = region_of Square (codes "##" ∷ codes "##" ∷ [])

abbrev with_middle : ℤ → List ℤ
with_middle h =
    pos 0 ∷ negsuc 0 ∷ pos 0 ∷ pos 0 ∷ pos 1 ∷ h ∷ pos 1 ∷ pos 0 ∷ pos 0 ∷ negsuc 0 ∷ pos 0 ∷ pos 0 ∷ []

abbrev high : List ℤ
high = with_middle (pos 2)

abbrev low : List ℤ
low = with_middle (negsuc 1)

mark_high : mark two_two high (corner 1 1) ≡ true
mark_high = refl

mark_low : mark two_two low (corner 1 1) ≡ false
mark_low = refl

-- the steps down from the middle, and to it from the left
crossed_high : crossed_by_marks two_two high (corner 1 1) (corner 2 1) ≡ true
crossed_high = refl

not_crossed_low : crossed_by_marks two_two low (corner 1 1) (corner 2 1) ≡ false
not_crossed_low = refl

crossed_low : crossed_by_marks two_two low (corner 1 0) (corner 1 1) ≡ true
crossed_low = refl

not_crossed_high : crossed_by_marks two_two high (corner 1 0) (corner 1 1) ≡ false
not_crossed_high = refl

all_from_high : crossed_from Square (mark two_two high) (corner 1 1) ≡ true
all_from_high = refl

not_all_from_low : crossed_from Square (mark two_two low) (corner 1 1) ≡ false
not_all_from_low = refl

all_to_low : crossed_to Square (mark two_two low) (corner 1 1) ≡ true
all_to_low = refl

not_all_to_high : crossed_to Square (mark two_two high) (corner 1 1) ≡ false
not_all_to_high = refl

-- The bit 1 raises the low one and leaves the high one, and the bit 0 lowers the high one and leaves the low one.
stepped_by_one : (stepped_mark Square (mark two_two low) (corner 1 1) true ≡ true) × (stepped_mark Square (mark two_two high) (corner 1 1) true ≡ true)
stepped_by_one = (refl, refl)

stepped_by_zero : (stepped_mark Square (mark two_two low) (corner 1 1) false ≡ false) × (stepped_mark Square (mark two_two high) (corner 1 1) false ≡ false)
stepped_by_zero = (refl, refl)

-- ---- the hexagon of six triangles, with 2 or -1 in the middle

abbrev hexagon : Region
hexagon = region_of Triangle (codes "###" ∷ codes "###" ∷ [])

abbrev round_middle : ℤ → List ℤ
round_middle h =
    pos 0 ∷ pos 0 ∷ pos 0 ∷ pos 1 ∷ pos 0 ∷ pos 1 ∷ pos 0 ∷ h ∷ pos 0 ∷ pos 0 ∷ pos 0 ∷ pos 0 ∷ pos 0 ∷ pos 1 ∷ pos 0 ∷ []

mark_triangle_low : mark hexagon (round_middle (negsuc 0)) (corner 1 2) ≡ true
mark_triangle_low = refl

mark_triangle_high : mark hexagon (round_middle (pos 2)) (corner 1 2) ≡ false
mark_triangle_high = refl

all_to_triangle_low : crossed_to Triangle (mark hexagon (round_middle (negsuc 0))) (corner 1 2) ≡ true
all_to_triangle_low = refl

not_all_to_triangle_high : crossed_to Triangle (mark hexagon (round_middle (pos 2))) (corner 1 2) ≡ false
not_all_to_triangle_high = refl

stepped_triangle : stepped_mark Triangle (mark hexagon (round_middle (negsuc 0))) (corner 1 2) true ≡ false
stepped_triangle = refl

kept_triangle : stepped_mark Triangle (mark hexagon (round_middle (pos 2))) (corner 1 2) true ≡ false
kept_triangle = refl
