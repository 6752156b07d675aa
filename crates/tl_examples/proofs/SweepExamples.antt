-- Samples of small regions, by evaluation over all tilings.
use Rattle.std.proofs.Common.{◌≡◌, [], ◌∷◌, length, refl, codes, pos}
use Rattle.tl_definitions.specs.declared.Kind.TheVariants.{Square, Triangle}
use Rattle.tl_definitions.specs.Lattice.{corner}
use Rattle.tl_definitions.specs.Region.{Region, inner_corners}
use Rattle.tl_formats.specs.RegionText.{region_of}
use Rattle.tl_definitions.specs.Obstruction.{total}
use Rattle.tl_text.specs.Shapes.{shape_text}
use Rattle.tl_text.specs.declared.Shape.TheVariants.{Hourglass}
use Rattle.tl_definitions.specs.Sweep.{class_corners}
use Rattle.tl_formats.proofs.Cases.{input, all_tilings, reached, first_bits}

abbrev two_two : Region
two_two = region_of Square (codes "##" ∷ codes "##" ∷ [])

abbrev two_three : Region
two_three = region_of Square (codes "###" ∷ codes "###" ∷ [])

abbrev two_four : Region
two_four = region_of Square (codes "####" ∷ codes "####" ∷ [])

abbrev hexagon : Region
hexagon = region_of Triangle (codes "###" ∷ codes "###" ∷ [])

abbrev domino : Region
domino = region_of Square (codes "##" ∷ [])

abbrev diamond : Region
diamond = region_of Square (codes ".##" ∷ codes "####" ∷ codes "####" ∷ codes ".##" ∷ [])

reached_two_two : reached two_two first_bits 1 ≡ input (codes "vv" ∷ codes "^^" ∷ []) ∷ []
reached_two_two = refl

reached_two_three : reached two_three first_bits 1 ≡ input (codes "vvv" ∷ codes "^^^" ∷ []) ∷ []
reached_two_three = refl

tilings_two_four : length (all_tilings two_four) ≡ 5
tilings_two_four = refl

-- from start 1 two tilings remain, from start 2 one
reached_two_four_1 : length (reached two_four first_bits 1) ≡ 2
reached_two_four_1 = refl

reached_two_four_2 : reached two_four first_bits 2 ≡ input (codes "vvvv" ∷ codes "^^^^" ∷ []) ∷ []
reached_two_four_2 = refl

reached_domino : reached domino first_bits 1 ≡ input (codes "><" ∷ []) ∷ []
reached_domino = refl

reached_hexagon : reached hexagon first_bits 1 ≡ input (codes "v><" ∷ codes "^><" ∷ []) ∷ []
reached_hexagon = refl

diamond_corners : inner_corners diamond ≡ corner 1 2 ∷ corner 2 1 ∷ corner 2 2 ∷ corner 2 3 ∷ corner 3 2 ∷ []
diamond_corners = refl

diamond_first_class : class_corners diamond 0 ≡ (2, corner 2 2) ∷ []
diamond_first_class = refl

-- ---- regions without a tiling, and the numbers of a summary

abbrev steep : Region
steep = region_of Square (codes ".#.." ∷ codes "####" ∷ codes "..#." ∷ [])

steep_none : all_tilings steep ≡ []
steep_none = refl

abbrev hourglass_3 : Region
hourglass_3 = region_of Square (codes "#" ∷ codes "##" ∷ codes "###" ∷ codes "..###" ∷ codes "...##" ∷ codes "....#" ∷ [])

hourglass_text : shape_text Hourglass 3 ≡ input (codes "square" ∷ codes "#" ∷ codes "##" ∷ codes "###" ∷ codes "..###" ∷ codes "...##" ∷ codes "....#" ∷ [])
hourglass_text = refl

hourglass_cells : length (hourglass_3.cells) ≡ 12
hourglass_cells = refl

hourglass_corners : length (inner_corners hourglass_3) ≡ 2
hourglass_corners = refl

hourglass_total : total hourglass_3 ≡ pos 0
hourglass_total = refl

hourglass_none : all_tilings hourglass_3 ≡ []
hourglass_none = refl

abbrev staircase_3 : Region
staircase_3 = region_of Square (codes "#" ∷ codes "##" ∷ codes "###" ∷ [])

staircase_none : all_tilings staircase_3 ≡ []
staircase_none = refl

staircase_corners : length (inner_corners staircase_3) ≡ 1
staircase_corners = refl

-- the hexagon of order 1
hexagon_flip : length (all_tilings hexagon) ≡ 2
hexagon_flip = refl
