-- Circuits, gaps, top tilings and flips, by evaluation.
use Rattle.std.proofs.Common.{◌≡◌, ℕ, true, false, List, [], ◌∷◌, map, refl, codes, pos, negsuc, arith}
use Rattle.tl_definitions.specs.declared.Kind.TheVariants.{Square}
use Rattle.tl_definitions.specs.declared.Tile.{Tile}
use Rattle.tl_definitions.specs.Lattice.{cell, corner, side}
use Rattle.tl_definitions.specs.Region.{Region, boundary, side_eq}
use Rattle.tl_lists.specs.Lists.{upto}
use Rattle.std.specs.List.{list_any}
use Rattle.tl_formats.specs.RegionText.{region_of}
use Rattle.tl_definitions.specs.Accepted.{IsCircuit, circuit_corners}
use Rattle.tl_definitions.specs.Obstruction.{prefix, IsGap}
use Rattle.tl_definitions.specs.Flip.{IsTop, IsFlipPath, can_flip}
use Rattle.tl_formats.specs.Drawing.{drawing}
use Rattle.tl_formats.proofs.Cases.{input, walk_of, drawn, reaches}

abbrev two_two : Region
two_two = region_of Square (codes "##" ∷ codes "##" ∷ [])

circuit_two : IsCircuit two_two (walk_of two_two)
circuit_two = record { on_boundary = refl; whole = refl; closed = refl; once = refl; first = refl }

-- a side of another cell is none of the boundary's
other_cell : list_any (side_eq (side (cell 1 0) (corner 0 0) (corner 1 0))) (boundary two_two) ≡ false
other_cell = refl

corners_two : circuit_corners (walk_of two_two)
    ≡ corner 0 0 ∷ corner 1 0 ∷ corner 2 0 ∷ corner 2 1 ∷ corner 2 2 ∷ corner 1 2 ∷ corner 0 2 ∷ corner 0 1 ∷ []
corners_two = refl

prefixes_two : map (prefix (walk_of two_two)) (upto 8)
    ≡ pos 0 ∷ pos 1 ∷ pos 0 ∷ negsuc 0 ∷ pos 0 ∷ pos 1 ∷ pos 0 ∷ negsuc 0 ∷ []
prefixes_two = refl

abbrev steep : Region
steep = region_of Square (codes ".#.." ∷ codes "####" ∷ codes "..#." ∷ [])

circuit_steep : IsCircuit steep (walk_of steep)
circuit_steep = record { on_boundary = refl; whole = refl; closed = refl; once = refl; first = refl }

gap_steep : IsGap steep (pos 5) (corner 2 2 ∷ corner 1 2 ∷ [])
gap_steep = record {
  walk = walk_of steep;
  circuit = circuit_steep;
  k = 5;
  l = 12;
  k_on_circuit = omega arith;
  l_on_circuit = omega arith;
  begins = refl;
  ends = refl;
  directed = refl;
  difference = refl;
  too_steep = omega arith;
}

abbrev eight : List ℕ
eight = codes "########"

abbrev board : Region
board = region_of Square (eight ∷ eight ∷ eight ∷ eight ∷ eight ∷ eight ∷ eight ∷ eight ∷ [])

abbrev board_top : List (List ℕ)
board_top = codes "><><><><" ∷ codes "v><><><v" ∷ codes "^v><><v^" ∷ codes "v^v><v^v" ∷ codes "^v^><^v^" ∷ codes "v^><><^v" ∷ codes "^><><><^" ∷ codes "><><><><" ∷ []

top_board : IsTop board (drawn board board_top)
top_board = record { tiling = refl; none_low = refl }

print_board : drawing board (drawn board board_top) ≡ input board_top
print_board = refl

abbrev two_three : Region
two_three = region_of Square (codes "###" ∷ codes "###" ∷ [])

abbrev flat : List Tile
flat = drawn two_three (codes "><v" ∷ codes "><^" ∷ [])

abbrev turned : List Tile
turned = drawn two_three (codes "v><" ∷ codes "^><" ∷ [])

top_flat : IsTop two_three flat
top_flat = record { tiling = refl; none_low = refl }

path_flat : IsFlipPath two_three flat (corner 1 1 ∷ corner 1 2 ∷ []) turned
path_flat = (refl, (refl, refl))

abbrev diamond : Region
diamond = region_of Square (codes ".##." ∷ codes "####" ∷ codes "####" ∷ codes ".##." ∷ [])

abbrev upright : List Tile
upright = drawn diamond (codes ".vv." ∷ codes "v^^v" ∷ codes "^vv^" ∷ codes ".^^." ∷ [])

abbrev level : List Tile
level = drawn diamond (codes ".><." ∷ codes "><><" ∷ codes "><><" ∷ codes ".><." ∷ [])

far : reaches diamond 4 upright level ≡ false
far = refl

near : reaches diamond 5 upright level ≡ true
near = refl

no_flip : can_flip diamond level (corner 2 2) ≡ false
no_flip = refl

a_flip : can_flip diamond level (corner 2 1) ≡ true
a_flip = refl
