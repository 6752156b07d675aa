-- What meets the definitions, and what near them doesn't: the two tilings of the square of four cells.
use Rattle.std.proofs.Common.{◌≡◌, ℕ, true, false, List, [], ◌∷◌, refl, sym, ◌∙◌, ap, arith, codes, Result, Ok, ℤ, pos, negsuc}
use Rattle.std.specs.Prelude.{slice_index}
use Rattle.tl_definitions.specs.declared.Kind.TheVariants.{Square}
use Rattle.tl_definitions.specs.declared.Tile.{Tile}
use Rattle.tl_definitions.specs.Lattice.{cell, corner}
use Rattle.tl_definitions.specs.Region.{Region}
use Rattle.tl_formats.specs.RegionText.{region_of, IsRegionText, RegionRefusal}
use Rattle.tl_definitions.specs.Accepted.{Accepted, IsCircuit}
use Rattle.tl_formats.specs.Drawing.{drawing}
use Rattle.tl_definitions.specs.Heights.{height, AreHeights, AreLawful}
use Rattle.tl_formats.proofs.Cases.{drawn, walk_of}
use Rattle.tl_definitions.proofs.Decide.{one_part}
use Rattle.tl_closing.proofs.Stated.{same-heights, heights-lawful}
use Rattle.tl_height.proofs.HeightsBy.{heights-by}
use Rattle.tl_height.specs.declared.standing.Standing.TheVariants.{High, Low, No}
use Rattle.tl_height.specs.HeightFunction.{falls_between}
use Rattle.tl_height.specs.Standing.{standing}
use Rattle.tl_height.specs.Letters.{IsDrawnFrom}

abbrev pub two_two : Region
two_two = region_of Square (codes "##" ∷ codes "##" ∷ [])

abbrev level : List Tile
level = drawn two_two (codes "><" ∷ codes "><" ∷ [])

abbrev upright : List Tile
upright = drawn two_two (codes "vv" ∷ codes "^^" ∷ [])

-- three rows of the corner columns 0 to 3; no cell has a corner in column 3
abbrev pub with_middle : ℤ → List ℤ
with_middle h =
    pos 0 ∷ negsuc 0 ∷ pos 0 ∷ pos 0 ∷ pos 1 ∷ h ∷ pos 1 ∷ pos 0 ∷ pos 0 ∷ negsuc 0 ∷ pos 0 ∷ pos 0 ∷ []

circuit_two : IsCircuit two_two (walk_of two_two)
circuit_two = record { on_boundary = refl; whole = refl; closed = refl; once = refl; first = refl }

accepted_two : Accepted two_two
accepted_two = record {
  placed = refl;
  nonempty = λ e. cc e;
  joined = one_part two_two 4 (cell 0 0) refl refl;
  no_pinch = refl;
  circuit = (walk_of two_two, circuit_two);
  euler = refl;
}

level_heights : AreHeights two_two level (with_middle (pos 2))
level_heights =
    heights-by two_two accepted_two (walk_of two_two) (corner 0 0) circuit_two refl level (with_middle (pos 2)) refl refl
    (refl, (refl, (refl, (refl, (refl, (refl, (refl, (refl, (refl, (refl, (refl, (refl, tt))))))))))))

upright_heights : AreHeights two_two upright (with_middle (negsuc 1))
upright_heights =
    heights-by two_two accepted_two (walk_of two_two) (corner 0 0) circuit_two refl upright (with_middle (negsuc 1)) refl refl
    (refl, (refl, (refl, (refl, (refl, (refl, (refl, (refl, (refl, (refl, (refl, (refl, tt))))))))))))

pub level_lawful : AreLawful two_two (with_middle (pos 2))
level_lawful = heights-lawful two_two level (with_middle (pos 2)) accepted_two refl level_heights

pub upright_lawful : AreLawful two_two (with_middle (negsuc 1))
upright_lawful = heights-lawful two_two upright (with_middle (negsuc 1)) accepted_two refl upright_heights

-- the region of this text
pub two_two-text : (R : Region) → IsRegionText (codes "square" ∷ codes "##" ∷ codes "##" ∷ []) R → R ≡ two_two
two_two-text R text = let same : ◌≡◌ {A = Result Region RegionRefusal} (Ok two_two) (Ok R) = text.0 in cc same

-- ---- drawings

abbrev level_text : List ℕ
level_text = 62 ∷ 60 ∷ 10 ∷ 62 ∷ 60 ∷ 10 ∷ []

level_drawn : IsDrawnFrom two_two (with_middle (pos 2)) level_text
level_drawn = record {
  tiles = level;
  tiling = refl;
  heights = level_heights;
  drawn = refl;
  only = λ others tiling heights.
      same-heights two_two others level (height two_two (with_middle (pos 2))) (height two_two (with_middle (pos 2))) tiling refl heights.along level_heights.along (λ v e. refl);
}

-- the drawing of the other tiling isn't that of these heights, nor is one without its last line feed
drawn-starts : (text : List ℕ) → IsDrawnFrom two_two (with_middle (pos 2)) text → text ≡ level_text
drawn-starts text d = d.drawn ∙ ap (drawing two_two) (sym (d.only level refl level_heights))

upright_not_drawn : IsDrawnFrom two_two (with_middle (pos 2)) (118 ∷ 118 ∷ 10 ∷ 94 ∷ 94 ∷ 10 ∷ []) → ⊥
upright_not_drawn d = let e : 118 ≡ 62 = ap (λ (t : List ℕ). slice_index t 0) (drawn-starts _ d) in omega (arith, e)

shorter_not_drawn : IsDrawnFrom two_two (with_middle (pos 2)) (62 ∷ 60 ∷ 10 ∷ 62 ∷ 60 ∷ []) → ⊥
shorter_not_drawn d = let e : 0 ≡ 10 = ap (λ (t : List ℕ). slice_index t 5) (drawn-starts _ d) in omega (arith, e)

-- ---- standing

level_stands : standing two_two level (corner 1 1) ≡ High
level_stands = refl

upright_stands : standing two_two upright (corner 1 1) ≡ Low
upright_stands = refl

-- at a boundary corner a tiling doesn't stand, and at an inner one it may stand neither way
boundary_stands : standing two_two level (corner 0 0) ≡ No
boundary_stands = refl

abbrev two_three : Region
two_three = region_of Square (codes "###" ∷ codes "###" ∷ [])

neither_stands : standing two_three (drawn two_three (codes "v><" ∷ codes "^><" ∷ [])) (corner 1 1) ≡ No
neither_stands = refl

-- ---- falls

fall_of_3 : falls_between (negsuc 0) (pos 2) ≡ true
fall_of_3 = refl

rise_of_1 : falls_between (negsuc 0) (pos 0) ≡ false
rise_of_1 = refl
