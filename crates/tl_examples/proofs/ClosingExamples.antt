-- What meets the closing lemma, and what near it doesn't.
use Rattle.std.proofs.Common.{◌≡◌, ℕ, true, false, ◌&&◌, List, [], ◌∷◌, map, refl, sym, ◌∙◌, ap, subst, arith, codes, ℤ, pos, negsuc, ◌+ℤ◌, ◌*ℤ◌}
use Rattle.std.specs.Prelude.{if◌then◌else◌}
use Rattle.std.proofs.lemmas.Int.{ints}
use Rattle.tl_definitions.specs.declared.Kind.{Kind}
use Rattle.tl_definitions.specs.declared.Kind.TheVariants.{Square, Triangle}
use Rattle.tl_definitions.specs.declared.Cell.{Cell}
use Rattle.tl_definitions.specs.declared.Corner.{Corner}
use Rattle.tl_definitions.specs.declared.Tile.{Tile}
use Rattle.tl_definitions.specs.Lattice.{cell, corner, corner_eq}
use Rattle.tl_definitions.specs.Region.{Region, is_inner}
use Rattle.tl_formats.specs.RegionText.{region_of}
use Rattle.tl_definitions.specs.Accepted.{Accepted, IsCircuit, IsPlaced, HasEulerOne}
use Rattle.tl_definitions.specs.Tiling.{is_tiling}
use Rattle.tl_definitions.specs.Obstruction.{sign, total}
use Rattle.tl_lists.specs.Lists.{int_sum}
use Rattle.tl_definitions.specs.Heights.{height, climb, AreHeights, AreHeightsOf, AreLawful}
use Rattle.tl_formats.proofs.Cases.{drawn, walk_of}
use Rattle.tl_definitions.proofs.Decide.{one_part}
use Rattle.tl_lists.proofs.Members.{In, Each, Each-at}
use Rattle.tl_definitions.specs.Flip.{stands_high, stands_low}
use Rattle.tl_closing.specs.Changed.{IsChangedAt}
use Rattle.tl_closing.specs.Standing.{falls_from, falls_to}
use Rattle.tl_closing.specs.Colours.{dark_count, light_count}
use Rattle.tl_closing.specs.Closing.{sum_round, steps_round, ClosesRoundCells, IsPotential, HasOnePotential}
use Rattle.tl_closing.proofs.Stated.{vertices, In-vertices, Step, edges, has-In, In-edges, is_step-parts, numbers_of, numbers_of-heights, Start, start-of, heights-lawful, total-colours, signs-total, FromLeft, rise_from_left, fill-inner, IsInOnePart, closing, potential-closes}

-- by a look at each cell, and at each edge
closes-by : (R : Region) (difference : Corner → Corner → ℤ) → Each (λ a. sum_round R.kind difference a ≡ pos 0) R.cells → ClosesRoundCells R difference
closes-by R difference each a h = Each-at (λ a. sum_round R.kind difference a ≡ pos 0) a R.cells each (has-In R a h)

potential-by : (R : Region) (difference : Corner → Corner → ℤ) (start : Corner) (h : Corner → ℤ) → IsPlaced R → h start ≡ pos 0
    → Each (λ e. h e.1 ≡ h e.0 +ℤ difference e.0 e.1) (edges R) → IsPotential R difference start h
potential-by R difference start h placed zero each = record { zero = zero; along = λ u v e. go u v (is_step-parts R u v e) }
  where
    go : (u v : Corner) → (a : Cell) × In a R.cells × In (u, v) (steps_round R.kind a) → h v ≡ h u +ℤ difference u v
    go u v (a, i, j) = Each-at (λ (e : Step). h e.1 ≡ h e.0 +ℤ difference e.0 e.1) (u, v) (edges R) each (In-edges R placed a (u, v) i j)

-- ---- the two tilings of the square of four cells

abbrev two_two : Region
two_two = region_of Square (codes "##" ∷ codes "##" ∷ [])

two_two_joined : IsInOnePart two_two
two_two_joined = one_part two_two 4 (cell 0 0) refl refl

abbrev level : List Tile
level = drawn two_two (codes "><" ∷ codes "><" ∷ [])

abbrev upright : List Tile
upright = drawn two_two (codes "vv" ∷ codes "^^" ∷ [])

level_closes : ClosesRoundCells two_two (climb two_two level)
level_closes = closes-by two_two (climb two_two level) (refl, (refl, (refl, (refl, tt))))

upright_closes : ClosesRoundCells two_two (climb two_two upright)
upright_closes = closes-by two_two (climb two_two upright) (refl, (refl, (refl, (refl, tt))))

level_has_one : HasOnePotential two_two (climb two_two level) (corner 0 0)
level_has_one = closing two_two refl two_two_joined refl (climb two_two level) level_closes (corner 0 0) refl

-- three rows of the corner columns 0 to 3
abbrev with_middle : ℤ → Corner → ℤ
with_middle m =
    height two_two (pos 0 ∷ negsuc 0 ∷ pos 0 ∷ pos 0 ∷ pos 1 ∷ m ∷ pos 1 ∷ pos 0 ∷ pos 0 ∷ negsuc 0 ∷ pos 0 ∷ pos 0 ∷ [])

level_potential : IsPotential two_two (climb two_two level) (corner 0 0) (with_middle (pos 2))
level_potential =
    potential-by two_two (climb two_two level) (corner 0 0) (with_middle (pos 2)) refl refl
    (refl, (refl, (refl, (refl, (refl, (refl, (refl, (refl, (refl, (refl, (refl, (refl, tt))))))))))))

upright_potential : IsPotential two_two (climb two_two upright) (corner 0 0) (with_middle (negsuc 1))
upright_potential =
    potential-by two_two (climb two_two upright) (corner 0 0) (with_middle (negsuc 1)) refl refl
    (refl, (refl, (refl, (refl, (refl, (refl, (refl, (refl, (refl, (refl, (refl, (refl, tt))))))))))))

-- another number in the middle is no potential, and the numbers of one tiling are none of the other's
odd_middle : IsPotential two_two (climb two_two level) (corner 0 0) (with_middle (pos 1)) → ⊥
odd_middle p = let h : pos 1 ≡ pos 2 = p.along (corner 1 0) (corner 1 1) refl in omega (arith, ints, h)

other_tiling : IsPotential two_two (climb two_two level) (corner 0 0) (with_middle (negsuc 1)) → ⊥
other_tiling p = let h : negsuc 1 ≡ pos 2 = p.along (corner 1 0) (corner 1 1) refl in omega (arith, ints, h)

-- so they are the heights of these tilings, and lawful
circuit_two : IsCircuit two_two (walk_of two_two)
circuit_two = record { on_boundary = refl; whole = refl; closed = refl; once = refl; first = refl }

accepted_two : Accepted two_two
accepted_two = record {
  placed = refl;
  nonempty = λ e. cc e;
  joined = two_two_joined;
  no_pinch = refl;
  circuit = (walk_of two_two, circuit_two);
  euler = refl;
}

abbrev middle_2 : List ℤ
middle_2 = pos 0 ∷ negsuc 0 ∷ pos 0 ∷ pos 0 ∷ pos 1 ∷ pos 2 ∷ pos 1 ∷ pos 0 ∷ pos 0 ∷ negsuc 0 ∷ pos 0 ∷ pos 0 ∷ []

middle_2_heights : AreHeights two_two level middle_2
middle_2_heights = record {
  heights = subst (λ (ns : List ℤ). AreHeightsOf two_two ns) listed (numbers_of-heights two_two (with_middle (pos 2)));
  start = λ walk v c e. ap (height two_two middle_2) (start.only walk v c e ∙ sym (start.only (walk_of two_two) (corner 0 0) circuit_two refl));
  along = level_potential.along;
}
  where
    start : Start two_two
    start = start-of two_two accepted_two

    listed : numbers_of two_two (with_middle (pos 2)) ≡ middle_2
    listed = refl

middle_2_lawful : AreLawful two_two middle_2
middle_2_lawful = heights-lawful two_two level middle_2 accepted_two refl middle_2_heights

-- with 1 in the middle, they are not
middle_1_not_lawful : AreLawful two_two (pos 0 ∷ negsuc 0 ∷ pos 0 ∷ pos 0 ∷ pos 1 ∷ pos 1 ∷ pos 1 ∷ pos 0 ∷ pos 0 ∷ negsuc 0 ∷ pos 0 ∷ pos 0 ∷ []) → ⊥
middle_1_not_lawful l = go (l.modulo (corner 1 0) (corner 1 1) refl)
  where
    go : (m : ℤ) × (pos 1 ≡ (pos 1 +ℤ pos 1) +ℤ (pos 4 *ℤ m)) → ⊥
    go (m, e) = omega (arith, ints, e)

-- ---- a lozenge

abbrev lozenge : Region
lozenge = region_of Triangle (codes "##" ∷ [])

abbrev one_tile : List Tile
one_tile = drawn lozenge (codes "><" ∷ [])

lozenge_closes : ClosesRoundCells lozenge (climb lozenge one_tile)
lozenge_closes = closes-by lozenge (climb lozenge one_tile) (refl, (refl, tt))

-- ---- differences of 1 close round no cell, and so have no potential

abbrev ones : Corner → Corner → ℤ
ones u v = pos 1

ones_open : ClosesRoundCells two_two ones → ⊥
ones_open c = let h : pos 4 ≡ pos 0 = c (cell 0 0) refl in omega (arith, ints, h)

ones_none : (start : Corner) (h : Corner → ℤ) → IsPotential two_two ones start h → ⊥
ones_none start h p = ones_open (potential-closes two_two ones start h p)

-- ---- Round a hole differences may close round each cell and still have no potential.

abbrev ring : Region
ring = region_of Square (codes "###" ∷ codes "#.#" ∷ codes "###" ∷ [])

ring_placed : IsPlaced ring
ring_placed = refl

ring_joined : IsInOnePart ring
ring_joined = one_part ring 8 (cell 0 0) refl refl

-- 1 upwards and -1 downwards at the two sides of the middle cell of the last column
abbrev winding : Corner → Corner → ℤ
winding u v =
    if corner_eq u (corner 2 2) && corner_eq v (corner 1 2)
    then pos 1
    else if corner_eq u (corner 1 3) && corner_eq v (corner 2 3) then negsuc 0 else pos 0

winding_closes : ClosesRoundCells ring winding
winding_closes = closes-by ring winding (refl, (refl, (refl, (refl, (refl, (refl, (refl, (refl, tt))))))))

winding_none : (start : Corner) (h : Corner → ℤ) → IsPotential ring winding start h → ⊥
winding_none start h p =
    let up : h (corner 1 2) ≡ h (corner 2 2) +ℤ pos 1 = p.along (corner 2 2) (corner 1 2) refl in
    let back : h (corner 1 1) ≡ h (corner 1 2) +ℤ pos 0 = p.along (corner 1 2) (corner 1 1) refl in
    let down : h (corner 2 1) ≡ h (corner 1 1) +ℤ pos 0 = p.along (corner 1 1) (corner 2 1) refl in
    let on : h (corner 2 2) ≡ h (corner 2 1) +ℤ pos 0 = p.along (corner 2 1) (corner 2 2) refl in
    omega (arith, ints, up, back, down, on)

-- so it is the count of its corners, edges and cells that the lemma misses
ring_euler : HasEulerOne ring → ⊥
ring_euler e = ring_count e
  where
    ring_count : ◌≡◌ {A = ℕ} 24 25 → ⊥
    ring_count h = omega (arith, h)

-- ---- standing

-- with 2 in the middle the tiling of two level dominoes stands high there, as the heights fall along both steps from it
level_high : (stands_high two_two level (corner 1 1) ≡ true) × (falls_from two_two middle_2 (corner 1 1) ≡ true)
level_high = (refl, refl)

level_not_low : (stands_low two_two level (corner 1 1) ≡ false) × (falls_to two_two middle_2 (corner 1 1) ≡ false)
level_not_low = (refl, refl)

-- ---- raising

abbrev middle_low : List ℤ
middle_low = pos 0 ∷ negsuc 0 ∷ pos 0 ∷ pos 0 ∷ pos 1 ∷ negsuc 1 ∷ pos 1 ∷ pos 0 ∷ pos 0 ∷ negsuc 0 ∷ pos 0 ∷ pos 0 ∷ []

-- the heights of the two tilings differ by a flip in the middle
raised_middle : IsChangedAt two_two middle_low middle_2 (corner 1 1) (pos 4)
raised_middle = record {
  heights = middle_2_heights.heights;
  here = refl;
  elsewhere = λ w e off. Each-at Kept w (vertices two_two) is_grid (In-vertices two_two refl w e) off;
}
  where
    Kept : Corner → Type 0
    Kept w = corner_eq w (corner 1 1) ≡ false → height two_two middle_2 w ≡ height two_two middle_low w

    is_grid : Each Kept (vertices two_two)
    is_grid = (
      (λ e. refl),
      ((λ e. refl), ((λ e. refl), ((λ e. refl), ((λ e. cc e), ((λ e. refl), ((λ e. refl), ((λ e. refl), ((λ e. refl), tt)))))))),
    )

-- raised by 3 they are none that a flip gives
raised_by_3 : IsChangedAt two_two middle_low middle_2 (corner 1 1) (pos 3) → ⊥
raised_by_3 c = let h : pos 2 ≡ pos 1 = c.here in omega (arith, ints, h)

low_falls : falls_to two_two middle_low (corner 1 1) ≡ true
low_falls = refl

-- ---- totals

-- one cell of each kind and colour
abbrev one_cell : Kind → List ℕ → Region
one_cell k line = region_of k (line ∷ [])

dark_totals : (total (one_cell Square (codes "#")) ≡ pos 4) × (total (one_cell Triangle (codes "#")) ≡ pos 3)
dark_totals = (refl, refl)

light_totals : (total (one_cell Square (codes ".#")) ≡ negsuc 3) × (total (one_cell Triangle (codes ".#")) ≡ negsuc 2)
light_totals = (refl, refl)

-- three cells in an angle, two of them light: the law says what the sum over the boundary is
abbrev angle : Region
angle = region_of Square (codes "##" ∷ codes "#." ∷ [])

angle_counts : (dark_count angle ≡ 1) × (light_count angle ≡ 2)
angle_counts = (refl, refl)

angle_total : (total angle ≡ negsuc 3) × (int_sum (map sign (walk_of angle)) ≡ negsuc 3)
angle_total = (total-colours angle refl, signs-total angle (walk_of angle) refl circuit_angle ∙ total-colours angle refl)
  where
    circuit_angle : IsCircuit angle (walk_of angle)
    circuit_angle = record { on_boundary = refl; whole = refl; closed = refl; once = refl; first = refl }

-- ---- filling

middle_2_from_left : FromLeft two_two level middle_2 (corner 1 1)
middle_2_from_left = fill-inner two_two level middle_2 refl middle_2_heights (corner 1 1) refl

-- to a corner with an even sum of row and column the step leads from the left, and from one with an odd sum to the left
even_rises : (rise_from_left two_two level (corner 1 1) ≡ pos 1) × (rise_from_left two_two upright (corner 1 1) ≡ negsuc 2)
even_rises = (refl, refl)

abbrev two_three : Region
two_three = region_of Square (codes "###" ∷ codes "###" ∷ [])

odd_rises : (rise_from_left two_three (drawn two_three (codes "><v" ∷ codes "><^" ∷ [])) (corner 1 2) ≡ negsuc 0)
    × (rise_from_left two_three (drawn two_three (codes "vvv" ∷ codes "^^^" ∷ [])) (corner 1 2) ≡ pos 3)
odd_rises = (refl, refl)

abbrev hexagon : Region
hexagon = region_of Triangle (codes "###" ∷ codes "###" ∷ [])

hexagon_rises : (rise_from_left hexagon (drawn hexagon (codes "><v" ∷ codes "><^" ∷ [])) (corner 1 2) ≡ pos 1)
    × (rise_from_left hexagon (drawn hexagon (codes "v><" ∷ codes "^><" ∷ [])) (corner 1 2) ≡ negsuc 1)
hexagon_rises = (refl, refl)

hexagon_inner : (is_inner hexagon (corner 1 2) ≡ true) × (is_tiling hexagon (drawn hexagon (codes "v><" ∷ codes "^><" ∷ [])) ≡ true)
hexagon_inner = (refl, refl)
