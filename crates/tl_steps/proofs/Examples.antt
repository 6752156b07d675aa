-- What meets the definitions, and what near them doesn't: steps between the heights of the two tilings of the square of
-- four cells, with 2 and -2 in the middle.
use Rattle.std.proofs.Common.{◌≡◌, ℕ, zero, suc, true, false, ◌&&◌, List, [], ◌∷◌, Some, refl, sym, subst, codes, ℤ, pos, negsuc}
use Rattle.std.specs.Prelude.{slice_get}
use Rattle.std.proofs.lemmas.List.Elements.{All-cons, All-head, All-nil}
use Rattle.tl_definitions.specs.declared.Kind.TheVariants.{Square}
use Rattle.tl_definitions.specs.declared.Corner.{Corner}
use Rattle.tl_definitions.specs.Lattice.{corner, corner_eq}
use Rattle.tl_definitions.specs.Region.{Region, inner_corners, is_corner_of, is_inner}
use Rattle.tl_definitions.specs.Heights.{height, AreHeightsOf}
use Rattle.tl_formats.specs.RegionText.{region_of}
use Rattle.tl_lists.proofs.Members.{Each, Each-at}
use Rattle.tl_closing.proofs.Stated.{In-vertices, numbers_of-heights, vertices}
use Rattle.tl_steps.specs.Stepping.{AgreeBut, AreChosenOf, AreStepped, AreSwept, is_of_class, stepped_height}

abbrev two_two : Region
two_two = region_of Square (codes "##" ∷ codes "##" ∷ [])

-- three rows of the corner columns 0 to 3; no cell has a corner in column 3
abbrev with_middle : ℤ → List ℤ
with_middle h =
    pos 0 ∷ negsuc 0 ∷ pos 0 ∷ pos 0 ∷ pos 1 ∷ h ∷ pos 1 ∷ pos 0 ∷ pos 0 ∷ negsuc 0 ∷ pos 0 ∷ pos 0 ∷ []

heights-two : (h : ℤ) → AreHeightsOf two_two (with_middle h)
heights-two h = numbers_of-heights two_two (height two_two (with_middle h))

-- what is told of each of the nine corners
each-corner : (P : Corner → Type 0) → Each P (vertices two_two) → (w : Corner) → is_corner_of two_two w ≡ true → P w
each-corner P all w e = Each-at P w (vertices two_two) all (In-vertices two_two refl w e)

agree : (y z : ℤ) → AgreeBut two_two (with_middle y) (with_middle z) (corner 1 1)
agree y z =
    each-corner (λ w. corner_eq w (corner 1 1) ≡ false → height two_two (with_middle z) w ≡ height two_two (with_middle y) w)
    (λ e. refl, (λ e. refl, (λ e. refl, (λ e. refl, (λ e. cc e, (λ e. refl, (λ e. refl, (λ e. refl, (λ e. refl, tt)))))))))

-- ---- one step

raised : AreStepped two_two (with_middle (negsuc 1)) (with_middle (pos 2)) (corner 1 1) true
raised = record { heights = heights-two (pos 2); here = refl; elsewhere = agree (negsuc 1) (pos 2) }

kept_high : AreStepped two_two (with_middle (pos 2)) (with_middle (pos 2)) (corner 1 1) true
kept_high = record { heights = heights-two (pos 2); here = refl; elsewhere = agree (pos 2) (pos 2) }

lowered : AreStepped two_two (with_middle (pos 2)) (with_middle (negsuc 1)) (corner 1 1) false
lowered = record { heights = heights-two (negsuc 1); here = refl; elsewhere = agree (pos 2) (negsuc 1) }

-- where the tiling stands low, a step with the bit 1 doesn't leave its heights as they are
not_kept_low : AreStepped two_two (with_middle (negsuc 1)) (with_middle (negsuc 1)) (corner 1 1) true → ⊥
not_kept_low stepped = cc stepped.here

-- ---- the steps at a class

only-inner : (i : ℕ) (v : Corner) → slice_get (inner_corners two_two) i ≡ Some v → (i ≡ 0) × (v ≡ corner 1 1)
only-inner zero v e = (refl, sym (cc e))
only-inner (suc i) v e = cc e

swept : AreSwept two_two (with_middle (negsuc 1)) (with_middle (pos 2)) (λ i. true) (is_of_class two_two 0)
swept = record {
  heights = heights-two (pos 2);
  stepped = λ i v e h.
      subst (λ (u : Corner). height two_two (with_middle (pos 2)) u ≡ stepped_height two_two (with_middle (negsuc 1)) u true) (sym (only-inner i v e).1) refl;
  kept = each-corner (λ w. (is_inner two_two w && is_of_class two_two 0 w) ≡ false → height two_two (with_middle (pos 2)) w ≡ height two_two (with_middle (negsuc 1)) w)
      (λ e. refl, (λ e. refl, (λ e. refl, (λ e. refl, (λ e. cc e, (λ e. refl, (λ e. refl, (λ e. refl, (λ e. refl, tt)))))))));
}

not_swept : AreSwept two_two (with_middle (negsuc 1)) (with_middle (pos 2)) (λ i. true) (is_of_class two_two 1) → ⊥
not_swept other_class = cc (other_class.kept (corner 1 1) refl refl)

-- ---- corners of a class

abbrev IsNumbered : ℕ × Corner → Type 0
IsNumbered p = slice_get (inner_corners two_two) p.0 ≡ Some p.1

chosen : AreChosenOf two_two 0 ((0, corner 1 1) ∷ [])
chosen = record { numbered = All-cons IsNumbered (0, corner 1 1) [] refl (All-nil IsNumbered); of_class = refl }

-- neither of another class nor by another number
not_of_class : AreChosenOf two_two 1 ((0, corner 1 1) ∷ []) → ⊥
not_of_class other_class = cc other_class.of_class

not_numbered : AreChosenOf two_two 0 ((1, corner 1 1) ∷ []) → ⊥
not_numbered other_number = cc (All-head IsNumbered (1, corner 1 1) [] other_number.numbered)
