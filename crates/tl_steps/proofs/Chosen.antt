-- The steps at corners of one class, one after the other, from heights that are read at corners of other classes.
use Rattle.std.proofs.Common.{◌≡◌, ℕ, ◌+◌, ◌*◌, ◌⊎◌, inl, inr, Bool, true, false, ◌&&◌, ◌||◌, List, [], ◌∷◌, Some, refl, sym, ◌∙◌, ap, subst, arith, ℤ, ◌+ℤ◌, ◌-ℤ◌}
use Rattle.std.specs.Prelude.{fold, slice_get}
use Rattle.std.proofs.lemmas.Bool.{and_parts, eqb-true, or_cases, or_left, or_right, false_from_ne_true}
use Rattle.std.proofs.lemmas.Int.{ints}
use Rattle.std.proofs.lemmas.List.Elements.{All-head, All-tail}
use Rattle.tl_definitions.specs.declared.Corner.{Corner}
use Rattle.tl_definitions.specs.declared.Tile.{Tile}
use Rattle.tl_definitions.specs.Lattice.{class_of, corner_eq}
use Rattle.tl_definitions.specs.Region.{Region, inner_corners, is_corner_of, is_inner}
use Rattle.tl_definitions.specs.Accepted.{Accepted, IsPlaced}
use Rattle.tl_definitions.specs.Heights.{height, AreHeightsOf}
use Rattle.tl_definitions.specs.Sweep.{step}
use Rattle.tl_definitions.proofs.Corners.{corner_eq-same, corner_eq-refl}
use Rattle.tl_definitions.proofs.InnerNumbers.{inner-at}
use Rattle.tl_lists.specs.Lists.{put_at}
use Rattle.tl_closing.specs.Changed.{IsChangedAt}
use Rattle.tl_closing.proofs.Stated.{inner-of_region, put-changed, same-numbers}
use Rattle.tl_steps.specs.Stepping.{AreChosenOf, AreStepped, AreSwept, is_among, is_of_class, stepped_height}
use Rattle.tl_steps.proofs.Read.{IsBeside, beside-class, beside-corner, stepped-same}
use Rattle.tl_steps.proofs.OneStep.{HasHeights, step-heights}

-- ---- the heights after one step

pub has-stepped : (R : Region) (numbers : List ℤ) (v : Corner) (bit : Bool) → IsPlaced R → AreHeightsOf R numbers → is_corner_of R v ≡ true
    → (others : List ℤ) × AreStepped R numbers others v bit
has-stepped R numbers v bit placed heights of_region = (others, record { heights = changed.heights; here = changed.here ∙ back (height R numbers v) (stepped_height R numbers v bit); elsewhere = changed.elsewhere })
  where
    more : ℤ
    more = stepped_height R numbers v bit -ℤ height R numbers v

    others : List ℤ
    others = put_at (v.r * (R.columns + 2) + v.x) ((height R numbers v +ℤ more) ∷ []) numbers

    changed : IsChangedAt R numbers others v more
    changed = put-changed R numbers v more placed heights of_region

    back : (y z : ℤ) → y +ℤ (z -ℤ y) ≡ z
    back y z = omega (arith, ints)

-- ---- the steps at a list of corners

chosen-first : (R : Region) (k : ℕ) (p : ℕ × Corner) (ps : List (ℕ × Corner)) → AreChosenOf R k (p ∷ ps)
    → (slice_get (inner_corners R) p.0 ≡ Some p.1) × (class_of R.kind p.1 ≡ k) × AreChosenOf R k ps
chosen-first R k p ps chosen =
    let of = and_parts (is_of_class R k p.1) _ chosen.of_class in (
      All-head (λ q. slice_get (inner_corners R) q.0 ≡ Some q.1) p ps chosen.numbered,
      eqb-true _ _ of.0,
      record { numbered = All-tail (λ q. slice_get (inner_corners R) q.0 ≡ Some q.1) p ps chosen.numbered; of_class = of.1 },
    )

among-of_class : (R : Region) (k : ℕ) (chosen : List (ℕ × Corner)) (v : Corner) → AreChosenOf R k chosen → is_among chosen v ≡ true → class_of R.kind v ≡ k
among-of_class R k [] v c e = cc e
among-of_class R k (p ∷ ps) v c e = go (or_cases (corner_eq v p.1) (is_among ps v) e) (λ h. among-of_class R k ps v (chosen-first R k p ps c).2 h)
  where
    go : (corner_eq v p.1 ≡ true) ⊎ (is_among ps v ≡ true) → (is_among ps v ≡ true → class_of R.kind v ≡ k) → class_of R.kind v ≡ k
    go (inl h) ih = ap (class_of R.kind) (corner_eq-same v p.1 h) ∙ (chosen-first R k p ps c).1
    go (inr h) ih = ih h

module _ (R : Region) (bits : ℕ → Bool) (k : ℕ) (accepted : Accepted R) where
  -- After the first of the steps the others read the same: it changed a height of their own class alone. So what they
  -- make of the new heights is what all make of the old ones.
  swept-rest : (p : ℕ × Corner) (ps : List (ℕ × Corner)) (numbers middle others : List ℤ) → AreChosenOf R k (p ∷ ps)
      → AreStepped R numbers middle p.1 (bits p.0) → AreSwept R numbers others bits (is_among (p ∷ ps)) → AreSwept R middle others bits (is_among ps)
  swept-rest p ps numbers middle others chosen first swept = record { heights = swept.heights; stepped = stepped; kept = kept }
    where
      parts : (slice_get (inner_corners R) p.0 ≡ Some p.1) × (class_of R.kind p.1 ≡ k) × AreChosenOf R k ps
      parts = chosen-first R k p ps chosen

      inner : is_inner R p.1 ≡ true
      inner = inner-at R p.1 p.0 parts.0

      stepped : (i : ℕ) (v : Corner) → slice_get (inner_corners R) i ≡ Some v → is_among ps v ≡ true → height R others v ≡ stepped_height R middle v (bits i)
      stepped i v e h =
          swept.stepped i v e (or_right (corner_eq v p.1) (is_among ps v) h)
          ∙ stepped-same R numbers middle v (bits i) (λ u beside. sym (first.elsewhere u (beside-corner R v u (inner-at R v i e) beside) (off u beside)))
        where
          off : (u : Corner) → IsBeside R.kind v u → corner_eq u p.1 ≡ false
          off u beside =
              false_from_ne_true (corner_eq u p.1)
              (λ h'. beside-class R.kind v u beside (ap (class_of R.kind) (corner_eq-same u p.1 h') ∙ (parts.1 ∙ sym (among-of_class R k ps v parts.2 h))))

      kept : (w : Corner) → is_corner_of R w ≡ true → (is_inner R w && is_among ps w) ≡ false → height R others w ≡ height R middle w
      kept w of_region out = go (corner_eq w p.1) refl
        where
          go : (t : Bool) → corner_eq w p.1 ≡ t → height R others w ≡ height R middle w
          go true e =
              let same : w ≡ p.1 = corner_eq-same w p.1 e in
              subst (λ (u : Corner). height R others u ≡ height R middle u) (sym same)
              (swept.stepped p.0 p.1 parts.0 (or_left (corner_eq p.1 p.1) _ (corner_eq-refl p.1)) ∙ sym first.here)
          go false e =
              swept.kept w of_region (ap (λ (t : Bool). is_inner R w && (t || is_among ps w)) e ∙ out)
              ∙ sym (first.elsewhere w of_region e)

  none-kept : (numbers others : List ℤ) → AreHeightsOf R numbers → AreSwept R numbers others bits (is_among []) → numbers ≡ others
  none-kept numbers others heights swept =
      same-numbers R numbers others heights swept.heights
      (λ w of_region. sym (swept.kept w of_region (false_from_ne_true (is_inner R w && false) (λ e. cc ((and_parts (is_inner R w) false e).1)))))

  pub chosen-heights : (chosen : List (ℕ × Corner)) (A : List Tile) (numbers others : List ℤ) → HasHeights R A numbers → AreChosenOf R k chosen
      → AreSwept R numbers others bits (is_among chosen) → HasHeights R (fold (λ B p. step R B p.1 (bits p.0)) A chosen) others
  chosen-heights [] A numbers others has chosen swept =
      subst (λ (others : List ℤ). HasHeights R A others) (none-kept numbers others has.1.heights swept) has
  chosen-heights (p ∷ ps) A numbers others has chosen swept =
      go (has-stepped R numbers p.1 (bits p.0) accepted.placed has.1.heights (inner-of_region R p.1 inner))
      (λ middle h s. chosen-heights ps (step R A p.1 (bits p.0)) middle others h (chosen-first R k p ps chosen).2 s)
    where
      inner : is_inner R p.1 ≡ true
      inner = inner-at R p.1 p.0 (chosen-first R k p ps chosen).0

      go : (middle : List ℤ) × AreStepped R numbers middle p.1 (bits p.0)
          → ((middle : List ℤ) → HasHeights R (step R A p.1 (bits p.0)) middle → AreSwept R middle others bits (is_among ps)
          → HasHeights R (fold (λ B p. step R B p.1 (bits p.0)) (step R A p.1 (bits p.0)) ps) others)
          → HasHeights R (fold (λ B p. step R B p.1 (bits p.0)) A (p ∷ ps)) others
      go (middle, first) rest =
          rest middle (step-heights R A numbers middle p.1 accepted has.0 has.1 inner (bits p.0) first) (swept-rest p ps numbers middle others chosen first swept)
