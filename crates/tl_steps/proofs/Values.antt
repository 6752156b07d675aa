-- What a step puts at an inner corner, by how the tiling stands there: the greatest lawful height is the present one, raised
-- by the rise of a flip where the heights fall along all steps to the corner; and the least is the present one, lowered by
-- it where they fall along all steps from the corner.
use Rattle.std.proofs.Common.{◌≡◌, ◌-◌, ◌⊎◌, inl, inr, Bool, true, false, List, [], ◌∷◌, map, refl, sym, ◌∙◌, ap, subst, arith, ℤ, pos, negsuc, ◌+ℤ◌, ◌-ℤ◌, ◌≤ℤ◌, int_lt}
use Rattle.std.specs.Prelude.{IsTrue}
use Rattle.std.specs.List.{list_all}
use Rattle.std.proofs.lemmas.Bool.{and_from}
use Rattle.std.proofs.lemmas.Int.{ints}
use Rattle.tl_definitions.specs.declared.Kind.{Kind}
use Rattle.tl_definitions.specs.declared.Kind.TheVariants.{Square, Triangle}
use Rattle.tl_definitions.specs.declared.Corner.{Corner}
use Rattle.tl_definitions.specs.Lattice.{rise, steps_in, steps_out}
use Rattle.tl_definitions.specs.Region.{Region, is_inner}
use Rattle.tl_definitions.specs.Heights.{height, AreLawful}
use Rattle.tl_definitions.proofs.Steps.{IsStepIn, IsStepOut}
use Rattle.tl_lists.specs.Lists.{present}
use Rattle.tl_lists.proofs.Members.{In, In-list_all, In-map, In-map_parts}
use Rattle.tl_closing.specs.Standing.{falls_from, falls_to}
use Rattle.tl_closing.proofs.Stated.{inner-step_in, inner-step_out, lt-false, lt-true, one_or_fall}
use Rattle.tl_steps.specs.Stepping.{highest_at, lowest_at}
use Rattle.tl_steps.proofs.Extremes.{greatest-is, least-is}
use Rattle.tl_steps.proofs.Read.{some-step_in, some-step_out}

-- where not all elements pass, one of them doesn't
some-fails : {A : Type 0} (p : A → Bool) (xs : List A) → list_all p xs ≡ false → (x : A) × In x xs × (p x ≡ false)
some-fails p [] e = cc e
some-fails {A} p (x ∷ xs) e = go (p x) refl (λ f. some-fails p xs f)
  where
    go : (t : Bool) → p x ≡ t → (list_all p xs ≡ false → (y : A) × In y xs × (p y ≡ false)) → (y : A) × In y (x ∷ xs) × (p y ≡ false)
    go false h ih = (x, inl refl, h)
    go true h ih = rest (list_all p xs) refl
      where
        rest : (t : Bool) → list_all p xs ≡ t → (y : A) × In y (x ∷ xs) × (p y ≡ false)
        rest true f = cc (sym (and_from (p x) (list_all p xs) h f), e)
        rest false f = let (y, i, g) = ih f in (y, inr i, g)

-- ---- two heights along a step

-- from y to z the heights rise by 1, or fall by the rise less 1
abbrev IsRise : Kind → ℤ → ℤ → Type 0
IsRise k y z = (z ≡ y +ℤ pos 1) ⊎ (z ≡ y +ℤ negsuc (rise k - 2))

falls : (k : Kind) (y z : ℤ) → IsRise k y z → int_lt z y ≡ true → z ≡ y +ℤ negsuc (rise k - 2)
falls k y z (inl e) l = let less = lt-true z y l in absurd (omega (arith, ints, e, less))
falls k y z (inr e) l = e

rises : (k : Kind) (y z : ℤ) → IsRise k y z → int_lt z y ≡ false → z ≡ y +ℤ pos 1
rises k y z (inl e) l = e
rises Square y z (inr e) l = let more = lt-false z y l in absurd (omega (arith, ints, e, more))
rises Triangle y z (inr e) l = let more = lt-false z y l in absurd (omega (arith, ints, e, more))

-- after a fall to z, one more than y is z with the rise; and before a fall from y, one less than z is y without it
over-fall : (k : Kind) (y z : ℤ) → z ≡ y +ℤ negsuc (rise k - 2) → y +ℤ pos 1 ≡ z +ℤ pos (rise k)
over-fall Square y z e = omega (arith, ints, e)
over-fall Triangle y z e = omega (arith, ints, e)

under-fall : (k : Kind) (y z : ℤ) → z ≡ y +ℤ negsuc (rise k - 2) → z -ℤ pos 1 ≡ y +ℤ negsuc (rise k - 1)
under-fall Square y z e = omega (arith, ints, e)
under-fall Triangle y z e = omega (arith, ints, e)

one_less : (y z : ℤ) → z ≡ y +ℤ pos 1 → z -ℤ pos 1 ≡ y
one_less y z e = omega (arith, ints, e)

module _ (R : Region) (numbers : List ℤ) (v : Corner) (lawful : AreLawful R numbers) (inner : is_inner R v ≡ true) where
  -- ---- the steps to the corner

  rise-in : (u : Corner) → IsStepIn R.kind u v → IsRise R.kind (height R numbers u) (height R numbers v)
  rise-in u i = one_or_fall R numbers lawful u v (inner-step_in R v u inner i)

  highest-from : (u : Corner) → IsStepIn R.kind u v → ((w : Corner) → IsStepIn R.kind w v → height R numbers u ≤ℤ height R numbers w)
      → highest_at R numbers v ≡ height R numbers u +ℤ pos 1
  highest-from u i lowest = ap (λ (z : ℤ). z +ℤ pos 1) (least-is (map (height R numbers) (present (steps_in R.kind v))) (height R numbers u) (In-map (height R numbers) u (present (steps_in R.kind v)) i) below)
    where
      below : (z : ℤ) → In z (map (height R numbers) (present (steps_in R.kind v))) → height R numbers u ≤ℤ z
      below z j =
          let (w, k, e) = In-map_parts (height R numbers) z (present (steps_in R.kind v)) j in
          subst (λ (y : ℤ). height R numbers u ≤ℤ y) (sym e) (lowest w k)

  pub highest-raised : IsTrue (falls_to R numbers v) → highest_at R numbers v ≡ height R numbers v +ℤ pos (rise R.kind)
  highest-raised all = go (some-step_in R.kind v)
    where
      fall : (u : Corner) → IsStepIn R.kind u v → height R numbers v ≡ height R numbers u +ℤ negsuc (rise R.kind - 2)
      fall u i =
          falls R.kind (height R numbers u) (height R numbers v) (rise-in u i)
          (In-list_all (λ u. int_lt (height R numbers v) (height R numbers u)) (present (steps_in R.kind v)) u all i)

      same : (x y z d : ℤ) → z ≡ x +ℤ d → z ≡ y +ℤ d → x ≤ℤ y
      same x y z d e f = omega (arith, ints, e, f)

      go : (u : Corner) × IsStepIn R.kind u v → highest_at R numbers v ≡ height R numbers v +ℤ pos (rise R.kind)
      go (u, i) =
          highest-from u i (λ w j. same (height R numbers u) (height R numbers w) (height R numbers v) (negsuc (rise R.kind - 2)) (fall u i) (fall w j))
          ∙ over-fall R.kind (height R numbers u) (height R numbers v) (fall u i)

  pub highest-same : falls_to R numbers v ≡ false → highest_at R numbers v ≡ height R numbers v
  highest-same some = go (some-fails (λ u. int_lt (height R numbers v) (height R numbers u)) (present (steps_in R.kind v)) some)
    where
      least : (x y z : ℤ) → z ≡ x +ℤ pos 1 → z ≤ℤ (y +ℤ pos 1) → x ≤ℤ y
      least x y z e l = omega (arith, ints, e, l)

      go : (u : Corner) × In u (present (steps_in R.kind v)) × (int_lt (height R numbers v) (height R numbers u) ≡ false) → highest_at R numbers v ≡ height R numbers v
      go (u, i, l) =
          let e = rises R.kind (height R numbers u) (height R numbers v) (rise-in u i) l in
          highest-from u i (λ w j. least (height R numbers u) (height R numbers w) (height R numbers v) e (lawful.least w v (inner-step_in R v w inner j))) ∙ sym e

  -- ---- the steps from the corner

  rise-out : (u : Corner) → IsStepOut R.kind v u → IsRise R.kind (height R numbers v) (height R numbers u)
  rise-out u i = one_or_fall R numbers lawful v u (inner-step_out R v u inner i)

  lowest-from : (u : Corner) → IsStepOut R.kind v u → ((w : Corner) → IsStepOut R.kind v w → height R numbers w ≤ℤ height R numbers u)
      → lowest_at R numbers v ≡ height R numbers u -ℤ pos 1
  lowest-from u i highest = ap (λ (z : ℤ). z -ℤ pos 1) (greatest-is (map (height R numbers) (present (steps_out R.kind v))) (height R numbers u) (In-map (height R numbers) u (present (steps_out R.kind v)) i) above)
    where
      above : (z : ℤ) → In z (map (height R numbers) (present (steps_out R.kind v))) → z ≤ℤ height R numbers u
      above z j =
          let (w, k, e) = In-map_parts (height R numbers) z (present (steps_out R.kind v)) j in
          subst (λ (y : ℤ). y ≤ℤ height R numbers u) (sym e) (highest w k)

  pub lowest-lowered : IsTrue (falls_from R numbers v) → lowest_at R numbers v ≡ height R numbers v +ℤ negsuc (rise R.kind - 1)
  lowest-lowered all = go (some-step_out R.kind v)
    where
      fall : (u : Corner) → IsStepOut R.kind v u → height R numbers u ≡ height R numbers v +ℤ negsuc (rise R.kind - 2)
      fall u i =
          falls R.kind (height R numbers v) (height R numbers u) (rise-out u i)
          (In-list_all (λ w. int_lt (height R numbers w) (height R numbers v)) (present (steps_out R.kind v)) u all i)

      same : (x y z : ℤ) → x ≡ z → y ≡ z → y ≤ℤ x
      same x y z e f = omega (arith, ints, e, f)

      go : (u : Corner) × IsStepOut R.kind v u → lowest_at R numbers v ≡ height R numbers v +ℤ negsuc (rise R.kind - 1)
      go (u, i) =
          lowest-from u i (λ w j. same (height R numbers u) (height R numbers w) (height R numbers v +ℤ negsuc (rise R.kind - 2)) (fall u i) (fall w j))
          ∙ under-fall R.kind (height R numbers v) (height R numbers u) (fall u i)

  pub lowest-same : falls_from R numbers v ≡ false → lowest_at R numbers v ≡ height R numbers v
  lowest-same some = go (some-fails (λ w. int_lt (height R numbers w) (height R numbers v)) (present (steps_out R.kind v)) some)
    where
      most : (x y z : ℤ) → x ≡ z +ℤ pos 1 → y ≤ℤ (z +ℤ pos 1) → y ≤ℤ x
      most x y z e l = omega (arith, ints, e, l)

      go : (u : Corner) × In u (present (steps_out R.kind v)) × (int_lt (height R numbers u) (height R numbers v) ≡ false) → lowest_at R numbers v ≡ height R numbers v
      go (u, i, l) =
          let e = rises R.kind (height R numbers v) (height R numbers u) (rise-out u i) l in
          lowest-from u i (λ w j. most (height R numbers u) (height R numbers w) (height R numbers v) e (lawful.least v w (inner-step_out R v w inner j)))
          ∙ one_less (height R numbers v) (height R numbers u) e
