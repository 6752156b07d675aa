-- Lawful heights stay lawful where they are raised at an inner corner to which all steps fall, or lowered at one from
-- which all steps fall.
use Rattle.std.proofs.Common.{◌≡◌, ℕ, ◌-◌, Bool, true, false, List, Some, refl, sym, ◌∙◌, ap, subst, arith, ℤ, pos, negsuc, ◌+ℤ◌, ◌*ℤ◌, ◌≤ℤ◌, int_lt}
use Rattle.std.specs.Prelude.{slice_get, IsTrue}
use Rattle.std.proofs.lemmas.Int.{ints}
use Rattle.std.proofs.lemmas.Bool.{false_from_ne_true}
use Rattle.tl_definitions.specs.declared.Kind.{Kind}
use Rattle.tl_definitions.specs.declared.Kind.TheVariants.{Square, Triangle}
use Rattle.tl_definitions.specs.declared.Corner.{Corner}
use Rattle.tl_definitions.specs.Lattice.{corner_eq, steps_out, Side, rise, steps_in}
use Rattle.tl_definitions.specs.Region.{Region, boundary, is_corner_of, is_inner, is_step}
use Rattle.tl_lists.specs.Lists.{present}
use Rattle.tl_definitions.specs.Accepted.{Accepted, IsCircuit, circuit_corners}
use Rattle.tl_definitions.specs.Obstruction.{prefix}
use Rattle.tl_definitions.specs.Heights.{height, AreLawful}
use Rattle.tl_lists.proofs.Members.{In, In-map_parts, slice_get-In, In-list_all}
use Rattle.tl_definitions.proofs.Corners.{corner_eq-same}
use Rattle.tl_closing.specs.Standing.{falls_from, falls_to}
use Rattle.tl_closing.specs.Changed.{IsChangedAt}
use Rattle.tl_closing.proofs.Residues.{step-one_way}
use Rattle.tl_closing.proofs.Edges.{Distinct-cells, step-out, step-in, step-ends}
use Rattle.tl_closing.proofs.Circuit.{walk-boundary}
use Rattle.tl_closing.proofs.AlongSteps.{fall-value}
use Rattle.tl_closing.proofs.Start.{boundary-corner}
use Rattle.tl_closing.proofs.Ring.{inner-off_boundary}

-- from x to y by 1 modulo the rise, and by no more than 1
abbrev IsMildRise : Kind → ℤ → ℤ → Type 0
IsMildRise k x y = ((m : ℤ) × (y ≡ (x +ℤ pos 1) +ℤ (pos (rise k) *ℤ m))) × (y ≤ℤ (x +ℤ pos 1))

module _ (R : Region) (numbers others : List ℤ) (v : Corner) (more : ℤ) (accepted : Accepted R) (lawful : AreLawful R numbers) (inner : is_inner R v ≡ true)
    (changed : IsChangedAt R numbers others v more) where
  -- it is enough to look at the steps at the corner
  changed-lawful : ((u : Corner) → IsTrue (is_step R u v) → IsMildRise R.kind (height R numbers u) (height R numbers v +ℤ more))
      → ((w : Corner) → IsTrue (is_step R v w) → IsMildRise R.kind (height R numbers v +ℤ more) (height R numbers w)) → AreLawful R others
  changed-lawful to from = record {
    heights = changed.heights;
    balanced = lawful.balanced;
    boundary = prefixes;
    modulo = λ u w e. (mild u w e).0;
    least = λ u w e. (mild u w e).1;
  }
    where
      mild : (u w : Corner) → IsTrue (is_step R u w) → IsMildRise R.kind (height R others u) (height R others w)
      mild u w e = go (corner_eq u v) (corner_eq w v) refl refl
        where
          at : (x : Corner) → corner_eq x v ≡ true → height R others x ≡ height R numbers v +ℤ more
          at x h = ap (height R others) (corner_eq-same x v h) ∙ changed.here

          off : (x : Corner) → is_corner_of R x ≡ true → corner_eq x v ≡ false → height R others x ≡ height R numbers x
          off x i h = changed.elsewhere x i h

          moved : (x y x' y' : ℤ) → x' ≡ x → y' ≡ y → IsMildRise R.kind x y → IsMildRise R.kind x' y'
          moved x y x' y' p q r = subst (λ (z : ℤ). IsMildRise R.kind z y') (sym p) (subst (λ (z : ℤ). IsMildRise R.kind x z) (sym q) r)

          go : (s t : Bool) → corner_eq u v ≡ s → corner_eq w v ≡ t → IsMildRise R.kind (height R others u) (height R others w)
          go true true p q =
              let same : w ≡ u = corner_eq-same w v q ∙ sym (corner_eq-same u v p) in
              let here : IsTrue (is_step R u u) = subst (λ (x : Corner). IsTrue (is_step R u x)) same e in
              absurd (step-one_way R.kind u u (step-out R u u here) (step-out R u u here))
          go true false p q =
              moved (height R numbers v +ℤ more) (height R numbers w) (height R others u) (height R others w) (at u p) (off w (step-ends R u w e).1 q)
              (from w (subst (λ (x : Corner). IsTrue (is_step R x w)) (corner_eq-same u v p) e))
          go false true p q =
              moved (height R numbers u) (height R numbers v +ℤ more) (height R others u) (height R others w) (off u (step-ends R u w e).0 p) (at w q)
              (to u (subst (λ (x : Corner). IsTrue (is_step R u x)) (corner_eq-same w v q) e))
          go false false p q =
              moved (height R numbers u) (height R numbers w) (height R others u) (height R others w) (off u (step-ends R u w e).0 p) (off w (step-ends R u w e).1 q)
              (lawful.modulo u w e, lawful.least u w e)

      prefixes : (walk : List Side) (k : ℕ) (w : Corner) → IsCircuit R walk → slice_get (circuit_corners walk) k ≡ Some w → height R others w ≡ prefix walk k
      prefixes walk k w c e = go (In-map_parts (λ (s : Side). s.from) w walk (slice_get-In (circuit_corners walk) k w e))
        where
          go : (s : Side) × In s walk × (w ≡ s.from) → height R others w ≡ prefix walk k
          go (s, i, same) =
              let edge : In s (boundary R) = walk-boundary R (Distinct-cells R accepted.placed) walk c s i in
              let of_region : is_corner_of R w ≡ true = subst (λ (x : Corner). is_corner_of R x ≡ true) (sym same) (boundary-corner R s edge) in
              let off : corner_eq w v ≡ false = false_from_ne_true (corner_eq w v) (λ h. inner-off_boundary R v inner s edge (sym same ∙ corner_eq-same w v h)) in
              changed.elsewhere w of_region off ∙ lawful.boundary walk k w c e

pub raised-lawful : (R : Region) (numbers others : List ℤ) (v : Corner) → Accepted R → AreLawful R numbers → IsTrue (is_inner R v)
    → IsTrue (falls_to R numbers v) → IsChangedAt R numbers others v (pos (rise R.kind)) → AreLawful R others
raised-lawful R numbers others v accepted lawful inner low changed =
    changed-lawful R numbers others v (pos (rise R.kind)) accepted lawful inner changed
    (λ u e. up R.kind (height R numbers u) (height R numbers v)
    (fall-value R numbers lawful u v e (In-list_all (λ u. int_lt (height R numbers v) (height R numbers u)) (present (steps_in R.kind v)) u low (step-in R u v e))))
    (λ w e. on R.kind (height R numbers v) (height R numbers w) (lawful.modulo v w e) (lawful.least v w e))
  where
    up : (k : Kind) (x y : ℤ) → y ≡ x +ℤ negsuc (rise k - 2) → IsMildRise k x (y +ℤ pos (rise k))
    up Square x y e = ((pos 0, omega (arith, ints, e)), omega (arith, ints, e))
    up Triangle x y e = ((pos 0, omega (arith, ints, e)), omega (arith, ints, e))

    on : (k : Kind) (x y : ℤ) → (m : ℤ) × (y ≡ (x +ℤ pos 1) +ℤ (pos (rise k) *ℤ m)) → y ≤ℤ (x +ℤ pos 1) → IsMildRise k (x +ℤ pos (rise k)) y
    on Square x y (m, e) l = ((m +ℤ negsuc 0, omega (arith, ints, e)), omega (arith, ints, l))
    on Triangle x y (m, e) l = ((m +ℤ negsuc 0, omega (arith, ints, e)), omega (arith, ints, l))

pub lowered-lawful : (R : Region) (numbers others : List ℤ) (v : Corner) → Accepted R → AreLawful R numbers → IsTrue (is_inner R v)
    → IsTrue (falls_from R numbers v) → IsChangedAt R numbers others v (negsuc (rise R.kind - 1)) → AreLawful R others
lowered-lawful R numbers others v accepted lawful inner high changed =
    changed-lawful R numbers others v (negsuc (rise R.kind - 1)) accepted lawful inner changed
    (λ u e. on R.kind (height R numbers u) (height R numbers v) (lawful.modulo u v e) (lawful.least u v e))
    (λ w e. down R.kind (height R numbers v) (height R numbers w)
    (fall-value R numbers lawful v w e (In-list_all (λ w. int_lt (height R numbers w) (height R numbers v)) (present (steps_out R.kind v)) w high (step-out R v w e))))
  where
    down : (k : Kind) (x y : ℤ) → y ≡ x +ℤ negsuc (rise k - 2) → IsMildRise k (x +ℤ negsuc (rise k - 1)) y
    down Square x y e = ((pos 0, omega (arith, ints, e)), omega (arith, ints, e))
    down Triangle x y e = ((pos 0, omega (arith, ints, e)), omega (arith, ints, e))

    on : (k : Kind) (x y : ℤ) → (m : ℤ) × (y ≡ (x +ℤ pos 1) +ℤ (pos (rise k) *ℤ m)) → y ≤ℤ (x +ℤ pos 1) → IsMildRise k x (y +ℤ negsuc (rise k - 1))
    on Square x y (m, e) l = ((m +ℤ negsuc 0, omega (arith, ints, e)), omega (arith, ints, l))
    on Triangle x y (m, e) l = ((m +ℤ negsuc 0, omega (arith, ints, e)), omega (arith, ints, l))
