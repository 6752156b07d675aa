-- One of two lawful heights chosen at each corner, always the greater or always the lesser: the result is lawful.
use Rattle.std.proofs.Common.{◌≡◌, ℕ, ◌⊎◌, inl, inr, true, false, List, Some, refl, sym, ◌∙◌, arith, ℤ, pos, ◌+ℤ◌, ◌-ℤ◌, ◌*ℤ◌, ◌≤ℤ◌}
use Rattle.std.specs.Prelude.{slice_get, IsTrue, int_le, if◌then◌else◌}
use Rattle.std.proofs.lemmas.Int.{ints}
use Rattle.tl_definitions.specs.declared.Kind.{Kind}
use Rattle.tl_definitions.specs.declared.Kind.TheVariants.{Square, Triangle}
use Rattle.tl_definitions.specs.declared.Corner.{Corner}
use Rattle.tl_definitions.specs.Lattice.{rise, Side}
use Rattle.tl_definitions.specs.Region.{Region, is_corner_of, is_step}
use Rattle.tl_definitions.specs.Accepted.{Accepted, IsCircuit, circuit_corners}
use Rattle.tl_definitions.specs.Obstruction.{prefix}
use Rattle.tl_definitions.specs.Heights.{height, AreLawful}
use Rattle.tl_closing.proofs.Stated.{circuit-corner, height-numbers_of, numbers_of, numbers_of-heights, same-residue, step-ends}
use Rattle.tl_lawful.specs.Order.{greater, lesser}

-- ---- the greater and the lesser of two numbers

-- one of the two, and where both rise by no more than 1 it does so, too
pub record IsMildChoice (choice : ℤ → ℤ → ℤ) : Type 0 where
  pub one : (y z : ℤ) → (choice y z ≡ y) ⊎ (choice y z ≡ z)
  pub mild : (x y x' y' : ℤ) → x' ≤ℤ (x +ℤ pos 1) → y' ≤ℤ (y +ℤ pos 1) → choice x' y' ≤ℤ (choice x y +ℤ pos 1)

pub greater-one : (y z : ℤ) → (greater y z ≡ y) ⊎ (greater y z ≡ z)
greater-one y z = elim (int_le y z) as (λ t. ((if t then z else y) ≡ y) ⊎ ((if t then z else y) ≡ z)) [ true ↦ inr refl | false ↦ inl refl ]

pub greater-upper : (y z : ℤ) → (y ≤ℤ greater y z) × (z ≤ℤ greater y z)
greater-upper y z = grind (arith, ints)

-- from more, or to less, it still rises by no more than 1
rises : (x x' s t : ℤ) → x' ≤ℤ (x +ℤ pos 1) → x ≤ℤ s → t ≤ℤ x' → t ≤ℤ (s +ℤ pos 1)
rises x x' s t e l m = omega (arith, ints, e, l, m)

le-same : (y z : ℤ) → y ≡ z → y ≤ℤ z
le-same y z e = omega (arith, ints, e)

pub greater-mild : IsMildChoice greater
greater-mild = record { one = greater-one; mild = λ x y x' y' e f. go x y x' y' e f (greater-one x' y') }
  where
    go : (x y x' y' : ℤ) → x' ≤ℤ (x +ℤ pos 1) → y' ≤ℤ (y +ℤ pos 1) → (greater x' y' ≡ x') ⊎ (greater x' y' ≡ y') → greater x' y' ≤ℤ (greater x y +ℤ pos 1)
    go x y x' y' e f (inl same) = rises x x' (greater x y) (greater x' y') e (greater-upper x y).0 (le-same (greater x' y') x' same)
    go x y x' y' e f (inr same) = rises y y' (greater x y) (greater x' y') f (greater-upper x y).1 (le-same (greater x' y') y' same)

pub lesser-one : (y z : ℤ) → (lesser y z ≡ y) ⊎ (lesser y z ≡ z)
lesser-one y z = elim (int_le y z) as (λ t. ((if t then y else z) ≡ y) ⊎ ((if t then y else z) ≡ z)) [ true ↦ inl refl | false ↦ inr refl ]

pub lesser-lower : (y z : ℤ) → (lesser y z ≤ℤ y) × (lesser y z ≤ℤ z)
lesser-lower y z = grind (arith, ints)

pub lesser-mild : IsMildChoice lesser
lesser-mild = record { one = lesser-one; mild = λ x y x' y' e f. go x y x' y' e f (lesser-one x y) }
  where
    go : (x y x' y' : ℤ) → x' ≤ℤ (x +ℤ pos 1) → y' ≤ℤ (y +ℤ pos 1) → (lesser x y ≡ x) ⊎ (lesser x y ≡ y) → lesser x' y' ≤ℤ (lesser x y +ℤ pos 1)
    go x y x' y' e f (inl same) = rises x x' (lesser x y) (lesser x' y') e (le-same x (lesser x y) (sym same)) (lesser-lower x' y').0
    go x y x' y' e f (inr same) = rises y y' (lesser x y) (lesser x' y') f (le-same y (lesser x y) (sym same)) (lesser-lower x' y').1

-- ---- chosen at each corner

abbrev IsOneMore : Kind → ℤ → ℤ → Type 0
IsOneMore k y z = (m : ℤ) × (z ≡ (y +ℤ pos 1) +ℤ (pos (rise k) *ℤ m))

-- Two numbers differ by a multiple of the rise, and each is followed by one that is 1 more, modulo the rise. Then
-- either of the two may be followed by either.
either-more : (k : Kind) (x y x' y' s t : ℤ) → (j : ℤ) × (y ≡ x +ℤ (pos (rise k) *ℤ j)) → IsOneMore k x x' → IsOneMore k y y' → (s ≡ x) ⊎ (s ≡ y)
    → (t ≡ x') ⊎ (t ≡ y') → IsOneMore k s t
either-more Square x y x' y' s t (j, d) (m, e) (n, f) (inl p) (inl q) = (m, omega (arith, ints, e, p, q))
either-more Square x y x' y' s t (j, d) (m, e) (n, f) (inl p) (inr q) = (n +ℤ j, omega (arith, ints, d, f, p, q))
either-more Square x y x' y' s t (j, d) (m, e) (n, f) (inr p) (inl q) = (m -ℤ j, omega (arith, ints, d, e, p, q))
either-more Square x y x' y' s t (j, d) (m, e) (n, f) (inr p) (inr q) = (n, omega (arith, ints, f, p, q))
either-more Triangle x y x' y' s t (j, d) (m, e) (n, f) (inl p) (inl q) = (m, omega (arith, ints, e, p, q))
either-more Triangle x y x' y' s t (j, d) (m, e) (n, f) (inl p) (inr q) = (n +ℤ j, omega (arith, ints, d, f, p, q))
either-more Triangle x y x' y' s t (j, d) (m, e) (n, f) (inr p) (inl q) = (m -ℤ j, omega (arith, ints, d, e, p, q))
either-more Triangle x y x' y' s t (j, d) (m, e) (n, f) (inr p) (inr q) = (n, omega (arith, ints, f, p, q))

abbrev choice_at : Region → (ℤ → ℤ → ℤ) → List ℤ → List ℤ → Corner → ℤ
choice_at R choice a b v = choice (height R a v) (height R b v)

abbrev pub chosen : Region → (ℤ → ℤ → ℤ) → List ℤ → List ℤ → List ℤ
chosen R choice a b = numbers_of R (choice_at R choice a b)

module _ (R : Region) (a b : List ℤ) (choice : ℤ → ℤ → ℤ) (mild : IsMildChoice choice) (accepted : Accepted R) (a_lawful : AreLawful R a) (b_lawful : AreLawful R b) where
  pub chosen-at : (v : Corner) → is_corner_of R v ≡ true → height R (chosen R choice a b) v ≡ choice (height R a v) (height R b v)
  chosen-at v e = height-numbers_of R (choice_at R choice a b) v accepted.placed e

  pub chosen-lawful : AreLawful R (chosen R choice a b)
  chosen-lawful = record { heights = numbers_of-heights R (choice_at R choice a b); balanced = a_lawful.balanced; boundary = prefixes; modulo = modulo; least = least }
    where
      prefixes : (walk : List Side) (k : ℕ) (v : Corner) → IsCircuit R walk → slice_get (circuit_corners walk) k ≡ Some v → height R (chosen R choice a b) v ≡ prefix walk k
      prefixes walk k v circuit e = chosen-at v (circuit-corner R walk k v accepted.placed circuit e) ∙ go (mild.one (height R a v) (height R b v))
        where
          go : (choice_at R choice a b v ≡ height R a v) ⊎ (choice_at R choice a b v ≡ height R b v) → choice_at R choice a b v ≡ prefix walk k
          go (inl same) = same ∙ a_lawful.boundary walk k v circuit e
          go (inr same) = same ∙ b_lawful.boundary walk k v circuit e

      modulo : (u v : Corner) → IsTrue (is_step R u v) → IsOneMore R.kind (height R (chosen R choice a b) u) (height R (chosen R choice a b) v)
      modulo u v step =
          let ends = step-ends R u v step in
          rw (chosen-at u ends.0, chosen-at v ends.1)
          (either-more R.kind (height R a u) (height R b u) (height R a v) (height R b v) (choice_at R choice a b u) (choice_at R choice a b v)
          (same-residue R a b accepted a_lawful b_lawful u ends.0) (a_lawful.modulo u v step) (b_lawful.modulo u v step)
          (mild.one (height R a u) (height R b u)) (mild.one (height R a v) (height R b v)))

      least : (u v : Corner) → IsTrue (is_step R u v) → height R (chosen R choice a b) v ≤ℤ (height R (chosen R choice a b) u +ℤ pos 1)
      least u v step =
          let ends = step-ends R u v step in
          rw (chosen-at v ends.1, chosen-at u ends.0)
          (mild.mild (height R a u) (height R b u) (height R a v) (height R b v) (a_lawful.least u v step) (b_lawful.least u v step))
