-- Lawful heights along a step take one of two values; and two lawful heights differ by a multiple of the rise.
use Rattle.std.proofs.Common.{◌≡◌, ℕ, ◌-◌, ◌/◌, ◌%◌, ◌⊎◌, inl, inr, Bool, true, false, List, [], ◌∷◌, cond, Some, refl, ◌∙◌, ap, arith, ℤ, pos, negsuc, ◌+ℤ◌, ◌-ℤ◌, ◌*ℤ◌, int_lt}
use Rattle.std.specs.Prelude.{slice_get, IsTrue}
use Rattle.std.proofs.lemmas.Int.{ints}
use Rattle.tl_definitions.specs.declared.Kind.{Kind}
use Rattle.tl_definitions.specs.declared.Kind.TheVariants.{Square, Triangle}
use Rattle.tl_definitions.specs.declared.Cell.{Cell}
use Rattle.tl_definitions.specs.declared.Corner.{Corner}
use Rattle.tl_definitions.specs.Lattice.{rise, Side}
use Rattle.tl_definitions.specs.Region.{Region, boundary, is_corner_of, is_step}
use Rattle.tl_definitions.specs.Accepted.{Accepted, IsCircuit, circuit_corners}
use Rattle.tl_definitions.specs.Obstruction.{prefix}
use Rattle.tl_definitions.specs.Heights.{height, AreLawful}
use Rattle.tl_lists.proofs.Members.{In, In-slice_get}
use Rattle.tl_closing.specs.Closing.{steps_round}
use Rattle.tl_closing.proofs.Edges.{Distinct-cells, is_step-parts, is_step-from}
use Rattle.tl_closing.proofs.Round.{SameLabels}
use Rattle.tl_closing.proofs.Closing.{Round, round-from, labels-same}
use Rattle.tl_closing.proofs.Circuit.{boundary-walk}
use Rattle.tl_closing.proofs.Falls.{falls-by}
use Rattle.tl_closing.proofs.Start.{boundary-corner, boundary-some}

-- ---- along one step

module _ (R : Region) (numbers : List ℤ) (lawful : AreLawful R numbers) (u w : Corner) (step : IsTrue (is_step R u w)) where
  pub step-value : height R numbers w ≡ height R numbers u +ℤ cond (int_lt (height R numbers w) (height R numbers u)) (negsuc (rise R.kind - 2)) (pos 1)
  step-value = go (is_step-parts R u w step)
    where
      go : (a : Cell) × In a R.cells × In (u, w) (steps_round R.kind a)
          → height R numbers w ≡ height R numbers u +ℤ cond (int_lt (height R numbers w) (height R numbers u)) (negsuc (rise R.kind - 2)) (pos 1)
      go (a, i, j) = falls-by R (height R numbers) (record { modulo = lawful.modulo; least = lawful.least }) a (u, w) i j

  -- along a step that falls the heights fall by the rise less 1
  pub fall-value : int_lt (height R numbers w) (height R numbers u) ≡ true → height R numbers w ≡ height R numbers u +ℤ negsuc (rise R.kind - 2)
  fall-value falls = step-value ∙ ap (λ (t : Bool). height R numbers u +ℤ cond t (negsuc (rise R.kind - 2)) (pos 1)) falls

  pub one_or_fall : (height R numbers w ≡ height R numbers u +ℤ pos 1) ⊎ (height R numbers w ≡ height R numbers u +ℤ negsuc (rise R.kind - 2))
  one_or_fall = go (int_lt (height R numbers w) (height R numbers u)) step-value
    where
      go : (t : Bool) → height R numbers w ≡ height R numbers u +ℤ cond t (negsuc (rise R.kind - 2)) (pos 1)
          → (height R numbers w ≡ height R numbers u +ℤ pos 1) ⊎ (height R numbers w ≡ height R numbers u +ℤ negsuc (rise R.kind - 2))
      go true e = inr e
      go false e = inl e

-- ---- a whole number modulo the rise

abbrev modulo_rise : Kind → ℤ → ℕ
modulo_rise Square (pos n) = n % 4
modulo_rise Square (negsuc n) = 3 - n % 4
modulo_rise Triangle (pos n) = n % 3
modulo_rise Triangle (negsuc n) = 2 - n % 3

modulo_rise-more : (k : Kind) (y z m : ℤ) → y ≡ z +ℤ (pos (rise k) *ℤ m) → modulo_rise k y ≡ modulo_rise k z
modulo_rise-more Square (pos a) (pos b) m e = omega (arith, ints, e)
modulo_rise-more Square (pos a) (negsuc b) m e = omega (arith, ints, e)
modulo_rise-more Square (negsuc a) (pos b) m e = omega (arith, ints, e)
modulo_rise-more Square (negsuc a) (negsuc b) m e = omega (arith, ints, e)
modulo_rise-more Triangle (pos a) (pos b) m e = omega (arith, ints, e)
modulo_rise-more Triangle (pos a) (negsuc b) m e = omega (arith, ints, e)
modulo_rise-more Triangle (negsuc a) (pos b) m e = omega (arith, ints, e)
modulo_rise-more Triangle (negsuc a) (negsuc b) m e = omega (arith, ints, e)

modulo_rise-none : (k : Kind) (z : ℤ) → modulo_rise k z ≡ 0 → (m : ℤ) × (z ≡ pos (rise k) *ℤ m)
modulo_rise-none Square (pos n) e = (pos (n / 4), omega (arith, ints, e))
modulo_rise-none Square (negsuc n) e = (negsuc (n / 4), omega (arith, ints, e))
modulo_rise-none Triangle (pos n) e = (pos (n / 3), omega (arith, ints, e))
modulo_rise-none Triangle (negsuc n) e = (negsuc (n / 3), omega (arith, ints, e))

-- ---- two lawful heights

module _ (R : Region) (numbers others : List ℤ) (accepted : Accepted R) (lawful : AreLawful R numbers) (other_lawful : AreLawful R others) where
  -- how much the others are higher, modulo the rise
  gap : Corner → ℕ
  gap w = modulo_rise R.kind (height R others w -ℤ height R numbers w)

  gap-step : (u w : Corner) → IsTrue (is_step R u w) → gap u ≡ gap w
  unfolding gap
  gap-step u w step = go (lawful.modulo u w step) (other_lawful.modulo u w step)
    where
      apart : (k : Kind) (a b c d m n : ℤ) → b ≡ (a +ℤ pos 1) +ℤ (pos (rise k) *ℤ m) → d ≡ (c +ℤ pos 1) +ℤ (pos (rise k) *ℤ n)
          → c -ℤ a ≡ (d -ℤ b) +ℤ (pos (rise k) *ℤ (m -ℤ n))
      apart Square a b c d m n e f = omega (arith, ints, e, f)
      apart Triangle a b c d m n e f = omega (arith, ints, e, f)

      go : (m : ℤ) × (height R numbers w ≡ (height R numbers u +ℤ pos 1) +ℤ (pos (rise R.kind) *ℤ m))
          → (n : ℤ) × (height R others w ≡ (height R others u +ℤ pos 1) +ℤ (pos (rise R.kind) *ℤ n)) → gap u ≡ gap w
      go (m, e) (n, f) =
          modulo_rise-more R.kind (height R others u -ℤ height R numbers u) (height R others w -ℤ height R numbers w) (m -ℤ n)
          (apart R.kind (height R numbers u) (height R numbers w) (height R others u) (height R others w) m n e f)

  -- they agree at a corner of the circuit
  gap-start : (start : Corner) × (is_corner_of R start ≡ true) × (gap start ≡ 0)
  unfolding gap
  gap-start = with_cells R.cells accepted.nonempty (λ a i. boundary-some R a i)
    where
      zero : (k : Kind) (x y z : ℤ) → x ≡ z → y ≡ z → modulo_rise k (x -ℤ y) ≡ 0
      zero k x y z e f = ap (modulo_rise k) (none x y z e f) ∙ at k
        where
          none : (x y z : ℤ) → x ≡ z → y ≡ z → x -ℤ y ≡ pos 0
          none x y z e f = omega (arith, ints, e, f)

          at : (k : Kind) → modulo_rise k (pos 0) ≡ 0
          at Square = refl
          at Triangle = refl

      with_side : (s : Side) → In s (boundary R) → (start : Corner) × (is_corner_of R start ≡ true) × (modulo_rise R.kind (height R others start -ℤ height R numbers start) ≡ 0)
      with_side s i = go accepted.circuit
        where
          go : (walk : List Side) × IsCircuit R walk → (start : Corner) × (is_corner_of R start ≡ true) × (modulo_rise R.kind (height R others start -ℤ height R numbers start) ≡ 0)
          go (walk, circuit) = at (In-slice_get (λ (s : Side). s.from) s walk (boundary-walk R (Distinct-cells R accepted.placed) walk circuit s i))
            where
              at : (k : ℕ) × (slice_get (circuit_corners walk) k ≡ Some s.from)
                  → (start : Corner) × (is_corner_of R start ≡ true) × (modulo_rise R.kind (height R others start -ℤ height R numbers start) ≡ 0)
              at (k, e) = (
                s.from,
                boundary-corner R s i,
                zero R.kind (height R others s.from) (height R numbers s.from) (prefix walk k) (other_lawful.boundary walk k s.from circuit e) (lawful.boundary walk k s.from circuit e),
              )

      with_cells : (cells : List Cell) → (cells ≡ [] → ⊥) → ((a : Cell) → In a cells → (s : Side) × In s (boundary R))
          → (start : Corner) × (is_corner_of R start ≡ true) × (modulo_rise R.kind (height R others start -ℤ height R numbers start) ≡ 0)
      with_cells [] filled f = absurd (filled refl)
      with_cells (a ∷ cells) filled f = let (s, i) = f a (inl refl) in with_side s i

  pub same-residue : (v : Corner) → IsTrue (is_corner_of R v) → (m : ℤ) × (height R others v ≡ height R numbers v +ℤ (pos (rise R.kind) *ℤ m))
  unfolding gap
  same-residue v e = go gap-start
    where
      along : (a : Cell) → In a R.cells → Round (SameLabels gap) R a
      along a i = round-from (SameLabels gap) R a (λ d j. gap-step d.0 d.1 (is_step-from R a d.0 d.1 i j))

      back : (x y z : ℤ) → y -ℤ x ≡ z → y ≡ x +ℤ z
      back x y z e = omega (arith, ints, e)

      go : (start : Corner) × (is_corner_of R start ≡ true) × (gap start ≡ 0) → (m : ℤ) × (height R others v ≡ height R numbers v +ℤ (pos (rise R.kind) *ℤ m))
      go (start, at, none) =
          let (m, same) = modulo_rise-none R.kind (height R others v -ℤ height R numbers v) (labels-same R accepted.joined gap along v start e at ∙ none) in
          (m, back (height R numbers v) (height R others v) (pos (rise R.kind) *ℤ m) same)
