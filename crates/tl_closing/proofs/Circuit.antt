-- Along the circuit: a function rises by the sign of each boundary edge exactly where it has the prefixes.
use Rattle.std.proofs.Common.{◌≡◌, ℕ, zero, suc, ◌+◌, inl, inr, Bool, true, false, List, [], ◌∷◌, ◌++◌, map, take, cond, Some, refl, sym, ◌∙◌, ap, subst, arith, ℤ, pos, ◌+ℤ◌}
use Rattle.std.specs.Prelude.{slice_get}
use Rattle.std.specs.List.{list_any}
use Rattle.std.proofs.lemmas.Int.{ints}
use Rattle.tl_definitions.specs.declared.Kind.{Kind}
use Rattle.tl_definitions.specs.declared.Kind.TheVariants.{Square, Triangle}
use Rattle.tl_definitions.specs.declared.Cell.{Cell}
use Rattle.tl_definitions.specs.declared.Corner.{Corner}
use Rattle.tl_definitions.specs.Lattice.{corner, corner_eq, is_dark, Side, side, sides}
use Rattle.tl_definitions.specs.Region.{Region, all_sides, side_eq, is_boundary, boundary}
use Rattle.tl_definitions.specs.Accepted.{IsCircuit, circuit_corners}
use Rattle.tl_lists.specs.Lists.{turned, int_sum}
use Rattle.tl_definitions.specs.Obstruction.{sign, prefix, total}
use Rattle.tl_lists.proofs.Members.{In, Each, Each-at, In-list_all}
use Rattle.tl_definitions.proofs.Corners.{corner_eq-refl}
use Rattle.tl_definitions.proofs.Walks.{side_eq-same, side_eq-refl, side-In}
use Rattle.tl_closing.specs.Closing.{step_along}
use Rattle.tl_lists.proofs.Distinct.{Distinct, Distinct-filter, Distinct-flat_map, Distinct-unmap, Distinct-from}
use Rattle.tl_closing.proofs.Centres.{round-once}
use Rattle.tl_lists.proofs.Sums.{sum-members, sum-turned}

-- ---- sides

sides-cells : (k : Kind) (a : Cell) → Each (λ s. s.cell ≡ a) (sides k a)
sides-cells Square a = (refl, (refl, (refl, (refl, tt))))
sides-cells Triangle a = go (is_dark a)
  where
    go : (t : Bool) → Each (λ s. s.cell ≡ a) (cond t
        (side a (corner a.r (a.c + 1)) (corner (a.r + 1) a.c) ∷ side a (corner (a.r + 1) a.c) (corner (a.r + 1) (a.c + 2)) ∷ side a (corner (a.r + 1) (a.c + 2)) (corner a.r (a.c + 1)) ∷ [])
        (side a (corner a.r a.c) (corner (a.r + 1) (a.c + 1)) ∷ side a (corner (a.r + 1) (a.c + 1)) (corner a.r (a.c + 2)) ∷ side a (corner a.r (a.c + 2)) (corner a.r a.c) ∷ []))
    go true = (refl, (refl, (refl, tt)))
    go false = (refl, (refl, (refl, tt)))

pub side-cell : (k : Kind) (a : Cell) (s : Side) → In s (sides k a) → s.cell ≡ a
side-cell k a s i = Each-at (λ s. s.cell ≡ a) s (sides k a) (sides-cells k a) i

-- ---- the boundary and the walk have the same sides

module _ (R : Region) (once : Distinct R.cells) where
  pub Distinct-all_sides : Distinct (all_sides R)
  Distinct-all_sides =
      Distinct-flat_map (sides R.kind) (λ s. s.cell) R.cells (λ a s i. side-cell R.kind a s i)
      (λ a. Distinct-unmap step_along (sides R.kind a) (round-once R.kind a)) once

  Distinct-boundary : Distinct (boundary R)
  Distinct-boundary = Distinct-filter (is_boundary R) (all_sides R) Distinct-all_sides

  module _ (walk : List Side) (circuit : IsCircuit R walk) where
    pub Distinct-walk : Distinct walk
    Distinct-walk = Distinct-unmap (λ s. s.from) walk (Distinct-from corner_eq corner_eq-refl (circuit_corners walk) circuit.once)

    pub walk-boundary : (s : Side) → In s walk → In s (boundary R)
    walk-boundary s i = side-In s (boundary R) (In-list_all (λ s. list_any (side_eq s) (boundary R)) walk s circuit.on_boundary i)

    pub boundary-walk : (s : Side) → In s (boundary R) → In s walk
    boundary-walk s i = side-In s walk (In-list_all (λ s. list_any (side_eq s) walk) (boundary R) s circuit.whole i)

    pub total-walk : total R ≡ int_sum (map sign walk)
    total-walk = sum-members side_eq side_eq-same side_eq-refl sign (boundary R) walk Distinct-boundary Distinct-walk boundary-walk walk-boundary

-- ---- along the walk

-- each side ends where the next begins, and the last at z
abbrev pub GoesTo : Side → List Side → Corner → Type 0
GoesTo s ss z = map (λ s. s.to) (s ∷ ss) ≡ map (λ s. s.from) ss ++ (z ∷ [])

head_same : (x y : Corner) (xs ys : List Corner) → x ∷ xs ≡ y ∷ ys → x ≡ y
head_same x y xs ys e = cc e

tail_same : (x y : Corner) (xs ys : List Corner) → x ∷ xs ≡ y ∷ ys → xs ≡ ys
tail_same x y xs ys e = cc e

pub next : (s t : Side) (ss : List Side) (z : Corner) → GoesTo s (t ∷ ss) z → (s.to ≡ t.from) × GoesTo t ss z
next s t ss z e = (
  head_same s.to t.from (map (λ s. s.to) (t ∷ ss)) (map (λ s. s.from) ss ++ (z ∷ [])) e,
  tail_same s.to t.from (map (λ s. s.to) (t ∷ ss)) (map (λ s. s.from) ss ++ (z ∷ [])) e,
)

module _ (h : Corner → ℤ) where
  -- the function rises by the sign of the side
  abbrev pub RisesAt : Side → Type 0
  RisesAt s = h s.to ≡ h s.from +ℤ sign s

  prefixes : (ss : List Side) (s : Side) (z : Corner) → GoesTo s ss z → ((t : Side) → In t (s ∷ ss) → RisesAt t)
      → (k : ℕ) (v : Corner) → slice_get (map (λ s. s.from) (s ∷ ss)) k ≡ Some v → h v ≡ h s.from +ℤ int_sum (map sign (take k (s ∷ ss)))
  prefixes ss s z to rises zero v e = let same : s.from ≡ v = cc e in ap h (sym same) ∙ none (h s.from)
    where
      none : (a : ℤ) → a ≡ a +ℤ pos 0
      none a = omega (arith, ints)
  prefixes [] s z to rises (suc k) v e = cc e
  prefixes (t ∷ ss) s z to rises (suc k) v e =
      let p = next s t ss z to in
      sum (h s.from) (sign s) (h t.from) (int_sum (map sign (take k (t ∷ ss)))) (h v) (ap h (sym p.0) ∙ rises s (inl refl)) (prefixes ss t z p.1 (λ u i. rises u (inr i)) k v e)
    where
      sum : (a b c d x : ℤ) → c ≡ a +ℤ b → x ≡ c +ℤ d → x ≡ a +ℤ (b +ℤ d)
      sum a b c d x e f = omega (arith, ints, e, f)

  rises-from : (ss : List Side) (s : Side) (z : Corner) (c : ℤ) → GoesTo s ss z
      → ((k : ℕ) (v : Corner) → slice_get (map (λ s. s.from) (s ∷ ss)) k ≡ Some v → h v ≡ c +ℤ int_sum (map sign (take k (s ∷ ss))))
      → h z ≡ c +ℤ int_sum (map sign (s ∷ ss)) → (t : Side) → In t (s ∷ ss) → RisesAt t
  rises-from [] s z c to at last t (inr i) = absurd i
  rises-from [] s z c to at last t (inl same) =
      subst RisesAt (sym same) (sum (h s.to) (h s.from) c (sign s) (ap h (head_same s.to z [] [] to) ∙ last) (at 0 s.from refl))
    where
      sum : (a b c d : ℤ) → a ≡ c +ℤ (d +ℤ pos 0) → b ≡ c +ℤ pos 0 → a ≡ b +ℤ d
      sum a b c d e f = omega (arith, ints, e, f)
  rises-from (u ∷ ss) s z c to at last t (inl same) =
      let p = next s u ss z to in
      subst RisesAt (sym same) (sum (h s.to) (h s.from) c (sign s) (ap h p.0 ∙ at 1 u.from refl) (at 0 s.from refl))
    where
      sum : (a b c d : ℤ) → a ≡ c +ℤ (d +ℤ pos 0) → b ≡ c +ℤ pos 0 → a ≡ b +ℤ d
      sum a b c d e f = omega (arith, ints, e, f)
  rises-from (u ∷ ss) s z c to at last t (inr i) =
      let p = next s u ss z to in
      rises-from ss u z (c +ℤ sign s) p.1 (λ k v e. move (h v) c (sign s) (int_sum (map sign (take k (u ∷ ss)))) (at (suc k) v e)) (move (h z) c (sign s) (int_sum (map sign (u ∷ ss))) last) t i
    where
      move : (a c d e : ℤ) → a ≡ c +ℤ (d +ℤ e) → a ≡ (c +ℤ d) +ℤ e
      move a c d e f = omega (arith, ints, f)

  -- round the walk the signs add up to 0
  pub signs-closed : (walk : List Side) → map (λ s. s.to) walk ≡ turned (circuit_corners walk) → ((t : Side) → In t walk → RisesAt t) → int_sum (map sign walk) ≡ pos 0
  signs-closed walk closed rises =
      cancel (int_sum (map h (map (λ s. s.to) walk))) (int_sum (map h (circuit_corners walk))) (int_sum (map sign walk)) (ends walk rises)
      (ap (λ (vs : List Corner). int_sum (map h vs)) closed ∙ sum-turned h (circuit_corners walk))
    where
      cancel : (a b c : ℤ) → a ≡ b +ℤ c → a ≡ b → c ≡ pos 0
      cancel a b c e f = omega (arith, ints, e, f)

      add : (a b c x y z : ℤ) → a ≡ b +ℤ c → x ≡ y +ℤ z → a +ℤ x ≡ (b +ℤ y) +ℤ (c +ℤ z)
      add a b c x y z e f = omega (arith, ints, e, f)

      ends : (ss : List Side) → ((t : Side) → In t ss → RisesAt t)
          → int_sum (map h (map (λ s. s.to) ss)) ≡ int_sum (map h (map (λ s. s.from) ss)) +ℤ int_sum (map sign ss)
      ends [] f = refl
      ends (s ∷ ss) f =
          add (h s.to) (h s.from) (sign s) (int_sum (map h (map (λ s. s.to) ss))) (int_sum (map h (map (λ s. s.from) ss))) (int_sum (map sign ss))
          (f s (inl refl)) (ends ss (λ t i. f t (inr i)))

-- a function that rises by the sign of each boundary edge and is 0 at the first corner has the prefixes
pub has-prefixes : (R : Region) (h : Corner → ℤ) (walk : List Side) → IsCircuit R walk → ((s : Side) → In s walk → RisesAt h s)
    → ((v : Corner) → slice_get (circuit_corners walk) 0 ≡ Some v → h v ≡ pos 0)
    → (k : ℕ) (v : Corner) → slice_get (circuit_corners walk) k ≡ Some v → h v ≡ prefix walk k
has-prefixes R h [] circuit rises start k v e = cc e
has-prefixes R h (s ∷ ss) circuit rises start k v e =
    drop_zero (h v) (h s.from) (prefix (s ∷ ss) k) (start s.from refl) (prefixes h ss s s.from circuit.closed rises k v e)
  where
    drop_zero : (a b c : ℤ) → b ≡ pos 0 → a ≡ b +ℤ c → a ≡ c
    drop_zero a b c e f = omega (arith, ints, e, f)

-- and one that has them, where the total is 0, rises so
pub rises-by_prefixes : (R : Region) (h : Corner → ℤ) (walk : List Side) → IsCircuit R walk → int_sum (map sign walk) ≡ pos 0
    → ((k : ℕ) (v : Corner) → slice_get (circuit_corners walk) k ≡ Some v → h v ≡ prefix walk k)
    → (s : Side) → In s walk → RisesAt h s
rises-by_prefixes R h [] circuit balanced at s i = absurd i
rises-by_prefixes R h (t ∷ ss) circuit balanced at s i =
    rises-from h ss t t.from (pos 0) circuit.closed (λ k v e. add_zero (h v) (prefix (t ∷ ss) k) (at k v e)) (both (h t.from) (int_sum (map sign (t ∷ ss))) (at 0 t.from refl) balanced) s i
  where
    add_zero : (a b : ℤ) → a ≡ b → a ≡ pos 0 +ℤ b
    add_zero a b e = omega (arith, ints, e)

    both : (a b : ℤ) → a ≡ pos 0 → b ≡ pos 0 → a ≡ pos 0 +ℤ b
    both a b e f = omega (arith, ints, e, f)
