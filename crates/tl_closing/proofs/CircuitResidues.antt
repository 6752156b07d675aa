-- Along the circuit: the prefixes are the differences of residues, up to a multiple of the rise of a flip.
use Rattle.std.proofs.Common.{◌≡◌, ℕ, zero, suc, ◌+◌, ◌/◌, ◌%◌, inl, inr, Bool, true, false, List, [], ◌∷◌, map, take, cond, Some, refl, subst, arith, ℤ, pos, negsuc, ◌+ℤ◌, ◌-ℤ◌, ◌*ℤ◌}
use Rattle.std.specs.Prelude.{slice_get}
use Rattle.std.proofs.lemmas.Int.{ints}
use Rattle.tl_definitions.specs.declared.Kind.{Kind}
use Rattle.tl_definitions.specs.declared.Kind.TheVariants.{Square, Triangle}
use Rattle.tl_definitions.specs.declared.Cell.{Cell}
use Rattle.tl_definitions.specs.declared.Corner.{Corner}
use Rattle.tl_definitions.specs.Lattice.{is_dark, rise, Side, sides}
use Rattle.tl_definitions.specs.Region.{Region, boundary, is_boundary}
use Rattle.tl_definitions.specs.Accepted.{IsPlaced, IsCircuit, circuit_corners}
use Rattle.tl_lists.specs.Lists.{int_sum}
use Rattle.tl_definitions.specs.Obstruction.{sign, prefix}
use Rattle.tl_lists.proofs.Members.{In, In-map}
use Rattle.tl_definitions.proofs.Steps.{step-move}
use Rattle.tl_closing.specs.Closing.{step_along}
use Rattle.tl_closing.specs.Residues.{residue}
use Rattle.tl_closing.proofs.Residues.{residue-move}
use Rattle.tl_closing.proofs.Sides.{directed}
use Rattle.tl_closing.proofs.Edges.{round-step, Distinct-cells}
use Rattle.tl_closing.proofs.Circuit.{GoesTo, next, walk-boundary}
use Rattle.tl_closing.proofs.Boundary.{boundary-parts}

-- z is the difference from a to b, up to a multiple of the rise
abbrev pub IsDifference : Kind → ℤ → ℤ → ℤ → Type 0
IsDifference k a b z = (m : ℤ) × (z ≡ (b -ℤ a) +ℤ (pos (rise k) *ℤ m))

difference-none : (k : Kind) (a : ℤ) → IsDifference k a a (pos 0)
difference-none Square a = (pos 0, omega (arith, ints))
difference-none Triangle a = (pos 0, omega (arith, ints))

difference-sum : (k : Kind) (a b c y z : ℤ) → IsDifference k a b y → IsDifference k b c z → IsDifference k a c (y +ℤ z)
difference-sum Square a b c y z (m, e) (n, f) = (m +ℤ n, omega (arith, ints, e, f))
difference-sum Triangle a b c y z (m, e) (n, f) = (m +ℤ n, omega (arith, ints, e, f))

difference-more : (k : Kind) (x y : ℕ) → y ≡ (x + 1) % rise k → IsDifference k (pos x) (pos y) (pos 1)
difference-more Square x y e = (pos ((x + 1) / 4), omega (arith, ints, e))
difference-more Triangle x y e = (pos ((x + 1) / 3), omega (arith, ints, e))

difference-less : (k : Kind) (x y : ℕ) → x ≡ (y + 1) % rise k → IsDifference k (pos x) (pos y) (negsuc 0)
difference-less Square x y e = (pos 0 -ℤ pos ((y + 1) / 4), omega (arith, ints, e))
difference-less Triangle x y e = (pos 0 -ℤ pos ((y + 1) / 3), omega (arith, ints, e))

abbrev Between : Kind → Corner → Corner → ℤ → Type 0
Between k u v z = IsDifference k (pos (residue k u)) (pos (residue k v)) z

-- the sign of a boundary side is the difference of the residues of its ends
side-residues : (R : Region) (s : Side) → In s (boundary R) → Between R.kind s.from s.to (sign s)
side-residues R s i = at (boundary-parts R s i)
  where
    go : (t : Bool) → residue R.kind (directed t s.from s.to).1 ≡ (residue R.kind (directed t s.from s.to).0 + 1) % rise R.kind
        → Between R.kind s.from s.to (cond t (pos 1) (negsuc 0))
    go true e = difference-more R.kind (residue R.kind s.from) (residue R.kind s.to) e
    go false e = difference-less R.kind (residue R.kind s.from) (residue R.kind s.to) e

    at : (a : Cell) × In a R.cells × In s (sides R.kind a) × (is_boundary R s ≡ true) → Between R.kind s.from s.to (sign s)
    at (a, j, k, edge) =
        go (is_dark s.cell)
        (residue-move R.kind (step_along s).0 (step_along s).1
        (step-move R.kind (step_along s).0 (step_along s).1 (round-step R.kind a (step_along s) (In-map step_along s (sides R.kind a) k))))

prefixes-residues : (k : Kind) (ss : List Side) (s : Side) (z : Corner) → GoesTo s ss z → ((t : Side) → In t (s ∷ ss) → Between k t.from t.to (sign t))
    → (n : ℕ) (v : Corner) → slice_get (map (λ s. s.from) (s ∷ ss)) n ≡ Some v → Between k s.from v (int_sum (map sign (take n (s ∷ ss))))
prefixes-residues k ss s z to signs zero v e =
    let same : s.from ≡ v = cc e in
    subst (λ (u : Corner). Between k s.from u (pos 0)) same (difference-none k (pos (residue k s.from)))
prefixes-residues k [] s z to signs (suc n) v e = cc e
prefixes-residues k (t ∷ ss) s z to signs (suc n) v e =
    let p = next s t ss z to in
    difference-sum k (pos (residue k s.from)) (pos (residue k t.from)) (pos (residue k v)) (sign s) (int_sum (map sign (take n (t ∷ ss))))
    (subst (λ (u : Corner). Between k s.from u (sign s)) p.0 (signs s (inl refl)))
    (prefixes-residues k ss t z p.1 (λ u i. signs u (inr i)) n v e)

pub circuit-residues : (R : Region) (walk : List Side) (k : ℕ) (start v : Corner) → IsPlaced R → IsCircuit R walk
    → slice_get (circuit_corners walk) 0 ≡ Some start → slice_get (circuit_corners walk) k ≡ Some v
    → (m : ℤ) × (prefix walk k ≡ (pos (residue R.kind v) -ℤ pos (residue R.kind start)) +ℤ (pos (rise R.kind) *ℤ m))
circuit-residues R [] k start v placed circuit begins e = cc begins
circuit-residues R (s ∷ ss) k start v placed circuit begins e =
    let same : s.from ≡ start = cc begins in
    subst (λ (u : Corner). Between R.kind u v (prefix (s ∷ ss) k)) same
    (prefixes-residues R.kind ss s s.from circuit.closed
    (λ t i. side-residues R t (walk-boundary R (Distinct-cells R placed) (s ∷ ss) circuit t i)) k v e)
