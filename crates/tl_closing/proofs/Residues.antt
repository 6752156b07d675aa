-- The residue of a corner, which rises by 1 along each directed step.
use Rattle.std.proofs.Common.{◌≡◌, ℕ, ◌+◌, ◌-◌, ◌%◌, ◌⊎◌, inl, inr, true, false, refl, arith, eqb}
use Rattle.std.proofs.lemmas.Bool.{eqb-true, eqb-false, eq-eqb, ne_eqb, cases_Bool}
use Rattle.tl_definitions.specs.declared.Kind.{Kind}
use Rattle.tl_definitions.specs.declared.Kind.TheVariants.{Square, Triangle}
use Rattle.tl_definitions.specs.declared.Corner.{Corner}
use Rattle.tl_definitions.specs.Lattice.{rise}
use Rattle.tl_definitions.proofs.Steps.{IsStepOut, IsMove, step-move}
use Rattle.tl_closing.specs.Residues.{residue}

residue-even : (v : Corner) → v.x % 2 ≡ 0 → residue Square v ≡ v.r % 2
residue-even v e = rw (eq-eqb (v.x % 2) 0 e) refl

residue-odd : (v : Corner) → v.x % 2 ≡ 1 → residue Square v ≡ 3 - v.r % 2
residue-odd v e = rw (ne_eqb (v.x % 2) 0 (omega (arith, e))) refl

parity : (n : ℕ) → (n % 2 ≡ 0) ⊎ (n % 2 ≡ 1)
parity n = go (cases_Bool (eqb (n % 2) 0))
  where
    odd : (n % 2 ≡ 0 → ⊥) → n % 2 ≡ 1
    odd h = omega (arith, h)

    go : (eqb (n % 2) 0 ≡ true) ⊎ (eqb (n % 2) 0 ≡ false) → (n % 2 ≡ 0) ⊎ (n % 2 ≡ 1)
    go (inl e) = inl (eqb-true _ _ e)
    go (inr e) = inr (odd (eqb-false _ _ e))

-- along a directed step the residue rises by 1 modulo the rise of a flip
pub residue-move : (k : Kind) (u v : Corner) → IsMove k u v → residue k v ≡ (residue k u + 1) % rise k
residue-move Square u v m = go (parity u.x) (parity v.x) m
  where
    go : (u.x % 2 ≡ 0) ⊎ (u.x % 2 ≡ 1) → (v.x % 2 ≡ 0) ⊎ (v.x % 2 ≡ 1) → IsMove Square u v → residue Square v ≡ (residue Square u + 1) % 4
    go (inl p) (inl q) (inl (even, column, inl h)) = rw (residue-even u p, residue-even v q) (omega (arith, p, q, even, column, h))
    go (inl p) (inl q) (inl (even, column, inr h)) = rw (residue-even u p, residue-even v q) (omega (arith, p, q, even, column, h))
    go (inl p) (inl q) (inr (odd, row, inl h)) = absurd (omega (arith, p, q, h))
    go (inl p) (inl q) (inr (odd, row, inr h)) = absurd (omega (arith, p, q, h))
    go (inl p) (inr q) (inl (even, column, h)) = absurd (omega (arith, p, q, column))
    go (inl p) (inr q) (inr (odd, row, h)) = rw (residue-even u p, residue-odd v q) (omega (arith, p, q, odd, row))
    go (inr p) (inl q) (inl (even, column, h)) = absurd (omega (arith, p, q, column))
    go (inr p) (inl q) (inr (odd, row, h)) = rw (residue-odd u p, residue-even v q) (omega (arith, p, q, odd, row))
    go (inr p) (inr q) (inl (even, column, inl h)) = rw (residue-odd u p, residue-odd v q) (omega (arith, p, q, even, column, h))
    go (inr p) (inr q) (inl (even, column, inr h)) = rw (residue-odd u p, residue-odd v q) (omega (arith, p, q, even, column, h))
    go (inr p) (inr q) (inr (odd, row, inl h)) = absurd (omega (arith, p, q, h))
    go (inr p) (inr q) (inr (odd, row, inr h)) = absurd (omega (arith, p, q, h))
residue-move Triangle u v (inl (row, on)) = omega (arith, on)
residue-move Triangle u v (inr (inl (up, back))) = omega (arith, back)
residue-move Triangle u v (inr (inr (down, back))) = omega (arith, back)

-- a step backwards is no step
pub step-one_way : (k : Kind) (u v : Corner) → IsStepOut k u v → IsStepOut k v u → ⊥
step-one_way k u v i j = go k (residue-move k u v (step-move k u v i)) (residue-move k v u (step-move k v u j))
  where
    go : (k : Kind) → residue k v ≡ (residue k u + 1) % rise k → residue k u ≡ (residue k v + 1) % rise k → ⊥
    go Square p q = around (residue Square u) (residue Square v) p q
      where
        around : (m n : ℕ) → n ≡ (m + 1) % 4 → m ≡ (n + 1) % 4 → ⊥
        around m n p q = omega (arith, p, q)
    go Triangle p q = around (residue Triangle u) (residue Triangle v) p q
      where
        around : (m n : ℕ) → n ≡ (m + 1) % 3 → m ≡ (n + 1) % 3 → ⊥
        around m n p q = omega (arith, p, q)
