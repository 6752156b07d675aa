-- The base along a directed step.
use Rattle.std.proofs.Common.{◌≡◌, ℕ, ◌⊎◌, ◌+◌, ◌-◌, ◌*◌, ◌%◌, inl, inr, cond, arith, eqb, pos, negsuc, ◌+ℤ◌}
use Rattle.std.proofs.lemmas.Bool.{cases_eq, eq-eqb, ne_eqb, lt-ltb, le-ltb}
use Rattle.std.proofs.lemmas.Int.{ints}
use Rattle.tl_definitions.specs.declared.Kind.{Kind}
use Rattle.tl_definitions.specs.declared.Kind.TheVariants.{Square, Triangle}
use Rattle.tl_definitions.specs.declared.Corner.{Corner}
use Rattle.tl_definitions.specs.Lattice.{rise}
use Rattle.tl_definitions.proofs.Steps.{IsMove, IsStepOut, step-move}
use Rattle.tl_marks.specs.Marks.{base, is_turned}

-- a step on the triangular lattice leads to the class before, in turn
of_classes : (x y : ℕ) → (y + 1) % 3 ≡ x % 3 → pos (2 * y % 3) ≡ pos (2 * x % 3) +ℤ cond (eqb (x % 3) 1) (negsuc 1) (pos 1)
of_classes x y e = go (cases_eq (x % 3) 1)
  where
    go : (x % 3 ≡ 1) ⊎ ((x % 3 ≡ 1) → ⊥) → pos (2 * y % 3) ≡ pos (2 * x % 3) +ℤ cond (eqb (x % 3) 1) (negsuc 1) (pos 1)
    go (inl one) = rw (eq-eqb (x % 3) 1 one) (omega (arith, ints, e, one))
    go (inr other) = rw (ne_eqb (x % 3) 1 other) (omega (arith, ints, e, other))

base-move : (k : Kind) (u v : Corner) → IsMove k u v → base k v ≡ base k u +ℤ cond (is_turned k u v) (negsuc (rise k - 2)) (pos 1)
base-move Square u v (inl (even, column, inl up)) = rw (le-ltb u.x v.x (omega (arith, column))) (omega (arith, ints, even, column, up))
base-move Square u v (inl (even, column, inr down)) = rw (le-ltb u.x v.x (omega (arith, column))) (omega (arith, ints, even, column, down))
base-move Square u v (inr (odd, row, inl back)) = rw (le-ltb u.x v.x (omega (arith, back))) (omega (arith, ints, odd, row, back))
base-move Square u v (inr (odd, row, inr on)) = rw (lt-ltb u.x v.x (omega (arith, on))) (omega (arith, ints, odd, row, on))
base-move Triangle u v (inl (row, on)) = of_classes u.x v.x (omega (arith, on))
base-move Triangle u v (inr (inl (up, back))) = of_classes u.x v.x (omega (arith, back))
base-move Triangle u v (inr (inr (down, back))) = of_classes u.x v.x (omega (arith, back))

pub base-step : (k : Kind) (u v : Corner) → IsStepOut k u v → base k v ≡ base k u +ℤ cond (is_turned k u v) (negsuc (rise k - 2)) (pos 1)
base-step k u v i = base-move k u v (step-move k u v i)
