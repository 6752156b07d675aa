-- That heights are lawful has one proof at most, and so has that two height functions are the same. A chain whose states are
-- height functions cites both.
use Rattle.std.specs.Prelude.{◌≡◌, List, ℤ, pos, ◌+ℤ◌, ◌*ℤ◌}
use Rattle.std.specs.Coded.{Coded, Coded-set, codes}
use Rattle.std.proofs.Common.{arith}
use Rattle.std.proofs.lemmas.Int.{ints}
use Rattle.std.proofs.Math.Nat.{ℕ_set}
use Rattle.std.proofs.Math.IntN.{ℤ_set}
use Rattle.std.proofs.Math.Dec.{T_prop}
use Rattle.std.proofs.Math.Path.{Σ_path, to_path_p}
use Rattle.tl_definitions.specs.declared.Kind.{Kind}
use Rattle.tl_definitions.specs.declared.Kind.TheVariants.{Square, Triangle}
use Rattle.tl_definitions.specs.Region.{Region}
use Rattle.tl_definitions.specs.Heights.{AreLawful}
use Rattle.tl_definitions.specs.Lattice.{rise}
use Rattle.tl_height.specs.HeightFunction.{HeightFunction}

-- how many times the rise one number is above another
multiple-one : (k : Kind) (m n low high : ℤ) → high ≡ low +ℤ (pos (rise k) *ℤ m) → high ≡ low +ℤ (pos (rise k) *ℤ n) → m ≡ n
multiple-one Square m n low high p q = omega (arith, ints, p, q)
multiple-one Triangle m n low high p q = omega (arith, ints, p, q)

modulo-one : (k : Kind) (high low : ℤ) → IsProp ((m : ℤ) × (high ≡ low +ℤ (pos (rise k) *ℤ m)))
modulo-one k high low p q =
    let e : p.0 ≡ q.0 = multiple-one k _ _ low high p.1 q.1 in
    Σ_path e (to_path_p (λ i. high ≡ low +ℤ (pos (rise k) *ℤ e i)) (ℤ_set _ _ _ _))

pub AreLawful-prop : (R : Region) (numbers : List ℤ) → IsProp (AreLawful R numbers)
AreLawful-prop R numbers = hlevel (ℕ_set, ℤ_set, T_prop, modulo-one)

pub HeightFunction-set : IsSet HeightFunction
HeightFunction-set = let stored : Coded HeightFunction = hlevel codes in Coded-set stored
