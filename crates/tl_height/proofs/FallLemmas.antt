-- A step that a tile crosses falls, by 2 or 3, and one that none crosses rises by 1.
use Rattle.std.proofs.Common.{◌≡◌, ◌-◌, Bool, true, false, cond, ◌∙◌, ap, arith, ℤ, pos, negsuc, ◌+ℤ◌, ◌-ℤ◌, w32, to_z, of_z}
use Rattle.std.specs.Prelude.{nat_lt, unsigned_abs}
use Rattle.std.proofs.lemmas.Int.{ints, to_z-of_z}
use mir.Val.{SFits}
use Rattle.tl_definitions.specs.declared.Kind.{Kind}
use Rattle.tl_definitions.specs.declared.Kind.TheVariants.{Square, Triangle}
use Rattle.tl_definitions.specs.Lattice.{rise}
use Rattle.tl_height.specs.HeightFunction.{falls_between}

-- by the difference of the heights
by_difference : (x y d : ℤ) → x -ℤ y ≡ d → falls_between x y ≡ nat_lt 1 (unsigned_abs d)
by_difference x y d e = ap (λ (z : ℤ). nat_lt 1 (unsigned_abs z)) e

pub crossed-falls : (k : Kind) (x y : ℤ) (t : Bool) → y ≡ x +ℤ cond t (negsuc (rise k - 2)) (pos 1) → (falls_between x y ≡ t) × (falls_between y x ≡ t)
crossed-falls Square x y true e = (by_difference x y (pos 3) (omega (arith, ints, e)), by_difference y x (negsuc 2) (omega (arith, ints, e)))
crossed-falls Triangle x y true e = (by_difference x y (pos 2) (omega (arith, ints, e)), by_difference y x (negsuc 1) (omega (arith, ints, e)))
crossed-falls k x y false e = (by_difference x y (negsuc 0) (omega (arith, ints, e)), by_difference y x (pos 1) (omega (arith, ints, e)))

pub level-rests : (x : ℤ) → falls_between x x ≡ false
level-rests x = by_difference x x (pos 0) (omega (arith, ints))

-- ---- a number as a call has it

pub falls-passed : (n y w : ℤ) → SFits w32 w → w ≡ y → falls_between n (to_z w32 (of_z w32 w)) ≡ falls_between n y
falls-passed n y w fits same = ap (falls_between n) (to_z-of_z w32 w fits ∙ same)
