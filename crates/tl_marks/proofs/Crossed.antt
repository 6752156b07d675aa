-- A step is crossed by marks exactly where lawful heights fall along it.
use Rattle.std.proofs.Common.{◌≡◌, ◌-◌, ◌⊎◌, inl, inr, Bool, true, false, not, cond, List, sym, ap, subst, arith, ℤ, pos, negsuc, ◌+ℤ◌, ◌-ℤ◌, int_lt}
use Rattle.std.specs.Prelude.{IsTrue}
use Rattle.std.proofs.lemmas.Int.{ints}
use Rattle.tl_definitions.specs.declared.Kind.{Kind}
use Rattle.tl_definitions.specs.declared.Kind.TheVariants.{Square, Triangle}
use Rattle.tl_definitions.specs.declared.Corner.{Corner}
use Rattle.tl_definitions.specs.Lattice.{rise, steps_out}
use Rattle.tl_definitions.specs.Region.{Region, is_edge, is_step, steps}
use Rattle.tl_definitions.specs.Heights.{height, AreLawful}
use Rattle.tl_definitions.proofs.Walks.{corner-In}
use Rattle.tl_lists.specs.Lists.{present}
use Rattle.tl_lists.proofs.Members.{In-filter_parts}
use Rattle.tl_closing.proofs.Stated.{one_or_fall}
use Rattle.tl_marks.specs.Marks.{base, crossed_by_marks, is_turned, is_upper_half, mark, xor}
use Rattle.tl_marks.proofs.Bases.{base-step}
use Rattle.tl_marks.proofs.Halves.{half-less, half-more}

-- ---- one of two

xor-same : (p q : Bool) → q ≡ p → xor p q ≡ false
xor-same true q e = cc e
xor-same false q e = cc e

xor-not : (p q : Bool) → q ≡ not p → xor p q ≡ true
xor-not true q e = cc e
xor-not false q e = cc e

-- ---- two heights, and the bases there

-- from b to c the base rises by 1, or falls where the step is turned
abbrev IsBase : Kind → ℤ → ℤ → Bool → Type 0
IsBase k b c turned = c ≡ b +ℤ cond turned (negsuc (rise k - 2)) (pos 1)

abbrev crossing : Kind → ℤ → ℤ → ℤ → ℤ → Bool → Bool
crossing k x y b c turned = xor (xor (is_upper_half k (x -ℤ b)) (is_upper_half k (y -ℤ c))) turned

crossing-same : (k : Kind) (x y b c : ℤ) (turned : Bool) → y -ℤ c ≡ x -ℤ b → crossing k x y b c turned ≡ turned
crossing-same k x y b c turned e = ap (λ (t : Bool). xor t turned) (xor-same (is_upper_half k (x -ℤ b)) (is_upper_half k (y -ℤ c)) (ap (is_upper_half k) e))

crossing-other : (k : Kind) (x y b c : ℤ) (turned : Bool) → is_upper_half k (y -ℤ c) ≡ not (is_upper_half k (x -ℤ b)) → crossing k x y b c turned ≡ not turned
crossing-other k x y b c turned e = ap (λ (t : Bool). xor t turned) (xor-not (is_upper_half k (x -ℤ b)) (is_upper_half k (y -ℤ c)) e)

crossing-rise : (k : Kind) (x y b c : ℤ) (turned : Bool) → IsBase k b c turned → y ≡ x +ℤ pos 1 → crossing k x y b c turned ≡ false
crossing-rise k x y b c false f e = crossing-same k x y b c false (omega (arith, ints, e, f))
crossing-rise k x y b c true f e = crossing-other k x y b c true (half-more k (y -ℤ c) (x -ℤ b) (up k f))
  where
    up : (k : Kind) → IsBase k b c true → y -ℤ c ≡ (x -ℤ b) +ℤ pos (rise k)
    up Square f = omega (arith, ints, e, f)
    up Triangle f = omega (arith, ints, e, f)

crossing-fall : (k : Kind) (x y b c : ℤ) (turned : Bool) → IsBase k b c turned → y ≡ x +ℤ negsuc (rise k - 2) → crossing k x y b c turned ≡ true
crossing-fall k x y b c false f e = crossing-other k x y b c false (half-less k (y -ℤ c) (x -ℤ b) (down k e))
  where
    down : (k : Kind) → y ≡ x +ℤ negsuc (rise k - 2) → y -ℤ c ≡ (x -ℤ b) +ℤ negsuc (rise k - 1)
    down Square e = omega (arith, ints, e, f)
    down Triangle e = omega (arith, ints, e, f)
crossing-fall k x y b c true f e = crossing-same k x y b c true (omega (arith, ints, e, f))

int_lt-rise : (x y : ℤ) → y ≡ x +ℤ pos 1 → int_lt y x ≡ false
int_lt-rise x y e = grind (arith, ints)

int_lt-fall : (k : Kind) (x y : ℤ) → y ≡ x +ℤ negsuc (rise k - 2) → int_lt y x ≡ true
int_lt-fall Square x y e = grind (arith, ints)
int_lt-fall Triangle x y e = grind (arith, ints)

-- ---- marks

-- the same height has the same mark
pub mark-same : (R : Region) (numbers others : List ℤ) (v : Corner) → height R others v ≡ height R numbers v → mark R others v ≡ mark R numbers v
mark-same R numbers others v e = ap (λ (z : ℤ). is_upper_half R.kind (z -ℤ base R.kind v)) e

-- ---- along a step

module _ (R : Region) (numbers : List ℤ) (lawful : AreLawful R numbers) (u v : Corner) (step : IsTrue (is_step R u v)) where
  between : IsBase R.kind (base R.kind u) (base R.kind v) (is_turned R.kind u v)
  between = base-step R.kind u v (In-filter_parts (is_edge R u) v (present (steps_out R.kind u)) (corner-In v (steps R u) step)).0

  -- what is told of a step, whether its marks cross it or not
  abbrev IsTold : Bool → Type 0
  IsTold t = (height R numbers v ≡ height R numbers u +ℤ cond t (negsuc (rise R.kind - 2)) (pos 1)) × (t ≡ int_lt (height R numbers v) (height R numbers u))

  told : IsTold (crossed_by_marks R numbers u v)
  told = go (one_or_fall R numbers lawful u v step)
    where
      go : (height R numbers v ≡ height R numbers u +ℤ pos 1) ⊎ (height R numbers v ≡ height R numbers u +ℤ negsuc (rise R.kind - 2)) → IsTold (crossed_by_marks R numbers u v)
      go (inl e) =
          subst IsTold (sym (crossing-rise R.kind (height R numbers u) (height R numbers v) (base R.kind u) (base R.kind v) (is_turned R.kind u v) between e))
          (e, sym (int_lt-rise (height R numbers u) (height R numbers v) e))
      go (inr e) =
          subst IsTold (sym (crossing-fall R.kind (height R numbers u) (height R numbers v) (base R.kind u) (base R.kind v) (is_turned R.kind u v) between e))
          (e, sym (int_lt-fall R.kind (height R numbers u) (height R numbers v) e))

  pub crossed-value : height R numbers v ≡ height R numbers u +ℤ cond (crossed_by_marks R numbers u v) (negsuc (rise R.kind - 2)) (pos 1)
  crossed-value = told.0

  pub crossed-falls : crossed_by_marks R numbers u v ≡ int_lt (height R numbers v) (height R numbers u)
  crossed-falls = told.1
