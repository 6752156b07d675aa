-- The sums of the first signs of a list of sides.
use Rattle.std.proofs.Common.{w8, w64, ◌≡◌, ℕ, zero, suc, ◌+◌, ◌≤◌, Bool, true, false, cond, List, [], ◌∷◌, Some, ◌∙◌, ap, arith, ℤ, pos, negsuc, ◌+ℤ◌, neg_ℤ, ◌≤ℤ◌}
use Rattle.std.specs.Prelude.{slice_get}
use mir.Val.{SFits, to_z, of_z}
use Rattle.std.proofs.lemmas.Int.{ints}
use Rattle.std.proofs.Math.Numerals.{add-one}
use Rattle.tl_definitions.specs.Lattice.{is_dark, Side}
use Rattle.tl_definitions.specs.Limits.{most_corners}
use Rattle.tl_definitions.specs.Obstruction.{sign, prefix}

-- a sign is 1 or -1
pub sign-small : (s : Side) → (negsuc 0 ≤ℤ sign s) × (sign s ≤ℤ pos 1)
sign-small s = go (is_dark s.cell)
  where
    go : (t : Bool) → (negsuc 0 ≤ℤ cond t (pos 1) (negsuc 0)) × (cond t (pos 1) (negsuc 0) ≤ℤ pos 1)
    go true = (omega (arith, ints), omega (arith, ints))
    go false = (omega (arith, ints), omega (arith, ints))

-- a prefix lies between -k and k
pub prefix-small : (sides : List Side) (k : ℕ) → (neg_ℤ (pos k) ≤ℤ prefix sides k) × (prefix sides k ≤ℤ pos k)
prefix-small sides zero = (omega (arith, ints), omega (arith, ints))
prefix-small [] (suc k) = (omega (arith, ints), omega (arith, ints))
prefix-small (s ∷ sides) (suc k) =
    let rest = prefix-small sides k in
    let one = sign-small s in
    (omega (arith, ints, rest.0, one.0), omega (arith, ints, rest.1, one.1))

-- the next prefix
pub prefix-next : (sides : List Side) (k : ℕ) (s : Side) → slice_get sides k ≡ Some s → prefix sides (suc k) ≡ prefix sides k +ℤ sign s
prefix-next [] k s e = cc e
prefix-next (t ∷ sides) zero s e = let same : t ≡ s = cc e in omega (arith, ints, ap sign same)
prefix-next (t ∷ sides) (suc k) s e = let rest = prefix-next sides k s e in omega (arith, ints, rest)

-- the sum as the code has it, with the sign as it is read from 8 bits
pub record IsNextSum (sides : List Side) (k : ℕ) (sum more : ℤ) : Type 0 where
  pub fits : SFits w64 (sum +ℤ to_z w64 (of_z w64 more))
  pub is : to_z w64 (of_z w64 (sum +ℤ to_z w64 (of_z w64 more))) ≡ prefix sides (k + 1)

pub next_sum : (sides : List Side) (k : ℕ) (s : Side) (sum more : ℤ) → slice_get sides k ≡ Some s → k ≤ most_corners → sum ≡ prefix sides k → more ≡ to_z w8 (of_z w8 (sign s)) → IsNextSum sides k sum more
next_sum sides k s sum more at few e f =
    let small = prefix-small sides k in
    let one = sign-small s in
    let next : prefix sides (k + 1) ≡ prefix sides k +ℤ sign s = ap (prefix sides) (add-one k) ∙ prefix-next sides k s at in
    record { fits = omega (arith, ints, e, f, small.0, small.1, one.0, one.1, few); is = omega (arith, ints, e, f, small.0, small.1, one.0, one.1, few, next) }
