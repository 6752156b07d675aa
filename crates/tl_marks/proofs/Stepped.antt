-- The marks after a step, and after the steps at some corners.
use Rattle.std.proofs.Common.{◌≡◌, ◌-◌, Bool, true, false, not, List, refl, ◌∙◌, arith, ℤ, pos, negsuc, ◌+ℤ◌, ◌-ℤ◌}
use Rattle.std.proofs.lemmas.Int.{ints}
use Rattle.tl_definitions.specs.declared.Corner.{Corner}
use Rattle.tl_definitions.specs.Lattice.{rise}
use Rattle.tl_definitions.specs.Region.{Region, is_inner}
use Rattle.tl_definitions.specs.Heights.{height, AreLawful}
use Rattle.tl_closing.specs.Standing.{falls_from, falls_to}
use Rattle.tl_steps.specs.Stepping.{stepped_height}
use Rattle.tl_steps.proofs.Stated.{highest-raised, highest-same, lowest-lowered, lowest-same}
use Rattle.tl_marks.specs.Marks.{base, crossed_from, crossed_to, mark, stepped_mark, xor}
use Rattle.tl_marks.proofs.Crossed.{mark-same}
use Rattle.tl_marks.proofs.Halves.{half-less, half-more}
use Rattle.tl_marks.proofs.Standing.{high-crossed, low-crossed}

moved : (y z b m : ℤ) → y ≡ z +ℤ m → y -ℤ b ≡ (z -ℤ b) +ℤ m
moved y z b m e = omega (arith, ints, e)

xor-true : (p : Bool) → not p ≡ xor p true
xor-true true = refl
xor-true false = refl

xor-false : (p : Bool) → p ≡ xor p false
xor-false true = refl
xor-false false = refl

module _ (R : Region) (numbers others : List ℤ) (lawful : AreLawful R numbers) (v : Corner) (inner : is_inner R v ≡ true) where
  raised : (t : Bool) → falls_to R numbers v ≡ t → height R others v ≡ stepped_height R numbers v true → mark R others v ≡ xor (mark R numbers v) t
  raised true falls e =
      half-more R.kind (height R others v -ℤ base R.kind v) (height R numbers v -ℤ base R.kind v)
      (moved (height R others v) (height R numbers v) (base R.kind v) (pos (rise R.kind)) (e ∙ highest-raised R numbers v lawful inner falls))
      ∙ xor-true (mark R numbers v)
  raised false falls e = mark-same R numbers others v (e ∙ highest-same R numbers v lawful inner falls) ∙ xor-false (mark R numbers v)

  lowered : (t : Bool) → falls_from R numbers v ≡ t → height R others v ≡ stepped_height R numbers v false → mark R others v ≡ xor (mark R numbers v) t
  lowered true falls e =
      half-less R.kind (height R others v -ℤ base R.kind v) (height R numbers v -ℤ base R.kind v)
      (moved (height R others v) (height R numbers v) (base R.kind v) (negsuc (rise R.kind - 1)) (e ∙ lowest-lowered R numbers v lawful inner falls))
      ∙ xor-true (mark R numbers v)
  lowered false falls e = mark-same R numbers others v (e ∙ lowest-same R numbers v lawful inner falls) ∙ xor-false (mark R numbers v)

  -- The mark of a height that a step puts. So it is for one step, and for all steps that are made from the old heights.
  pub mark-stepped : (bit : Bool) → height R others v ≡ stepped_height R numbers v bit → mark R others v ≡ stepped_mark R.kind (mark R numbers) v bit
  mark-stepped true e = raised (crossed_to R.kind (mark R numbers) v) (low-crossed R numbers lawful v inner) e
  mark-stepped false e = lowered (crossed_from R.kind (mark R numbers) v) (high-crossed R numbers lawful v inner) e
