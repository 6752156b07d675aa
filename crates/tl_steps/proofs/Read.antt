-- What a step at a corner reads: the heights of the corners beside it, all of other classes.
use Rattle.std.proofs.Common.{◌≡◌, ◌+◌, ◌%◌, ◌⊎◌, inl, inr, Bool, true, false, List, map, refl, sym, arith, eqb, ℤ, pos, ◌+ℤ◌, ◌-ℤ◌, ◌≤ℤ◌}
use Rattle.std.proofs.lemmas.Int.{ints}
use Rattle.std.proofs.lemmas.Bool.{eqb-true, eqb-false}
use Rattle.tl_definitions.specs.declared.Kind.{Kind}
use Rattle.tl_definitions.specs.declared.Kind.TheVariants.{Square, Triangle}
use Rattle.tl_definitions.specs.declared.Corner.{Corner}
use Rattle.tl_definitions.specs.Lattice.{class_of, corner, steps_in, steps_out}
use Rattle.tl_definitions.specs.Region.{Region, is_corner_of, is_inner}
use Rattle.tl_definitions.specs.Heights.{height}
use Rattle.tl_definitions.proofs.Steps.{IsStepIn, IsStepOut, classes-differ, move-step, move-step_in, step_in-move}
use Rattle.tl_lists.specs.Lists.{present}
use Rattle.tl_closing.proofs.Stated.{inner-step_in, inner-step_out, step-ends}
use Rattle.tl_steps.specs.Stepping.{greatest, least, stepped_height}
use Rattle.tl_steps.proofs.Extremes.{greatest-below, le-both, least-below, same-le}

-- a step leads to the corner from u, or from it to u
abbrev pub IsBeside : Kind → Corner → Corner → Type 0
IsBeside k v u = IsStepIn k u v ⊎ IsStepOut k v u

pub beside-class : (k : Kind) (v u : Corner) → IsBeside k v u → class_of k u ≡ class_of k v → ⊥
beside-class k v u (inl i) e = classes-differ k u v (move-step k u v (step_in-move k u v i)) e
beside-class k v u (inr i) e = classes-differ k v u i (sym e)

pub beside-corner : (R : Region) (v u : Corner) → is_inner R v ≡ true → IsBeside R.kind v u → is_corner_of R u ≡ true
beside-corner R v u inner (inl i) = (step-ends R u v (inner-step_in R v u inner i)).0
beside-corner R v u inner (inr i) = (step-ends R v u (inner-step_out R v u inner i)).1

-- a step leads to each corner, and one from each
pub some-step_in : (k : Kind) (v : Corner) → (u : Corner) × IsStepIn k u v
some-step_in Square v = go (eqb ((v.r + v.x) % 2) 0) refl
  where
    go : (t : Bool) → eqb ((v.r + v.x) % 2) 0 ≡ t → (u : Corner) × IsStepIn Square u v
    go true e = let even = eqb-true _ _ e in (corner v.r (v.x + 1), move-step_in Square (corner v.r (v.x + 1)) v (inr (omega (arith, even), refl, inl refl)))
    go false e = let odd = eqb-false _ _ e in (corner (v.r + 1) v.x, move-step_in Square (corner (v.r + 1) v.x) v (inl (omega (arith, odd), refl, inl refl)))
some-step_in Triangle v = (corner (v.r + 1) (v.x + 1), move-step_in Triangle (corner (v.r + 1) (v.x + 1)) v (inr (inl (refl, refl))))

pub some-step_out : (k : Kind) (v : Corner) → (u : Corner) × IsStepOut k v u
some-step_out Square v = go (eqb ((v.r + v.x) % 2) 0) refl
  where
    go : (t : Bool) → eqb ((v.r + v.x) % 2) 0 ≡ t → (u : Corner) × IsStepOut Square v u
    go true e = let even = eqb-true _ _ e in (corner (v.r + 1) v.x, move-step Square v (corner (v.r + 1) v.x) (inl (omega (arith, even), refl, inr refl)))
    go false e = let odd = eqb-false _ _ e in (corner v.r (v.x + 1), move-step Square v (corner v.r (v.x + 1)) (inr (omega (arith, odd), refl, inr refl)))
some-step_out Triangle v = (corner v.r (v.x + 2), move-step Triangle v (corner v.r (v.x + 2)) (inl (refl, refl)))

one-more : (y z : ℤ) → y ≤ℤ z → (y +ℤ pos 1) ≤ℤ (z +ℤ pos 1)
one-more y z l = omega (arith, ints, l)

one-less : (y z : ℤ) → y ≤ℤ z → (y -ℤ pos 1) ≤ℤ (z -ℤ pos 1)
one-less y z l = omega (arith, ints, l)

-- what a step puts grows with what it reads, and is the same where that is the same
pub stepped-below : (R : Region) (a b : List ℤ) (v : Corner) (bit : Bool) → ((u : Corner) → IsBeside R.kind v u → height R a u ≤ℤ height R b u)
    → stepped_height R a v bit ≤ℤ stepped_height R b v bit
stepped-below R a b v true below =
    one-more (least (map (height R a) (present (steps_in R.kind v)))) (least (map (height R b) (present (steps_in R.kind v))))
    (least-below (height R a) (height R b) (present (steps_in R.kind v)) (λ u i. below u (inl i)))
stepped-below R a b v false below =
    one-less (greatest (map (height R a) (present (steps_out R.kind v)))) (greatest (map (height R b) (present (steps_out R.kind v))))
    (greatest-below (height R a) (height R b) (present (steps_out R.kind v)) (λ u i. below u (inr i)))

pub stepped-same : (R : Region) (a b : List ℤ) (v : Corner) (bit : Bool) → ((u : Corner) → IsBeside R.kind v u → height R a u ≡ height R b u)
    → stepped_height R a v bit ≡ stepped_height R b v bit
stepped-same R a b v bit same =
    le-both (stepped_height R a v bit) (stepped_height R b v bit) (stepped-below R a b v bit (λ u i. same-le (height R a u) (height R b u) (same u i)))
    (stepped-below R b a v bit (λ u i. same-le (height R b u) (height R a u) (sym (same u i))))
