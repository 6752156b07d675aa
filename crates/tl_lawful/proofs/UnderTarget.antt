-- Lawful heights that are under others somewhere can be raised at an inner corner that is under them, too. Heights
-- that are over others somewhere can be lowered at an inner corner that is over them.
use Rattle.std.proofs.Common.{◌≡◌, ℕ, ◌-◌, ◌⊎◌, inl, inr, Bool, true, false, not, List, Some, refl, sym, ◌∙◌, ap, arith, ℤ, pos, negsuc, ◌+ℤ◌, ◌-ℤ◌, ◌<ℤ◌, int_lt}
use Rattle.std.specs.Prelude.{slice_get, IsTrue}
use Rattle.std.proofs.lemmas.Int.{ints}
use Rattle.tl_definitions.specs.declared.Corner.{Corner}
use Rattle.tl_definitions.specs.Lattice.{rise, steps_in, steps_out, Side}
use Rattle.tl_definitions.specs.Region.{Region, corner_places, is_corner_of, is_inner, is_step}
use Rattle.tl_definitions.specs.Accepted.{Accepted, IsCircuit, circuit_corners}
use Rattle.tl_definitions.specs.Heights.{height, AreLawful}
use Rattle.tl_definitions.proofs.Walks.{corner-In}
use Rattle.tl_lists.specs.Lists.{present}
use Rattle.tl_lists.proofs.Members.{In, In-filter_parts, In-map_parts, In-slice_get, list_all-In}
use Rattle.tl_closing.specs.Standing.{falls_from, falls_to}
use Rattle.tl_closing.proofs.Stated.{In-vertices, inner-step_in, inner-step_out, lt-true, on_circuit-inner, one_or_fall, step-ends, vertices}
use Rattle.tl_lawful.proofs.LeastMember.{IsLeast, least-of}

true-lt : (y z : ℤ) → y <ℤ z → int_lt y z ≡ true
true-lt y z l = grind (arith, ints)

-- an inner corner at which the heights can be raised, or lowered, on the way to the target
abbrev pub ToRaise : Region → List ℤ → List ℤ → Type 0
ToRaise R numbers target =
    (v : Corner) × IsTrue (is_inner R v) × IsTrue (falls_to R numbers v) × (height R numbers v <ℤ height R target v)

abbrev pub ToLower : Region → List ℤ → List ℤ → Type 0
ToLower R numbers target =
    (v : Corner) × IsTrue (is_inner R v) × IsTrue (falls_from R numbers v) × (height R target v <ℤ height R numbers v)

abbrev is_under : Region → List ℤ → List ℤ → Corner → Bool
is_under R numbers others v = int_lt (height R numbers v) (height R others v)

abbrev depth : Region → List ℤ → Corner → ℤ
depth R numbers v = pos 0 -ℤ height R numbers v

module _ (R : Region) (numbers target : List ℤ) (accepted : Accepted R) (lawful : AreLawful R numbers) (target_lawful : AreLawful R target) where
  -- on the circuit all lawful heights are the same, so where two differ the corner is an inner one
  pub apart-inner : (v : Corner) → is_corner_of R v ≡ true → (height R numbers v ≡ height R target v → ⊥) → is_inner R v ≡ true
  apart-inner v of_region apart = with_walk accepted.circuit
    where
      with_walk : (walk : List Side) × IsCircuit R walk → is_inner R v ≡ true
      with_walk (walk, circuit) = go (is_inner R v) refl
        where
          at_place : (k : ℕ) → slice_get (circuit_corners walk) k ≡ Some v → ⊥
          at_place k e = apart (lawful.boundary walk k v circuit e ∙ sym (target_lawful.boundary walk k v circuit e))

          on : (s : Side) × In s walk × (v ≡ s.from) → ⊥
          on (s, i, same) =
              let (k, e) = In-slice_get (λ (s : Side). s.from) s walk i in
              at_place k (e ∙ ap (λ (u : Corner). Some u) (sym same))

          off : In v (circuit_corners walk) → ⊥
          off i = on (In-map_parts (λ (s : Side). s.from) v walk i)

          go : (t : Bool) → is_inner R v ≡ t → is_inner R v ≡ true
          go true e = e
          go false e = absurd (off (corner-In v (circuit_corners walk) (on_circuit-inner R accepted.placed walk circuit v of_region ∙ ap not e)))

  -- A corner under the target whose height is least is one. If the heights rose by 1 along a step to it, the step would
  -- begin at a corner that is under the target as well, and less high.
  pub under-raised : (w : Corner) → is_corner_of R w ≡ true → height R numbers w <ℤ height R target w → ToRaise R numbers target
  under-raised w e l = go (least-of (is_under R numbers target) (height R numbers) (vertices R) w (In-vertices R accepted.placed w e) (true-lt (height R numbers w) (height R target w) l))
    where
      go : (v : Corner) × IsLeast (is_under R numbers target) (height R numbers) (vertices R) v → ToRaise R numbers target
      go (v, found) = (v, inner, list_all-In (λ u. int_lt (height R numbers v) (height R numbers u)) (present (steps_in R.kind v)) falls, under)
        where
          under : height R numbers v <ℤ height R target v
          under = lt-true (height R numbers v) (height R target v) found.passes

          inner : is_inner R v ≡ true
          inner =
              apart-inner v (In-filter_parts (is_corner_of R) v (corner_places R) found.among).1
              (λ same. omega (arith, ints, under, same))

          falls : (u : Corner) → In u (present (steps_in R.kind v)) → int_lt (height R numbers v) (height R numbers u) ≡ true
          falls u i = along (one_or_fall R numbers lawful u v step)
            where
              step : IsTrue (is_step R u v)
              step = inner-step_in R v u inner i

              along : (height R numbers v ≡ height R numbers u +ℤ pos 1) ⊎ (height R numbers v ≡ height R numbers u +ℤ negsuc (rise R.kind - 2))
                  → int_lt (height R numbers v) (height R numbers u) ≡ true
              along (inl rises) =
                  let most = target_lawful.least u v step in
                  let also : height R numbers u <ℤ height R target u = omega (arith, ints, rises, under, most) in
                  let no_less = found.least u (In-vertices R accepted.placed u (step-ends R u v step).0) (true-lt (height R numbers u) (height R target u) also) in
                  absurd (omega (arith, ints, rises, no_less))
              along (inr fall) = true-lt (height R numbers v) (height R numbers u) (omega (arith, ints, fall))

  -- A corner over the target whose height is greatest is one. If the heights rose by 1 along a step from it, the step
  -- would end at a corner that is over the target as well, and higher.
  pub over-lowered : (w : Corner) → is_corner_of R w ≡ true → height R target w <ℤ height R numbers w → ToLower R numbers target
  over-lowered w e l = go (least-of (is_under R target numbers) (depth R numbers) (vertices R) w (In-vertices R accepted.placed w e) (true-lt (height R target w) (height R numbers w) l))
    where
      go : (v : Corner) × IsLeast (is_under R target numbers) (depth R numbers) (vertices R) v → ToLower R numbers target
      go (v, found) = (v, inner, list_all-In (λ u. int_lt (height R numbers u) (height R numbers v)) (present (steps_out R.kind v)) falls, over)
        where
          over : height R target v <ℤ height R numbers v
          over = lt-true (height R target v) (height R numbers v) found.passes

          inner : is_inner R v ≡ true
          inner =
              apart-inner v (In-filter_parts (is_corner_of R) v (corner_places R) found.among).1
              (λ same. omega (arith, ints, over, same))

          falls : (u : Corner) → In u (present (steps_out R.kind v)) → int_lt (height R numbers u) (height R numbers v) ≡ true
          falls u i = along (one_or_fall R numbers lawful v u step)
            where
              step : IsTrue (is_step R v u)
              step = inner-step_out R v u inner i

              along : (height R numbers u ≡ height R numbers v +ℤ pos 1) ⊎ (height R numbers u ≡ height R numbers v +ℤ negsuc (rise R.kind - 2))
                  → int_lt (height R numbers u) (height R numbers v) ≡ true
              along (inl rises) =
                  let most = target_lawful.least v u step in
                  let also : height R target u <ℤ height R numbers u = omega (arith, ints, rises, over, most) in
                  let no_less = found.least u (In-vertices R accepted.placed u (step-ends R v u step).1) (true-lt (height R target u) (height R numbers u) also) in
                  absurd (omega (arith, ints, rises, no_less))
              along (inr fall) = true-lt (height R numbers u) (height R numbers v) (omega (arith, ints, fall))
