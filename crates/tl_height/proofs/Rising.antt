-- The steps at an inner corner that rise, found by the height at their other end.
use Rattle.std.proofs.Common.{◌≡◌, ◌⊎◌, inl, inr, Bool, true, false, not, List, Option, Some, None, refl, ◌∙◌, sym, ap, arith, ℤ, pos, negsuc, ◌+ℤ◌, ◌-ℤ◌, ◌<ℤ◌, int_lt, ◌-◌}
use Rattle.std.specs.Prelude.{find, IsTrue, MatchOption, is_some}
use Rattle.std.specs.Ordering.{int_eq}
use Rattle.std.proofs.lemmas.Bool.Decides.{Decides-int_eq}
use Rattle.std.proofs.lemmas.Int.{ints}
use Rattle.tl_definitions.specs.declared.Corner.{Corner}
use Rattle.tl_definitions.specs.Lattice.{rise, steps_in, steps_out}
use Rattle.tl_definitions.specs.Region.{Region, is_edge, is_inner, is_step, steps}
use Rattle.tl_definitions.specs.Heights.{height, AreLawful}
use Rattle.tl_lists.specs.Lists.{present}
use Rattle.tl_lists.proofs.Members.{In, In-filter_parts, In-list_all, list_all-In}
use Rattle.tl_definitions.proofs.Steps.{move-step_in, step-move}
use Rattle.tl_definitions.proofs.Walks.{corner-In}
use Rattle.tl_lists.proofs.Searches.{find-In, find-none}
use Rattle.tl_lattice.specs.Places.{padded}
use Rattle.tl_closing.specs.Standing.{falls_from, falls_to}
use Rattle.tl_closing.proofs.Stated.{inner-step_in, inner-step_out, one_or_fall}
use Rattle.tl_height.proofs.PresentLemmas.{present-padded}

true-lt : (y z : ℤ) → y <ℤ z → int_lt y z ≡ true
true-lt y z l = grind (arith, ints)

abbrev pub RisingFrom : Region → List ℤ → Corner → Option Corner → Type 0
RisingFrom R numbers v found =
    MatchOption found (IsTrue (falls_from R numbers v)) (λ w. IsTrue (is_step R v w) × (height R numbers w ≡ height R numbers v +ℤ pos 1))

abbrev pub RisingTo : Region → List ℤ → Corner → Option Corner → Type 0
RisingTo R numbers v found =
    MatchOption found (IsTrue (falls_to R numbers v)) (λ u. IsTrue (is_step R u v) × (height R numbers v ≡ height R numbers u +ℤ pos 1))

module _ (R : Region) (numbers : List ℤ) (v : Corner) (lawful : AreLawful R numbers) (inner : is_inner R v ≡ true) (places : List (Option Corner)) (wanted : ℤ) where
  pub found-from : (found : Option Corner) → places ≡ padded 3 (steps_out R.kind v) → wanted ≡ height R numbers v +ℤ pos 1
      → found ≡ find (λ w. int_eq (height R numbers w) wanted) (present places) → RisingFrom R numbers v found
  found-from found same one e = go found (e ∙ ap (λ (ws : List Corner). find (λ w. int_eq (height R numbers w) wanted) ws) (ap (λ (os : List (Option Corner)). present os) same ∙ present-padded 3 (steps_out R.kind v)))
    where
      go : (found : Option Corner) → found ≡ find (λ w. int_eq (height R numbers w) wanted) (present (steps_out R.kind v)) → RisingFrom R numbers v found
      go None e = list_all-In (λ w. int_lt (height R numbers w) (height R numbers v)) (present (steps_out R.kind v)) (λ w i. falls w i (one_or_fall R numbers lawful v w (inner-step_out R v w inner i)))
        where
          falls : (w : Corner) → In w (present (steps_out R.kind v)) → (height R numbers w ≡ height R numbers v +ℤ pos 1) ⊎ (height R numbers w ≡ height R numbers v +ℤ negsuc (rise R.kind - 2))
              → int_lt (height R numbers w) (height R numbers v) ≡ true
          falls w i (inl rises) = absurd (find-none (λ w. int_eq (height R numbers w) wanted) (present (steps_out R.kind v)) (sym e) w i ((Decides-int_eq (height R numbers w) wanted).1 (rises ∙ sym one)))
          falls w i (inr fall) = true-lt (height R numbers w) (height R numbers v) (omega (arith, ints, fall))
      go (Some w) e =
          let (i, at) = find-In (λ w. int_eq (height R numbers w) wanted) (present (steps_out R.kind v)) w (sym e) in
          (inner-step_out R v w inner i, (Decides-int_eq (height R numbers w) wanted).0 at ∙ one)

  pub found-to : (found : Option Corner) → places ≡ padded 3 (steps_in R.kind v) → wanted ≡ height R numbers v -ℤ pos 1
      → found ≡ find (λ u. int_eq (height R numbers u) wanted) (present places) → RisingTo R numbers v found
  found-to found same one e = go found (e ∙ ap (λ (us : List Corner). find (λ u. int_eq (height R numbers u) wanted) us) (ap (λ (os : List (Option Corner)). present os) same ∙ present-padded 3 (steps_in R.kind v)))
    where
      go : (found : Option Corner) → found ≡ find (λ u. int_eq (height R numbers u) wanted) (present (steps_in R.kind v)) → RisingTo R numbers v found
      go None e = list_all-In (λ u. int_lt (height R numbers v) (height R numbers u)) (present (steps_in R.kind v)) (λ u i. falls u i (one_or_fall R numbers lawful u v (inner-step_in R v u inner i)))
        where
          falls : (u : Corner) → In u (present (steps_in R.kind v)) → (height R numbers v ≡ height R numbers u +ℤ pos 1) ⊎ (height R numbers v ≡ height R numbers u +ℤ negsuc (rise R.kind - 2))
              → int_lt (height R numbers v) (height R numbers u) ≡ true
          falls u i (inl rises) = absurd (find-none (λ u. int_eq (height R numbers u) wanted) (present (steps_in R.kind v)) (sym e) u i ((Decides-int_eq (height R numbers u) wanted).1 (omega (arith, ints, rises, one))))
          falls u i (inr fall) = true-lt (height R numbers v) (height R numbers u) (omega (arith, ints, fall))
      go (Some u) e =
          let (i, at) = find-In (λ u. int_eq (height R numbers u) wanted) (present (steps_in R.kind v)) u (sym e) in
          let same = (Decides-int_eq (height R numbers u) wanted).0 at in
          (inner-step_in R v u inner i, omega (arith, ints, same, one))

-- ---- whether one was found

module _ (R : Region) (numbers : List ℤ) (v : Corner) where
  step_out : (u w : Corner) → is_step R u w ≡ true → In w (present (steps_out R.kind u))
  step_out u w step = (In-filter_parts (is_edge R u) w (present (steps_out R.kind u)) (corner-In w (steps R u) step)).0

  no_fall : (y z : ℤ) → z ≡ y +ℤ pos 1 → int_lt z y ≡ false
  no_fall y z e = grind (arith, ints)

  pub from-told : (told : Bool) (found : Option Corner) → is_some found ≡ not told → RisingFrom R numbers v found → told ≡ falls_from R numbers v
  from-told true None e falls = sym falls
  from-told false None e falls = cc e
  from-told true (Some w) e rises = cc e
  from-told false (Some w) e (step, one) =
      go (falls_from R numbers v) refl
    where
      go : (t : Bool) → falls_from R numbers v ≡ t → false ≡ t
      go false f = refl
      go true f =
          cc (In-list_all (λ w. int_lt (height R numbers w) (height R numbers v)) (present (steps_out R.kind v)) w f (step_out v w step), no_fall (height R numbers v) (height R numbers w) one)

  pub to-told : (told : Bool) (found : Option Corner) → is_some found ≡ not told → RisingTo R numbers v found → told ≡ falls_to R numbers v
  to-told true None e falls = sym falls
  to-told false None e falls = cc e
  to-told true (Some u) e rises = cc e
  to-told false (Some u) e (step, one) =
      go (falls_to R numbers v) refl
    where
      go : (t : Bool) → falls_to R numbers v ≡ t → false ≡ t
      go false f = refl
      go true f =
          cc (In-list_all (λ u. int_lt (height R numbers v) (height R numbers u)) (present (steps_in R.kind v)) u f (move-step_in R.kind u v (step-move R.kind u v (step_out u v step))), no_fall (height R numbers u) (height R numbers v) one)
