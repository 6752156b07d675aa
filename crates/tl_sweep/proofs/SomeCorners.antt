-- Steps at some corners of a class: by tests that agree, and that they keep heights lawful.
use Rattle.std.proofs.Common.{◌≡◌, ℕ, ◌+◌, ◌<◌, ◌≤◌, ◌⊎◌, inl, inr, Bool, true, false, ◌&&◌, ◌||◌, List, [], ◌∷◌, Some, refl, sym, ◌∙◌, ap, subst, arith, map, length, ℤ}
use Rattle.std.specs.Prelude.{◌==◌, filter, slice_get, nat_lt, nat_le}
use Rattle.std.specs.List.{All, enumerate_from}
use Rattle.std.proofs.lemmas.Bool.{and_parts, and_from, and_left, and_right, eqb-true, false_from_ne_true, lt-ltb, le-ltb, le-leb, lt-leb, cases_lt, ltb-true, leb-true, or_cases, or_left, or_right}
use Rattle.std.proofs.lemmas.List.{map-id}
use Rattle.std.proofs.lemmas.List.Elements.{All-cons, All-nil}
use Rattle.tl_definitions.specs.declared.Corner.{Corner}
use Rattle.tl_definitions.specs.Lattice.{class_of, corner_eq}
use Rattle.tl_definitions.specs.Region.{Region, inner_corners, is_corner_of, is_inner}
use Rattle.tl_definitions.specs.Accepted.{Accepted, IsPlaced}
use Rattle.tl_definitions.specs.Heights.{height, AreLawful}
use Rattle.tl_definitions.proofs.Corners.{corner_eq-refl, corner_eq-same}
use Rattle.tl_definitions.proofs.InnerNumbers.{any-inner_corners, inner-at, inner-number}
use Rattle.tl_definitions.proofs.Walks.{corner-In}
use Rattle.tl_lists.proofs.Members.{In, In-any_of, In-filter, In-filter_parts, In-slice_get, any-In, list_all-In}
use Rattle.tl_lists.proofs.Positions.{position-some, position-within}
use Rattle.tl_lists.proofs.Tests.{some_same, same_test}
use Rattle.tl_steps.specs.Stepping.{AreChosenOf, AreSwept, is_among, is_of_class}
use Rattle.tl_steps.proofs.Stated.{at-enumerated, both-swept, chosen-lawful, enumerated-at}
use Rattle.tl_sweep.specs.Blocks.{is_before, is_between, number_of}

-- tests that agree at inner corners
pub swept-same : (R : Region) (numbers others : List ℤ) (bits : ℕ → Bool) (f g : Corner → Bool)
    → ((v : Corner) → is_inner R v ≡ true → f v ≡ g v) → AreSwept R numbers others bits f → AreSwept R numbers others bits g
swept-same R numbers others bits f g same swept = record {
  heights = swept.heights;
  stepped = λ i v e h. swept.stepped i v e (same v (inner-at R v i e) ∙ h);
  kept = λ w of_region out. swept.kept w of_region (false_from_ne_true (is_inner R w && f w) (λ e.
      let p = and_parts (is_inner R w) (f w) e in
      let yes : (is_inner R w && g w) ≡ true = and_from (is_inner R w) (g w) p.0 (sym (same w p.0) ∙ p.1) in
      cc (out, yes)));
}

-- no steps at all
pub swept-none : (R : Region) (numbers : List ℤ) (bits : ℕ → Bool) (f : Corner → Bool) → AreLawful R numbers → ((v : Corner) → f v ≡ false)
    → AreSwept R numbers numbers bits f
swept-none R numbers bits f lawful none = record {
  heights = lawful.heights;
  stepped = λ i v e h. absurd (cc (none v, h));
  kept = λ w of_region out. refl;
}

-- ---- they keep heights lawful

All-from : {A : Type 0} (P : A → Type 0) (xs : List A) → ((x : A) → In x xs → P x) → All P xs
All-from P [] each = All-nil P
All-from P (x ∷ xs) each = All-cons P x xs (each x (inl refl)) (All-from P xs (λ y i. each y (inr i)))

module _ (R : Region) (k : ℕ) (some : Corner → Bool) (of_class : (v : Corner) → some v ≡ true → is_of_class R k v ≡ true) where
  abbrev chosen : List (ℕ × Corner)
  chosen = filter (λ p. some p.1) (enumerate_from 0 (inner_corners R))

  numbered : (p : ℕ × Corner) → In p chosen → (slice_get (inner_corners R) p.0 ≡ Some p.1) × (some p.1 ≡ true)
  numbered p i = go (In-filter_parts (λ p. some p.1) p (enumerate_from 0 (inner_corners R)) i)
    where
      go : In p (enumerate_from 0 (inner_corners R)) × (some p.1 ≡ true) → (slice_get (inner_corners R) p.0 ≡ Some p.1) × (some p.1 ≡ true)
      go (j, of) =
          let (n, number, e) = enumerated-at 0 (inner_corners R) p j in
          (subst (λ (m : ℕ). slice_get (inner_corners R) m ≡ Some p.1) (sym (omega (arith, number))) e, of)

  are_chosen : AreChosenOf R k chosen
  are_chosen = record {
    numbered = All-from (λ p. slice_get (inner_corners R) p.0 ≡ Some p.1) chosen (λ p i. (numbered p i).0);
    of_class = list_all-In (λ p. is_of_class R k p.1) chosen (λ p i. of_class p.1 (numbered p i).1);
  }

  among-some : (v : Corner) → is_among chosen v ≡ true → some v ≡ true
  among-some v e = go (any-In (λ p. corner_eq v p.1) chosen e)
    where
      go : (p : ℕ × Corner) × In p chosen × (corner_eq v p.1 ≡ true) → some v ≡ true
      go (p, i, h) = ap some (corner_eq-same v p.1 h) ∙ (numbered p i).1

  some-among : (v : Corner) → In v (inner_corners R) → some v ≡ true → is_among chosen v ≡ true
  some-among v i of = go (In-slice_get (λ (u : Corner). u) v (inner_corners R) i)
    where
      with_number : (n : ℕ) × In (n, v) (enumerate_from 0 (inner_corners R)) → is_among chosen v ≡ true
      with_number (n, j) =
          In-any_of (λ p. corner_eq v p.1) (n, v) chosen (In-filter (λ p. some p.1) (n, v) (enumerate_from 0 (inner_corners R)) of j) (corner_eq-refl v)

      go : (j : ℕ) × (slice_get (map (λ (u : Corner). u) (inner_corners R)) j ≡ Some v) → is_among chosen v ≡ true
      go (j, e) = with_number (at-enumerated 0 (inner_corners R) j v (subst (λ (us : List Corner). slice_get us j ≡ Some v) (map-id (inner_corners R)) e))

  same : IsPlaced R → (v : Corner) → is_inner R v ≡ true → some v ≡ is_among chosen v
  same placed v inner =
      same_test (some v) (is_among chosen v) (some-among v (corner-In v (inner_corners R) (any-inner_corners R v placed ∙ inner))) (among-some v)

  pub some-lawful : (numbers others : List ℤ) (bits : ℕ → Bool) → Accepted R → AreLawful R numbers → AreSwept R numbers others bits some → AreLawful R others
  some-lawful numbers others bits accepted lawful swept =
      chosen-lawful R numbers others accepted lawful bits k chosen are_chosen
      (swept-same R numbers others bits some (is_among chosen) (same accepted.placed) swept)

-- ---- by their numbers

pub inner-number_of : (R : Region) (v : Corner) (i : ℕ) → IsPlaced R → slice_get (inner_corners R) i ≡ Some v → number_of R v ≡ i
inner-number_of R v i placed e =
    some_same (number_of R v) i
    (sym (position-some (corner_eq v) (inner_corners R) (any-inner_corners R v placed ∙ inner-at R v i e)) ∙ inner-number R v i e)

module _ (R : Region) (k : ℕ) where
  pub before-class : (n : ℕ) (v : Corner) → is_before R k n v ≡ true → is_of_class R k v ≡ true
  before-class n v e = (and_parts (is_of_class R k v) (nat_lt (number_of R v) n) e).0

  pub between-class : (n m : ℕ) (v : Corner) → is_between R k n m v ≡ true → is_of_class R k v ≡ true
  between-class n m v e = (and_parts (is_of_class R k v) (nat_le n (number_of R v) && nat_lt (number_of R v) m) e).0

  pub before-none : (v : Corner) → is_before R k 0 v ≡ false
  before-none v = and_right (is_of_class R k v) (nat_lt (number_of R v) 0) (le-ltb (number_of R v) 0 (omega arith))

  -- at the end these are all
  before-all : (n : ℕ) → IsPlaced R → n ≡ length (inner_corners R) → (v : Corner) → is_inner R v ≡ true → is_before R k n v ≡ is_of_class R k v
  before-all n placed e v inner =
      same_test (is_before R k n v) (is_of_class R k v) (before-class n v)
      (λ h. and_from (is_of_class R k v) (nat_lt (number_of R v) n) h
      (lt-ltb (number_of R v) n (omega (arith, e, position-within (corner_eq v) (inner_corners R) (any-inner_corners R v placed ∙ inner)))))

  -- a part more
  before-more : (n m : ℕ) → n ≤ m → (v : Corner) → (is_before R k n v || is_between R k n m v) ≡ is_before R k m v
  before-more n m h v = go (is_of_class R k v) refl (cases_lt (number_of R v) n) (cases_lt (number_of R v) m)
    where
      go : (t : Bool) → is_of_class R k v ≡ t → (number_of R v < n) ⊎ (n ≤ number_of R v) → (number_of R v < m) ⊎ (m ≤ number_of R v)
          → (is_before R k n v || is_between R k n m v) ≡ is_before R k m v
      go false e p q = rw e refl
      go true e (inl p) (inl q) = rw (e, lt-ltb (number_of R v) n p, lt-ltb (number_of R v) m q) refl
      go true e (inl p) (inr q) = absurd (omega (arith, p, q, h))
      go true e (inr p) (inl q) = rw (e, le-ltb (number_of R v) n p, le-leb n (number_of R v) p, lt-ltb (number_of R v) m q) refl
      go true e (inr p) (inr q) = rw (e, le-ltb (number_of R v) n p, le-leb n (number_of R v) p, le-ltb (number_of R v) m q) refl

  pub swept-more : (numbers middle others : List ℤ) (bits : ℕ → Bool) (n m : ℕ) → n ≤ m → AreSwept R numbers middle bits (is_before R k n)
      → AreSwept R middle others bits (is_between R k n m) → AreSwept R numbers others bits (is_before R k m)
  swept-more numbers middle others bits n m h before after =
      swept-same R numbers others bits (λ v. is_before R k n v || is_between R k n m v) (is_before R k m) (λ v inner. before-more n m h v)
      (both-swept R numbers middle others bits k (is_before R k n) (is_between R k n m) (before-class n) (between-class n m) before after)

  pub swept-all : (numbers others : List ℤ) (bits : ℕ → Bool) (n : ℕ) → IsPlaced R → n ≡ length (inner_corners R) → AreSwept R numbers others bits (is_before R k n)
      → AreSwept R numbers others bits (is_of_class R k)
  swept-all numbers others bits n placed e swept = swept-same R numbers others bits (is_before R k n) (is_of_class R k) (before-all n placed e) swept
