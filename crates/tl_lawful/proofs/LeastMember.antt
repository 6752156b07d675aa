-- Of the elements of a list that pass a test, one of least measure.
use Rattle.std.proofs.Common.{◌≡◌, ◌⊎◌, inl, inr, Bool, true, false, List, [], ◌∷◌, refl, sym, ◌∙◌, ap, subst, arith, ℤ, ◌≤ℤ◌, ◌<ℤ◌, int_lt}
use Rattle.std.proofs.lemmas.Int.{ints}
use Rattle.tl_lists.proofs.Members.{In}
use Rattle.tl_closing.proofs.Stated.{lt-false, lt-true}

pub record IsLeast {A : Type 0} (p : A → Bool) (measure : A → ℤ) (xs : List A) (x : A) : Type 0 where
  pub among : In x xs
  pub passes : p x ≡ true
  pub least : (y : A) → In y xs → p y ≡ true → measure x ≤ℤ measure y

module _ {A : Type 0} (p : A → Bool) (measure : A → ℤ) where
  least-cons : (x : A) (xs : List A) (z : A) → In z (x ∷ xs) → p z ≡ true → (p x ≡ true → measure z ≤ℤ measure x)
      → ((y : A) → In y xs → p y ≡ true → measure z ≤ℤ measure y) → IsLeast p measure (x ∷ xs) z
  least-cons x xs z among passes here later = record { among = among; passes = passes; least = least }
    where
      least : (y : A) → In y (x ∷ xs) → p y ≡ true → measure z ≤ℤ measure y
      least y (inl same) e = subst (λ (w : A). measure z ≤ℤ measure w) (sym same) (here (ap p (sym same) ∙ e))
      least y (inr i) e = later y i e

  least-or-none : (xs : List A) → ((x : A) × IsLeast p measure xs x) ⊎ ((y : A) → In y xs → p y ≡ true → ⊥)
  least-or-none [] = inr (λ y i e. absurd i)
  least-or-none (x ∷ xs) = go (p x) refl (least-or-none xs)
    where
      among : (p x ≡ true → ⊥) → ((y : A) → In y xs → p y ≡ true → ⊥) → (y : A) → In y (x ∷ xs) → p y ≡ true → ⊥
      among fails none y (inl same) e = fails (ap p (sym same) ∙ e)
      among fails none y (inr i) e = none y i e

      go : (t : Bool) → p x ≡ t → ((z : A) × IsLeast p measure xs z) ⊎ ((y : A) → In y xs → p y ≡ true → ⊥)
          → ((z : A) × IsLeast p measure (x ∷ xs) z) ⊎ ((y : A) → In y (x ∷ xs) → p y ≡ true → ⊥)
      go false e (inl (z, found)) = inl (z, least-cons x xs z (inr found.among) found.passes (λ h. cc (h, e)) found.least)
      go false e (inr none) = inr (among (λ h. cc (h, e)) none)
      go true e (inr none) = inl (x, least-cons x xs x (inl refl) e (λ h. omega (arith, ints)) (λ y i h. absurd (none y i h)))
      go true e (inl (z, found)) = lesser (int_lt (measure z) (measure x)) refl
        where
          lesser : (t : Bool) → int_lt (measure z) (measure x) ≡ t → ((z : A) × IsLeast p measure (x ∷ xs) z) ⊎ ((y : A) → In y (x ∷ xs) → p y ≡ true → ⊥)
          lesser true l =
              let less : measure z <ℤ measure x = lt-true (measure z) (measure x) l in
              inl (z, least-cons x xs z (inr found.among) found.passes (λ h. omega (arith, ints, less)) found.least)
          lesser false l =
              let more : measure x ≤ℤ measure z = lt-false (measure z) (measure x) l in
              inl (x, least-cons x xs x (inl refl) e (λ h. omega (arith, ints)) (λ y i h. let later = found.least y i h in omega (arith, ints, more, later)))

  -- there is one if any passes
  pub least-of : (xs : List A) (y : A) → In y xs → p y ≡ true → (x : A) × IsLeast p measure xs x
  least-of xs y i e = go (least-or-none xs)
    where
      go : ((x : A) × IsLeast p measure xs x) ⊎ ((z : A) → In z xs → p z ≡ true → ⊥) → (x : A) × IsLeast p measure xs x
      go (inl found) = found
      go (inr none) = absurd (none y i e)
