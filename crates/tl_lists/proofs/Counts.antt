-- How many elements of a list pass a test.
use Rattle.std.proofs.Common.{◌≡◌, suc, ◌+◌, Bool, true, List, ◌∷◌, ◌∙◌, ap, arith, cond, false, ◌⊎◌, inl, inr, [], refl, sym, ℕ, ◌≤◌, subst, length}
use Rattle.std.specs.Prelude.{count_by}
use Rattle.std.proofs.lemmas.List.Sums.{sum_by-cons}
use Rattle.tl_lists.proofs.Members.{In}
use Rattle.std.proofs.lemmas.Bool.{cases_Bool}
use Rattle.tl_lists.proofs.Distinct.{Distinct}

-- an element that passes is one more, and another one is none
pub count_by-passes : {A : Type 0} (p : A → Bool) (x : A) (xs : List A) → p x ≡ true → count_by p (x ∷ xs) ≡ suc (count_by p xs)
count_by-passes p x xs e = sum_by-cons (λ y. cond (p y) 1 0) x xs ∙ (ap (λ (b : Bool). cond b 1 0 + count_by p xs) e ∙ omega arith)

pub count_by-fails : {A : Type 0} (p : A → Bool) (x : A) (xs : List A) → p x ≡ false → count_by p (x ∷ xs) ≡ count_by p xs
count_by-fails p x xs e = sum_by-cons (λ y. cond (p y) 1 0) x xs ∙ (ap (λ (b : Bool). cond b 1 0 + count_by p xs) e ∙ omega arith)

-- an element that is counted once is the only one
pub record Only {A : Type 0} (p : A → Bool) (xs : List A) (t : A) : Type 0 where
  pub inside : In t xs
  pub passes : p t ≡ true
  pub only : (s : A) → In s xs → p s ≡ true → s ≡ t

pub count_zero : {A : Type 0} (p : A → Bool) (xs : List A) (z : A) → count_by p xs ≡ 0 → In z xs → p z ≡ true → ⊥
count_zero p [] z e i h = i
count_zero {A} p (x ∷ xs) z e i h = go (p x) refl i (λ f j. count_zero p xs z f j h)
  where
    go : (b : Bool) → p x ≡ b → (z ≡ x) ⊎ In z xs → (count_by p xs ≡ 0 → In z xs → ⊥) → ⊥
    go true k j ih = let n : count_by p (x ∷ xs) ≡ suc (count_by p xs) = count_by-passes p x xs k in omega (arith, e, n)
    go false k (inl same) ih = cc (sym h, ap p same, k)
    go false k (inr j) ih = let n : count_by p (x ∷ xs) ≡ count_by p xs = count_by-fails p x xs k in ih (sym n ∙ e) j

pub only-count_by : {A : Type 0} (p : A → Bool) (xs : List A) → count_by p xs ≡ 1 → (t : A) × Only p xs t
only-count_by p [] e = cc e
only-count_by {A} p (x ∷ xs) e = go (p x) refl (λ f. only-count_by p xs f)
  where
    go : (b : Bool) → p x ≡ b → (count_by p xs ≡ 1 → (t : A) × Only p xs t) → (t : A) × Only p (x ∷ xs) t
    go true h ih =
        let n : count_by p (x ∷ xs) ≡ suc (count_by p xs) = count_by-passes p x xs h in
        let none : count_by p xs ≡ 0 = omega (arith, e, n) in
        (x, record { inside = inl refl; passes = h; only = λ s i q. elim i [ inl same ↦ same | inr j ↦ absurd (count_zero p xs s none j q) ] })
    go false h ih =
        let n : count_by p (x ∷ xs) ≡ count_by p xs = count_by-fails p x xs h in
        let (t, o) = ih (sym n ∙ e) in
        (t, record { inside = inr o.inside; passes = o.passes; only = λ s i q. elim i [ inl same ↦ cc (sym q, ap p same, h) | inr j ↦ o.only s j q ] })

abbrev pub count : {A : Type 0} → (A → Bool) → List A → ℕ
count p [] = 0
count p (x ∷ xs) = cond (p x) (suc (count p xs)) (count p xs)

pub count_le : {A : Type 0} (p q : A → Bool) (xs : List A) → ((x : A) → In x xs → p x ≡ true → q x ≡ true) → count p xs ≤ count q xs
count_le p q [] f = omega arith
count_le p q (x ∷ xs) f = go (p x) (q x) refl refl (count_le p q xs (λ y i. f y (inr i)))
  where
    go : (s t : Bool) → p x ≡ s → q x ≡ t → count p xs ≤ count q xs → cond s (suc (count p xs)) (count p xs) ≤ cond t (suc (count q xs)) (count q xs)
    go true true e g ih = omega arith
    go true false e g ih = cc (f x (inl refl) e, g)
    go false true e g ih = omega arith
    go false false e g ih = ih

-- tests that differ at one element give counts that differ by no more than 1
pub count_but_one : {A : Type 0} (p q : A → Bool) (z : A) (xs : List A) → Distinct xs
    → ((x : A) → In x xs → p x ≡ true → q x ≡ false → x ≡ z) → count p xs ≤ count q xs + 1
count_but_one p q z [] d f = omega arith
count_but_one {A} p q z (x ∷ xs) d f = go (p x) (q x) refl refl (count_but_one p q z xs d.1 (λ y i. f y (inr i)))
  where
    rest : p x ≡ true → q x ≡ false → count p xs ≤ count q xs
    rest e g = count_le p q xs (λ y i h. same y i h (cases_Bool (q y)))
      where
        same : (y : A) → In y xs → p y ≡ true → (q y ≡ true) ⊎ (q y ≡ false) → q y ≡ true
        same y i h (inl k) = k
        same y i h (inr k) = absurd (d.0 (subst (λ w. In w xs) (f y (inr i) h k ∙ sym (f x (inl refl) e g)) i))

    go : (s t : Bool) → p x ≡ s → q x ≡ t → count p xs ≤ count q xs + 1 → cond s (suc (count p xs)) (count p xs) ≤ cond t (suc (count q xs)) (count q xs) + 1
    go true true e g ih = omega arith
    go true false e g ih = omega (arith, rest e g)
    go false true e g ih = omega arith
    go false false e g ih = ih

pub count_all : {A : Type 0} (p : A → Bool) (xs : List A) → ((x : A) → p x ≡ true) → count p xs ≡ length xs
count_all p [] f = refl
count_all p (x ∷ xs) f = rw (f x) (ap (λ (n : ℕ). suc n) (count_all p xs f))

pub count_some : {A : Type 0} (p : A → Bool) (x : A) (xs : List A) → In x xs → p x ≡ true → 1 ≤ count p xs
count_some p x [] i e = absurd i
count_some p x (y ∷ ys) i e = go (p y) refl i (λ j. count_some p x ys j e)
  where
    go : (t : Bool) → p y ≡ t → (x ≡ y) ⊎ In x ys → (In x ys → 1 ≤ count p ys) → 1 ≤ cond t (suc (count p ys)) (count p ys)
    go true h j ih = omega arith
    go false h (inl same) ih = cc (sym e, ap p same, h)
    go false h (inr j) ih = ih j

pub count_none : {A : Type 0} (p : A → Bool) (xs : List A) → ((x : A) → In x xs → p x ≡ true → ⊥) → count p xs ≡ 0
count_none p [] f = refl
count_none p (x ∷ xs) f = go (p x) refl (count_none p xs (λ y i. f y (inr i)))
  where
    go : (t : Bool) → p x ≡ t → count p xs ≡ 0 → cond t (suc (count p xs)) (count p xs) ≡ 0
    go true e ih = absurd (f x (inl refl) e)
    go false e ih = ih

-- where all that pass are the same, no more than one does
pub count_one : {A : Type 0} (p : A → Bool) (xs : List A) → Distinct xs
    → ((x y : A) → In x xs → In y xs → p x ≡ true → p y ≡ true → x ≡ y) → count p xs ≤ 1
count_one p [] d f = omega arith
count_one {A} p (x ∷ xs) d f = go (p x) refl (count_one p xs d.1 (λ y z i j. f y z (inr i) (inr j)))
  where
    none : p x ≡ true → count p xs ≡ 0
    none e = count_none p xs (λ y i h. d.0 (subst (λ z. In z xs) (f y x (inr i) (inl refl) h e) i))

    go : (t : Bool) → p x ≡ t → count p xs ≤ 1 → cond t (suc (count p xs)) (count p xs) ≤ 1
    go true e ih = omega (arith, none e)
    go false e ih = ih
