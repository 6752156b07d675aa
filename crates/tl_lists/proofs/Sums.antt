-- Sums of integers: in another order, and round a closed walk.
use Rattle.std.proofs.Common.{◌≡◌, List, [], ◌∷◌, ◌++◌, arith, ℤ, ◌+ℤ◌, not, map, refl, ◌⊎◌, inl, inr, Bool, true, false, filter, cond, sym, ◌∙◌, ap, subst}
use Rattle.std.proofs.lemmas.Int.{ints}
use Rattle.tl_lists.specs.Lists.{int_sum, turned}
use Rattle.std.proofs.lemmas.Bool.{not-true, false_from_ne_true}
use Rattle.tl_lists.proofs.Members.{In, In-filter, In-filter_parts}
use Rattle.tl_lists.proofs.Distinct.{Distinct, Distinct-filter}

pub int_sum-append : (xs ys : List ℤ) → int_sum (xs ++ ys) ≡ int_sum xs +ℤ int_sum ys
int_sum-append [] ys = omega (arith, ints)
int_sum-append (x ∷ xs) ys = omega (arith, ints, int_sum-append xs ys)

-- a sum does not change where the first element goes to the end
pub sum-turned : {A : Type 0} (f : A → ℤ) (xs : List A) → int_sum (map f (turned xs)) ≡ int_sum (map f xs)
sum-turned f [] = refl
sum-turned f (x ∷ xs) = go xs
  where
    go : (ys : List _) → int_sum (map f (ys ++ (x ∷ []))) ≡ f x +ℤ int_sum (map f ys)
    go [] = refl
    go (y ∷ ys) = omega (arith, ints, go ys)

module _ {A : Type 0} (eq : A → A → Bool) (eq-same : (x y : A) → eq x y ≡ true → x ≡ y) (eq-refl : (x : A) → eq x x ≡ true) (f : A → ℤ) where
  abbrev others : A → List A → List A
  others x ys = filter (λ y. not (eq x y)) ys

  others-all : (x : A) (ys : List A) → (In x ys → ⊥) → others x ys ≡ ys
  others-all x [] absent = refl
  others-all x (y ∷ ys) absent = go (eq x y) refl (others-all x ys (λ i. absent (inr i)))
    where
      go : (t : Bool) → eq x y ≡ t → others x ys ≡ ys → cond (not t) (y ∷ others x ys) (others x ys) ≡ y ∷ ys
      go true e ih = absurd (absent (inl (eq-same x y e)))
      go false e ih = ap (λ (l : List A). y ∷ l) ih

  sum-others : (x : A) (ys : List A) → Distinct ys → In x ys → int_sum (map f ys) ≡ f x +ℤ int_sum (map f (others x ys))
  sum-others x [] d i = absurd i
  sum-others x (y ∷ ys) d i = go (eq x y) refl i (λ j. sum-others x ys d.1 j)
    where
      swap_in : (a b c s : ℤ) → s ≡ b +ℤ c → a +ℤ s ≡ b +ℤ (a +ℤ c)
      swap_in a b c s e = omega (arith, ints, e)

      go : (t : Bool) → eq x y ≡ t → (x ≡ y) ⊎ In x ys → (In x ys → int_sum (map f ys) ≡ f x +ℤ int_sum (map f (others x ys)))
          → f y +ℤ int_sum (map f ys) ≡ f x +ℤ int_sum (map f (cond (not t) (y ∷ others x ys) (others x ys)))
      go true e j ih =
          let same : x ≡ y = eq-same x y e in
          ap (λ (z : A). f z +ℤ int_sum (map f ys)) (sym same)
          ∙ ap (λ (l : List A). f x +ℤ int_sum (map f l)) (sym (others-all x ys (λ k. d.0 (subst (λ (z : A). In z ys) same k))))
      go false e (inl same) ih = cc (subst (λ (z : A). eq x z ≡ true) same (eq-refl x), e)
      go false e (inr j) ih = swap_in (f y) (f x) (int_sum (map f (others x ys))) (int_sum (map f ys)) (ih j)

  -- lists of the same elements, each once, have the same sum
  pub sum-members : (xs ys : List A) → Distinct xs → Distinct ys → ((z : A) → In z xs → In z ys) → ((z : A) → In z ys → In z xs)
      → int_sum (map f xs) ≡ int_sum (map f ys)
  sum-members [] [] d e to from = refl
  sum-members [] (y ∷ ys) d e to from = absurd (from y (inl refl))
  sum-members (x ∷ xs) ys d e to from =
      ap (λ (s : ℤ). f x +ℤ s) (sum-members xs (others x ys) d.1 (Distinct-filter (λ y. not (eq x y)) ys e) to_others from_others)
      ∙ sym (sum-others x ys e (to x (inl refl)))
    where
      to_others : (z : A) → In z xs → In z (others x ys)
      to_others z i =
          let apart : eq x z ≡ false = false_from_ne_true (eq x z) (λ h. d.0 (subst (λ (w : A). In w xs) (sym (eq-same x z h)) i)) in
          In-filter (λ y. not (eq x y)) z ys (ap not apart) (to z (inr i))

      from_others : (z : A) → In z (others x ys) → In z xs
      from_others z i = go (In-filter_parts (λ y. not (eq x y)) z ys i)
        where
          late : (eq x z ≡ false) → (z ≡ x) ⊎ In z xs → In z xs
          late h (inl same) = cc (subst (λ (w : A). eq x w ≡ true) (sym same) (eq-refl x), h)
          late h (inr j) = j

          go : In z ys × (not (eq x z) ≡ true) → In z xs
          go (j, h) = late (not-true (eq x z) h) (from z j)
