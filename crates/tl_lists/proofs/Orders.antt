-- Ordered lists, their sublists, and when two of them are the same.
use Rattle.std.proofs.Common.{List, [], ◌∷◌, ◌++◌, map, ◌≡◌, inl, inr, Bool, true, refl, sym, subst, ℕ, suc, ◌⊎◌, false, ◌∙◌, ap, cond}
use Rattle.std.proofs.lemmas.Bool.{and_parts, and_from}
use Rattle.tl_lists.specs.Lists.{linked}
use Rattle.tl_lists.proofs.Members.{AllIn, In-map, In, In-right, In-left, In-filter_parts}
use Rattle.std.specs.Prelude.{filter, count_by}
use Rattle.tl_lists.proofs.Counts.{count_by-passes, count_by-fails}

-- the lists of some of these elements, in their order
abbrev pub sublists : {A : Type 0} → List A → List (List A)
sublists [] = [] ∷ []
sublists (x ∷ xs) = let rest = sublists xs in map (λ ys. x ∷ ys) rest ++ rest

-- an ordered list of elements of an ordered list is one of its sublists
module _ {A : Type 0} (lt : A → A → Bool) (irreflexive : (x : A) → lt x x ≡ true → ⊥) (transitive : (x y z : A) → lt x y ≡ true → lt y z ≡ true → lt x z ≡ true) where
  pub later : (x : A) (xs : List A) (z : A) → linked lt (x ∷ xs) ≡ true → In z xs → lt x z ≡ true
  later x [] z l h = absurd h
  later x (y ∷ ys) z l (inl e) = subst (λ w. lt x w ≡ true) (sym e) (and_parts _ _ l).0
  later x (y ∷ ys) z l (inr h) = transitive x y z (and_parts _ _ l).0 (later y ys z (and_parts _ _ l).1 h)

  pub linked-tail : (x : A) (xs : List A) → linked lt (x ∷ xs) ≡ true → linked lt xs ≡ true
  linked-tail x [] l = refl
  linked-tail x (y ∷ ys) l = (and_parts _ _ l).1

  -- elements above y that are in y ∷ ys are in ys
  AllIn-above : (y : A) (ys xs : List A) → ((z : A) → In z xs → lt y z ≡ true) → AllIn xs (y ∷ ys) → AllIn xs ys
  AllIn-above y ys [] f h = tt
  AllIn-above y ys (x ∷ xs) f (inl e, h) = absurd (irreflexive y (subst (λ w. lt y w ≡ true) e (f x (inl refl))))
  AllIn-above y ys (x ∷ xs) f (inr i, h) = (i, AllIn-above y ys xs (λ z k. f z (inr k)) h)

  pub In-sublists : (ys xs : List A) → linked lt ys ≡ true → linked lt xs ≡ true → AllIn xs ys → In xs (sublists ys)
  In-sublists [] [] l m h = inl refl
  In-sublists [] (x ∷ xs) l m h = absurd h.0
  In-sublists (y ∷ ys) [] l m h = In-right [] (map (λ zs. y ∷ zs) (sublists ys)) (sublists ys) (In-sublists ys [] (linked-tail y ys l) refl tt)
  In-sublists (y ∷ ys) (x ∷ xs) l m (inl e, h) =
      In-left (x ∷ xs) (map (λ zs. y ∷ zs) (sublists ys)) (sublists ys)
      (subst (λ w. In (w ∷ xs) (map (λ zs. y ∷ zs) (sublists ys))) (sym e)
      (In-map (λ zs. y ∷ zs) xs (sublists ys)
      (In-sublists ys xs (linked-tail y ys l) (linked-tail x xs m)
      (AllIn-above y ys xs (λ z k. subst (λ w. lt w z ≡ true) e (later x xs z m k)) h))))
  In-sublists (y ∷ ys) (x ∷ xs) l m (inr i, h) =
      In-right (x ∷ xs) (map (λ zs. y ∷ zs) (sublists ys)) (sublists ys)
      (In-sublists ys (x ∷ xs) (linked-tail y ys l) m
      (i, AllIn-above y ys xs (λ z k. transitive y x z (later y ys x l i) (later x xs z m k)) h))

module _ {A : Type 0} (lt : A → A → Bool) (irreflexive : (x : A) → lt x x ≡ true → ⊥) (transitive : (x y z : A) → lt x y ≡ true → lt y z ≡ true → lt x z ≡ true) where
  pub linked-cons : (x : A) (xs : List A) → ((z : A) → In z xs → lt x z ≡ true) → linked lt xs ≡ true → linked lt (x ∷ xs) ≡ true
  linked-cons x [] f l = refl
  linked-cons x (y ∷ ys) f l = and_from _ _ (f y (inl refl)) l

  pub linked-append : (xs ys : List A) → linked lt xs ≡ true → linked lt ys ≡ true → ((x y : A) → In x xs → In y ys → lt x y ≡ true) → linked lt (xs ++ ys) ≡ true
  linked-append [] ys l m f = m
  linked-append (x ∷ []) ys l m f = linked-cons x ys (λ z i. f x z (inl refl) i) m
  linked-append (x ∷ y ∷ xs) ys l m f = and_from _ _ (and_parts _ _ l).0 (linked-append (y ∷ xs) ys (and_parts _ _ l).1 m (λ a b i j. f a b (inr i) j))

  pub linked-filter : (p : A → Bool) (xs : List A) → linked lt xs ≡ true → linked lt (filter p xs) ≡ true
  linked-filter p [] l = refl
  linked-filter p (x ∷ xs) l = go (p x) (linked-filter p xs (linked-tail lt irreflexive transitive x xs l))
    where
      go : (t : Bool) → linked lt (filter p xs) ≡ true → linked lt (cond t (x ∷ filter p xs) (filter p xs)) ≡ true
      go true m = linked-cons x (filter p xs) (λ z i. later lt irreflexive transitive x xs z l (In-filter_parts p z xs i).0) m
      go false m = m

  -- the first element of an ordered list isn't among the others
  not_later : (x : A) (xs : List A) → linked lt (x ∷ xs) ≡ true → In x xs → ⊥
  not_later x xs l i = irreflexive x (later lt irreflexive transitive x xs x l i)

  -- two ordered lists with the same members are the same
  pub linked-same : (xs ys : List A) → linked lt xs ≡ true → linked lt ys ≡ true → ((z : A) → In z xs → In z ys) → ((z : A) → In z ys → In z xs) → xs ≡ ys
  linked-same [] [] l m f g = refl
  linked-same [] (y ∷ ys) l m f g = absurd (g y (inl refl))
  linked-same (x ∷ xs) [] l m f g = absurd (f x (inl refl))
  linked-same (x ∷ xs) (y ∷ ys) l m f g = go (f x (inl refl)) (g y (inl refl)) (λ l' m' f' g'. linked-same xs ys l' m' f' g')
    where
      drop_first : (a : A) (us vs : List A) → linked lt (a ∷ us) ≡ true → ((z : A) → In z (a ∷ us) → In z (a ∷ vs)) → (z : A) → In z us → In z vs
      drop_first a us vs k h z i = go (h z (inr i))
        where
          go : (z ≡ a) ⊎ In z vs → In z vs
          go (inl e) = absurd (not_later a us k (subst (λ w. In w us) e i))
          go (inr j) = j

      same : (linked lt xs ≡ true → linked lt ys ≡ true → ((z : A) → In z xs → In z ys) → ((z : A) → In z ys → In z xs) → xs ≡ ys) → x ≡ y → x ∷ xs ≡ y ∷ ys
      same ih e =
          let l' : linked lt (y ∷ xs) ≡ true = subst (λ w. linked lt (w ∷ xs) ≡ true) e l in
          let f' : (z : A) → In z (y ∷ xs) → In z (y ∷ ys) = subst (λ w. (z : A) → In z (w ∷ xs) → In z (y ∷ ys)) e f in
          let g' : (z : A) → In z (y ∷ ys) → In z (y ∷ xs) = subst (λ w. (z : A) → In z (y ∷ ys) → In z (w ∷ xs)) e g in
          ap (λ w. w ∷ xs) e ∙ ap (λ l. y ∷ l)
          (ih (linked-tail lt irreflexive transitive x xs l) (linked-tail lt irreflexive transitive y ys m) (drop_first y xs ys l' f') (drop_first y ys xs m g'))

      go : (x ≡ y) ⊎ In x ys → (y ≡ x) ⊎ In y xs
          → (linked lt xs ≡ true → linked lt ys ≡ true → ((z : A) → In z xs → In z ys) → ((z : A) → In z ys → In z xs) → xs ≡ ys) → x ∷ xs ≡ y ∷ ys
      go (inl e) k ih = same ih e
      go (inr i) (inl e) ih = same ih (sym e)
      go (inr i) (inr j) ih = absurd (irreflexive x (transitive x y x (later lt irreflexive transitive x xs y l j) (later lt irreflexive transitive y ys x m i)))

  count_none : (p : A → Bool) (xs : List A) → ((z : A) → In z xs → p z ≡ true → ⊥) → count_by p xs ≡ 0
  count_none p [] f = refl
  count_none p (x ∷ xs) f = go (p x) refl (count_none p xs (λ z i. f z (inr i)))
    where
      go : (t : Bool) → p x ≡ t → count_by p xs ≡ 0 → count_by p (x ∷ xs) ≡ 0
      go true e n = absurd (f x (inl refl) e)
      go false e n = count_by-fails p x xs e ∙ n

  -- the only element that passes is counted once, and found
  pub count_by-only : (p : A → Bool) (xs : List A) (t : A) → linked lt xs ≡ true → In t xs → p t ≡ true → ((s : A) → In s xs → p s ≡ true → s ≡ t) → count_by p xs ≡ 1
  count_by-only p [] t l i e only = absurd i
  count_by-only p (x ∷ xs) t l i e only =
      go (p x) refl i (λ j. count_by-only p xs t (linked-tail lt irreflexive transitive x xs l) j e (λ s k q. only s (inr k) q))
    where
      go : (b : Bool) → p x ≡ b → (t ≡ x) ⊎ In t xs → (In t xs → count_by p xs ≡ 1) → count_by p (x ∷ xs) ≡ 1
      go true h j ih =
          let none : count_by p xs ≡ 0 = count_none p xs (λ z k q. not_later x xs l (subst (λ w. In w xs) (only z (inr k) q ∙ sym (only x (inl refl) h)) k)) in
          count_by-passes p x xs h ∙ ap (λ (n : ℕ). suc n) none
      go false h (inl same) ih = cc (sym e, ap p same, h)
      go false h (inr j) ih = count_by-fails p x xs h ∙ ih j
