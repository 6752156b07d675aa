-- Lists that have each element once, and members taken out.
use Rattle.std.proofs.Common.{List, [], ◌∷◌, Bool, true, false, filter, cond, ◌≡◌, map, sym, subst, ◌+◌, ◌⊎◌, inl, inr, ◌++◌, refl, flat_map, ◌∙◌, ℕ, zero, suc, arith, not, ◌≤◌, length, ap}
use Rattle.tl_lists.proofs.Members.{In, In-filter_parts, In-map_parts, In-append_cases, In-flat_map_parts, In-range_from, In-filter, In-map, In-any_of}
use Rattle.std.specs.List.{range_with_len, list_any}
use Rattle.std.proofs.lemmas.Bool.{and_parts, not-true}
use Rattle.tl_lists.specs.Lists.{distinct}

abbrev pub Distinct : {A : Type 0} → List A → Type 0
Distinct [] = Unit {0}
Distinct (x ∷ xs) = (In x xs → ⊥) × Distinct xs

pub Distinct-filter : {A : Type 0} (p : A → Bool) (xs : List A) → Distinct xs → Distinct (filter p xs)
Distinct-filter p [] h = tt
Distinct-filter p (x ∷ xs) h = go (p x) (Distinct-filter p xs h.1)
  where
    go : (t : Bool) → Distinct (filter p xs) → Distinct (cond t (x ∷ filter p xs) (filter p xs))
    go true ih = (λ i. h.0 (In-filter_parts p x xs i).0, ih)
    go false ih = ih

pub Distinct-map : {A B : Type 0} (f : A → B) (xs : List A) → ((x y : A) → f x ≡ f y → x ≡ y) → Distinct xs → Distinct (map f xs)
Distinct-map f [] one h = tt
Distinct-map {A} {B} f (x ∷ xs) one h = (λ i. none (In-map_parts f (f x) xs i), Distinct-map f xs one h.1)
  where
    none : (y : A) × In y xs × (f x ≡ f y) → ⊥
    none (y, j, e) = h.0 (subst (λ z. In z xs) (sym (one x y e)) j)

pub Distinct-append : {A : Type 0} (xs ys : List A) → Distinct xs → Distinct ys → ((z : A) → In z xs → In z ys → ⊥) → Distinct (xs ++ ys)
Distinct-append [] ys d e f = e
Distinct-append (x ∷ xs) ys d e f = (λ i. none (In-append_cases x xs ys i), Distinct-append xs ys d.1 e (λ z i j. f z (inr i) j))
  where
    none : In x xs ⊎ In x ys → ⊥
    none (inl i) = d.0 i
    none (inr i) = f x (inl refl) i

-- lists joined end to end, each of which is told by its elements
pub Distinct-flat_map : {A B : Type 0} (f : A → List B) (of : B → A) (xs : List A) → ((x : A) (y : B) → In y (f x) → of y ≡ x)
    → ((x : A) → Distinct (f x)) → Distinct xs → Distinct (flat_map f xs)
Distinct-flat_map f of [] told each d = tt
Distinct-flat_map {A} {B} f of (x ∷ xs) told each d =
    Distinct-append (f x) (flat_map f xs) (each x) (Distinct-flat_map f of xs told each d.1) (λ z i j. none z i (In-flat_map_parts f z xs j))
  where
    none : (z : B) → In z (f x) → (y : A) × In y xs × In z (f y) → ⊥
    none z i (y, j, k) = d.0 (subst (λ w. In w xs) (sym (told y z k) ∙ told x z i) j)

pub Distinct-range : (s n : ℕ) → Distinct (range_with_len s n)
Distinct-range s zero = tt
Distinct-range s (suc n) = (λ i. omega (arith, In-range_from s (s + 1) n i), Distinct-range (s + 1) n)

abbrev pub without : {A : Type 0} → (A → A → Bool) → List A → List A → List A
without eq [] ys = ys
without eq (x ∷ xs) ys = filter (λ y. not (eq x y)) (without eq xs ys)

module _ {A : Type 0} (eq : A → A → Bool) (eq-same : (x y : A) → eq x y ≡ true → x ≡ y) (eq-refl : (x : A) → eq x x ≡ true) where
  pub In-without : (z : A) (xs ys : List A) → In z ys → In z (without eq xs ys) ⊎ In z xs
  In-without z [] ys i = inl i
  In-without z (x ∷ xs) ys i = go (eq x z) refl (In-without z xs ys i)
    where
      go : (t : Bool) → eq x z ≡ t → In z (without eq xs ys) ⊎ In z xs → In z (without eq (x ∷ xs) ys) ⊎ In z (x ∷ xs)
      go t e (inr j) = inr (inr j)
      go true e (inl j) = inr (inl (sym (eq-same x z e)))
      go false e (inl j) = inl (In-filter (λ y. not (eq x y)) z (without eq xs ys) (ap not e) j)

  pub length-filter_le : (p : A → Bool) (zs : List A) → length (filter p zs) ≤ length zs
  length-filter_le p [] = omega arith
  length-filter_le p (z ∷ zs) = go (p z) (length-filter_le p zs)
    where
      go : (t : Bool) → length (filter p zs) ≤ length zs → length (cond t (z ∷ filter p zs) (filter p zs)) ≤ suc (length zs)
      go true ih = omega arith
      go false ih = omega arith

  length-filter_lt : (p : A → Bool) (x : A) (zs : List A) → In x zs → p x ≡ false → length (filter p zs) + 1 ≤ length zs
  length-filter_lt p x [] i e = absurd i
  length-filter_lt p x (z ∷ zs) i e = go (p z) refl i (λ j. length-filter_lt p x zs j e)
    where
      go : (t : Bool) → p z ≡ t → (x ≡ z) ⊎ In x zs → (In x zs → length (filter p zs) + 1 ≤ length zs) → length (cond t (z ∷ filter p zs) (filter p zs)) + 1 ≤ suc (length zs)
      go true h (inl same) ih = cc (sym e, ap p same, h)
      go true h (inr j) ih = omega (arith, ih j)
      go false h j ih = omega (arith, length-filter_le p zs)

  -- each member that is taken out makes the list shorter
  pub length-without : (xs ys : List A) → Distinct xs → ((z : A) → In z xs → In z ys) → length (without eq xs ys) + length xs ≤ length ys
  length-without [] ys d inside = omega arith
  length-without (x ∷ xs) ys d inside =
      let shorter : length (without eq (x ∷ xs) ys) + 1 ≤ length (without eq xs ys) =
      length-filter_lt (λ y. not (eq x y)) x (without eq xs ys) (still (In-without x xs ys (inside x (inl refl)))) (ap not (eq-refl x)) in
      omega (arith, shorter, length-without xs ys d.1 (λ z i. inside z (inr i)))
    where
      still : In x (without eq xs ys) ⊎ In x xs → In x (without eq xs ys)
      still (inl i) = i
      still (inr i) = absurd (d.0 i)

pub Distinct-unmap : {A B : Type 0} (f : A → B) (xs : List A) → Distinct (map f xs) → Distinct xs
Distinct-unmap f [] d = tt
Distinct-unmap f (x ∷ xs) d = (λ i. d.0 (In-map f x xs i), Distinct-unmap f xs d.1)

pub Distinct-from : {A : Type 0} (eq : A → A → Bool) → ((x : A) → eq x x ≡ true) → (xs : List A) → distinct eq xs ≡ true → Distinct xs
Distinct-from eq eq-refl [] e = tt
Distinct-from eq eq-refl (x ∷ xs) e =
    let p : (not (list_any (eq x) xs) ≡ true) × (distinct eq xs ≡ true) = and_parts _ _ e in
    (λ i. cc (not-true _ p.0, In-any_of (eq x) x xs i (eq-refl x)), Distinct-from eq eq-refl xs p.1)

pub Distinct-map_in : {A B : Type 0} (f : A → B) (xs : List A) → ((x y : A) → In x xs → In y xs → f x ≡ f y → x ≡ y) → Distinct xs → Distinct (map f xs)
Distinct-map_in f [] same d = tt
Distinct-map_in {A} {B} f (x ∷ xs) same d = (λ i. none (In-map_parts f (f x) xs i), Distinct-map_in f xs (λ y z i j. same y z (inr i) (inr j)) d.1)
  where
    none : (y : A) × In y xs × (f x ≡ f y) → ⊥
    none (y, j, e) = d.0 (subst (λ z. In z xs) (sym (same x y (inl refl) (inr j) e)) j)
