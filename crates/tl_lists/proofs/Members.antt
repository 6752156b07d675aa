-- The members of lists.
use Rattle.std.proofs.Common.{◌≡◌, ◌⊎◌, List, [], ◌∷◌, ◌+◌, inl, inr, ◌++◌, map, ap, Bool, true, false, refl, sym, subst, ◌∙◌, ℕ, zero, suc, ◌<◌, ◌≤◌, arith, Some, cond, Option, None}
use Rattle.std.specs.Prelude.{filter, flat_map, ◌==◌, slice_get}
use Rattle.std.specs.List.{list_any, range_with_len, list_all, filter_map, cons_option}
use Rattle.std.proofs.lemmas.Bool.{or_cases, or_left, or_right, eqb-true, eqb-false, and_from, and_parts}
use Rattle.std.proofs.lemmas.List.{map-id}
use Rattle.std.proofs.lemmas.List.FromFn.{map-range_with_len_more}
use Rattle.tl_lists.specs.Lists.{upto}

-- x is an element
abbrev pub In : {A : Type 0} → A → List A → Type 0
In x [] = ⊥
In x (y ∷ ys) = (x ≡ y) ⊎ In x ys

abbrev pub AllIn : {A : Type 0} → List A → List A → Type 0
AllIn [] ys = Unit {0}
AllIn (x ∷ xs) ys = In x ys × AllIn xs ys

pub In-left : {A : Type 0} (x : A) (xs ys : List A) → In x xs → In x (xs ++ ys)
In-left x [] ys h = absurd h
In-left x (y ∷ xs) ys (inl e) = inl e
In-left x (y ∷ xs) ys (inr h) = inr (In-left x xs ys h)

pub In-right : {A : Type 0} (x : A) (xs ys : List A) → In x ys → In x (xs ++ ys)
In-right x [] ys h = h
In-right x (y ∷ xs) ys h = inr (In-right x xs ys h)

pub In-map : {A B : Type 0} (f : A → B) (x : A) (xs : List A) → In x xs → In (f x) (map f xs)
In-map f x [] h = absurd h
In-map f x (y ∷ xs) (inl e) = inl (ap f e)
In-map f x (y ∷ xs) (inr h) = inr (In-map f x xs h)

pub In-filter : {A : Type 0} (p : A → Bool) (x : A) (xs : List A) → p x ≡ true → In x xs → In x (filter p xs)
In-filter p x [] k h = absurd h
In-filter p x (y ∷ xs) k h = go (p y) refl h (λ i. In-filter p x xs k i)
  where
    go : (t : Bool) → p y ≡ t → (x ≡ y) ⊎ In x xs → (In x xs → In x (filter p xs)) → In x (filter p (y ∷ xs))
    go true e (inl same) ih = rw e (inl same)
    go true e (inr i) ih = rw e (inr (ih i))
    go false e (inl same) ih = cc (sym k, ap p same, e)
    go false e (inr i) ih = rw e (ih i)

pub In-flat_map : {A B : Type 0} (f : A → List B) (y : B) (x : A) (xs : List A) → In x xs → In y (f x) → In y (flat_map f xs)
In-flat_map f y x [] h k = absurd h
In-flat_map f y x (z ∷ xs) (inl e) k = In-left y (f z) (flat_map f xs) (subst (λ w. In y (f w)) e k)
In-flat_map f y x (z ∷ xs) (inr h) k = In-right y (f z) (flat_map f xs) (In-flat_map f y x xs h k)

pub In-append_cases : {A : Type 0} (x : A) (xs ys : List A) → In x (xs ++ ys) → In x xs ⊎ In x ys
In-append_cases x [] ys i = inr i
In-append_cases x (y ∷ xs) ys (inl e) = inl (inl e)
In-append_cases x (y ∷ xs) ys (inr i) = elim (In-append_cases x xs ys i) [ inl j ↦ inl (inr j) | inr j ↦ inr j ]

pub In-map_parts : {A B : Type 0} (f : A → B) (y : B) (xs : List A) → In y (map f xs) → (x : A) × In x xs × (y ≡ f x)
In-map_parts f y [] i = absurd i
In-map_parts f y (x ∷ xs) (inl e) = (x, inl refl, e)
In-map_parts {A} {B} f y (x ∷ xs) (inr i) = let (z, j, e) = In-map_parts f y xs i in (z, inr j, e)

pub In-flat_map_parts : {A B : Type 0} (f : A → List B) (y : B) (xs : List A) → In y (flat_map f xs) → (x : A) × In x xs × In y (f x)
In-flat_map_parts f y [] i = absurd i
In-flat_map_parts {A} {B} f y (x ∷ xs) i = go (In-append_cases y (f x) (flat_map f xs) i) (λ j. In-flat_map_parts f y xs j)
  where
    go : In y (f x) ⊎ In y (flat_map f xs) → (In y (flat_map f xs) → (z : A) × In z xs × In y (f z)) → (z : A) × In z (x ∷ xs) × In y (f z)
    go (inl j) ih = (x, inl refl, j)
    go (inr j) ih = let (z, k, m) = ih j in (z, inr k, m)

pub any-In : {A : Type 0} (p : A → Bool) (xs : List A) → list_any p xs ≡ true → (x : A) × In x xs × (p x ≡ true)
any-In p [] e = cc e
any-In {A} p (x ∷ xs) e = go (or_cases (p x) (list_any p xs) e) (λ h. any-In p xs h)
  where
    go : (p x ≡ true) ⊎ (list_any p xs ≡ true) → (list_any p xs ≡ true → (y : A) × In y xs × (p y ≡ true)) → (y : A) × In y (x ∷ xs) × (p y ≡ true)
    go (inl h) ih = (x, inl refl, h)
    go (inr h) ih = let (y, i, q) = ih h in (y, inr i, q)

pub In-any_of : {A : Type 0} (p : A → Bool) (x : A) (xs : List A) → In x xs → p x ≡ true → list_any p xs ≡ true
In-any_of p x [] i e = absurd i
In-any_of p x (y ∷ xs) (inl same) e = or_left (p y) _ (sym (ap p same) ∙ e)
In-any_of p x (y ∷ xs) (inr i) e = or_right (p y) _ (In-any_of p x xs i e)

pub In-range : (m s n : ℕ) → s ≤ m → m < s + n → In m (range_with_len s n)
In-range m s zero h k = absurd (omega (arith, h, k))
In-range m s (suc n) h k = go (s == m) refl (λ l. In-range m (s + 1) n l (omega (arith, k)))
  where
    go : (t : Bool) → (s == m) ≡ t → (s + 1 ≤ m → In m (range_with_len (s + 1) n)) → In m (range_with_len s (suc n))
    go true e ih = inl (sym (eqb-true s m e))
    go false e ih = inr (ih (omega (arith, h, eqb-false s m e)))

pub slice_get-In : {A : Type 0} (xs : List A) (n : ℕ) (x : A) → slice_get xs n ≡ Some x → In x xs
slice_get-In [] n x e = cc e
slice_get-In (y ∷ ys) zero x e = inl (cc e)
slice_get-In (y ∷ ys) (suc n) x e = inr (slice_get-In ys n x e)

-- what holds of each element of a list
abbrev pub Each : {A : Type 0} → (A → Type 0) → List A → Type 0
Each P [] = Unit {0}
Each P (x ∷ xs) = P x × Each P xs

pub Each-at : {A : Type 0} (P : A → Type 0) (x : A) (xs : List A) → Each P xs → In x xs → P x
Each-at P x [] h i = absurd i
Each-at P x (y ∷ xs) h (inl e) = subst P (sym e) h.0
Each-at P x (y ∷ xs) h (inr i) = Each-at P x xs h.1 i

pub list_all-In : {A : Type 0} (p : A → Bool) (xs : List A) → ((z : A) → In z xs → p z ≡ true) → list_all p xs ≡ true
list_all-In p [] f = refl
list_all-In p (x ∷ xs) f = and_from _ _ (f x (inl refl)) (list_all-In p xs (λ z i. f z (inr i)))

pub In-list_all : {A : Type 0} (p : A → Bool) (xs : List A) (z : A) → list_all p xs ≡ true → In z xs → p z ≡ true
In-list_all p [] z e i = absurd i
In-list_all p (x ∷ xs) z e (inl same) = ap p same ∙ (and_parts _ _ e).0
In-list_all p (x ∷ xs) z e (inr i) = In-list_all p xs z (and_parts _ _ e).1 i

pub In-filter_parts : {A : Type 0} (p : A → Bool) (x : A) (xs : List A) → In x (filter p xs) → In x xs × (p x ≡ true)
In-filter_parts p x [] i = absurd i
In-filter_parts p x (y ∷ ys) i = go (p y) refl i (λ j. In-filter_parts p x ys j)
  where
    go : (t : Bool) → p y ≡ t → In x (cond t (y ∷ filter p ys) (filter p ys)) → (In x (filter p ys) → In x ys × (p x ≡ true)) → In x (y ∷ ys) × (p x ≡ true)
    go true e (inl same) ih = (inl same, ap p same ∙ e)
    go true e (inr j) ih = let q = ih j in (inr q.0, q.1)
    go false e j ih = let q = ih j in (inr q.0, q.1)

pub In-filter_map : {A B : Type 0} (g : A → Option B) (a : A) (b : B) (xs : List A) → In a xs → g a ≡ Some b → In b (filter_map g xs)
In-filter_map g a b [] i e = absurd i
In-filter_map g a b (x ∷ xs) (inl same) e = rw (sym (ap g same) ∙ e) (inl refl)
In-filter_map {A} {B} g a b (x ∷ xs) (inr i) e = go (g x) (In-filter_map g a b xs i e)
  where
    go : (o : Option B) → In b (filter_map g xs) → In b (cons_option o (filter_map g xs))
    go None h = h
    go (Some y) h = inr h

pub In-filter_map_parts : {A B : Type 0} (g : A → Option B) (b : B) (xs : List A) → In b (filter_map g xs) → (a : A) × In a xs × (g a ≡ Some b)
In-filter_map_parts g b [] i = absurd i
In-filter_map_parts {A} {B} g b (x ∷ xs) i = go (g x) refl i (λ j. In-filter_map_parts g b xs j)
  where
    more : (a : A) × In a xs × (g a ≡ Some b) → (a : A) × In a (x ∷ xs) × (g a ≡ Some b)
    more (a, j, e) = (a, inr j, e)

    go : (o : Option B) → g x ≡ o → In b (cons_option o (filter_map g xs)) → (In b (filter_map g xs) → (a : A) × In a xs × (g a ≡ Some b)) → (a : A) × In a (x ∷ xs) × (g a ≡ Some b)
    go None e j ih = more (ih j)
    go (Some y) e (inl same) ih = (x, inl refl, e ∙ ap (λ (z : B). Some z) (sym same))
    go (Some y) e (inr j) ih = more (ih j)

pub Each-from : {A : Type 0} (P : A → Type 0) (xs : List A) → ((x : A) → In x xs → P x) → Each P xs
Each-from P [] f = tt
Each-from P (x ∷ xs) f = (f x (inl refl), Each-from P xs (λ y i. f y (inr i)))

pub In-range_from : (k s n : ℕ) → In k (range_with_len s n) → s ≤ k
In-range_from k s zero i = absurd i
In-range_from k s (suc n) (inl e) = omega (arith, e)
In-range_from k s (suc n) (inr i) = omega (arith, In-range_from k (s + 1) n i)

pub In-slice_get : {A B : Type 0} (f : A → B) (x : A) (xs : List A) → In x xs → (k : ℕ) × (slice_get (map f xs) k ≡ Some (f x))
In-slice_get f x [] i = absurd i
In-slice_get {A} {B} f x (y ∷ ys) (inl e) = (0, ap (λ (z : A). Some (f z)) (sym e))
In-slice_get f x (y ∷ ys) (inr i) = let (k, e) = In-slice_get f x ys i in (suc k, e)

pub upto_more : (n : ℕ) → upto (n + 1) ≡ upto n ++ (n ∷ [])
upto_more n = sym (map-id (upto (n + 1))) ∙ map-range_with_len_more (λ x. x) 0 n n (omega arith) ∙ ap (λ (l : List ℕ). l ++ (n ∷ [])) (map-id (upto n))
