-- The position of an element in a list, and a filter after a filter.
use Rattle.std.proofs.Common.{◌≡◌, Bool, true, false, cond, List, [], ◌∷◌, refl, ap, length, arith, suc, ◌+◌, ◌<◌, ◌⊎◌, inl, inr, not, Some, None, ℕ, ◌++◌, sym, ◌∙◌}
use Rattle.std.specs.Prelude.{filter, position, slice_get}
use Rattle.std.specs.List.{list_any, position_or_len}
use Rattle.std.proofs.lemmas.Bool.{or_parts, or_cases, lt-ltb, le-ltb, or_left, or_from, cases_Bool, or_right}
use Rattle.std.proofs.lemmas.List.Folds.{list_any-append}
use Rattle.std.proofs.Math.Numerals.{one-add}

pub filter-filter : {A : Type 0} (p q : A → Bool) → ((x : A) → p x ≡ true → q x ≡ true) → (xs : List A) → filter p (filter q xs) ≡ filter p xs
filter-filter p q f [] = refl
filter-filter p q f (x ∷ xs) = go (p x) (q x) refl refl (filter-filter p q f xs)
  where
    go : (s t : Bool) → p x ≡ s → q x ≡ t → filter p (filter q xs) ≡ filter p xs → filter p (cond t (x ∷ filter q xs) (filter q xs)) ≡ cond s (x ∷ filter p xs) (filter p xs)
    go true true e k ih = rw e (ap (λ (l : List _). x ∷ l) ih)
    go true false e k ih = cc (f x e, k)
    go false true e k ih = rw e ih
    go false false e k ih = ih

-- the first place of an element that passes, where none does and after one more element
pub position-none : {A : Type 0} (p : A → Bool) (xs : List A) → list_any p xs ≡ false → position_or_len p xs ≡ length xs
position-none p [] e = refl
position-none p (x ∷ xs) e =
    let q = or_parts (p x) (list_any p xs) e in
    let rest : position_or_len p xs ≡ length xs = position-none p xs q.1 in
    rw (q.0) (omega (arith, rest))

pub position-within : {A : Type 0} (p : A → Bool) (xs : List A) → list_any p xs ≡ true → position_or_len p xs < length xs
position-within p [] e = cc e
position-within p (x ∷ xs) e = go (p x) refl (or_cases (p x) (list_any p xs) e) (position-within p xs)
  where
    go : (t : Bool) → p x ≡ t → (p x ≡ true) ⊎ (list_any p xs ≡ true) → (list_any p xs ≡ true → position_or_len p xs < length xs) → cond (not t) (1 + position_or_len p xs) 0 < suc (length xs)
    go true k i ih = omega arith
    go false k (inl h) ih = cc (h, k)
    go false k (inr h) ih = omega (arith, ih h)

pub position-some : {A : Type 0} (p : A → Bool) (xs : List A) → list_any p xs ≡ true → position p xs ≡ Some (position_or_len p xs)
position-some p xs e = rw (lt-ltb _ _ (position-within p xs e)) refl

pub position-missing : {A : Type 0} (p : A → Bool) (xs : List A) → list_any p xs ≡ false → position p xs ≡ None
position-missing p xs e = rw (le-ltb (position_or_len p xs) (length xs) (omega (arith, position-none p xs e))) refl

pub position_or_len-append : {A : Type 0} (p : A → Bool) (xs ys : List A) → list_any p xs ≡ true → position_or_len p (xs ++ ys) ≡ position_or_len p xs
position_or_len-append p [] ys e = cc e
position_or_len-append p (x ∷ xs) ys e = go (p x) refl (or_cases (p x) (list_any p xs) e) (position_or_len-append p xs ys)
  where
    go : (t : Bool) → p x ≡ t → (p x ≡ true) ⊎ (list_any p xs ≡ true) → (list_any p xs ≡ true → position_or_len p (xs ++ ys) ≡ position_or_len p xs)
        → cond (not t) (1 + position_or_len p (xs ++ ys)) 0 ≡ cond (not t) (1 + position_or_len p xs) 0
    go true k i ih = refl
    go false k (inl h) ih = cc (h, k)
    go false k (inr h) ih = ap (λ (n : ℕ). 1 + n) (ih h)

pub position_or_len-after : {A : Type 0} (p : A → Bool) (xs ys : List A) → list_any p xs ≡ false → position_or_len p (xs ++ ys) ≡ length xs + position_or_len p ys
position_or_len-after p [] ys e = omega arith
position_or_len-after p (x ∷ xs) ys e =
    let q = or_parts (p x) (list_any p xs) e in
    let rest : position_or_len p (xs ++ ys) ≡ length xs + position_or_len p ys = position_or_len-after p xs ys q.1 in
    rw (q.0) (omega (arith, rest))

-- an element that fails changes no place, and the first that passes stands at the end
pub position-other : {A : Type 0} (p : A → Bool) (xs : List A) (y : A) → p y ≡ false → position p (xs ++ (y ∷ [])) ≡ position p xs
position-other p xs y e = go (cases_Bool (list_any p xs))
  where
    go : (list_any p xs ≡ true) ⊎ (list_any p xs ≡ false) → position p (xs ++ (y ∷ [])) ≡ position p xs
    go (inl h) =
        position-some p (xs ++ (y ∷ [])) (list_any-append p xs (y ∷ []) ∙ or_left _ _ h)
        ∙ ap (λ (n : ℕ). Some n) (position_or_len-append p xs (y ∷ []) h) ∙ sym (position-some p xs h)
    go (inr h) =
        position-missing p (xs ++ (y ∷ [])) (list_any-append p xs (y ∷ []) ∙ or_from _ _ h (or_from _ _ e refl)) ∙ sym (position-missing p xs h)

pub position-here : {A : Type 0} (p : A → Bool) (xs : List A) (y : A) → list_any p xs ≡ false → p y ≡ true → position p (xs ++ (y ∷ [])) ≡ Some (length xs)
position-here p xs y h e =
    let here : position_or_len p (y ∷ []) ≡ 0 = rw e refl in
    position-some p (xs ++ (y ∷ [])) (list_any-append p xs (y ∷ []) ∙ or_right _ _ (or_left _ _ e))
    ∙ ap (λ (n : ℕ). Some n) (position_or_len-after p xs (y ∷ []) h ∙ omega (arith, here))

pub position-at : {A : Type 0} (p : A → Bool) (xs : List A) → list_any p xs ≡ true → (a : A) × (slice_get xs (position_or_len p xs) ≡ Some a) × (p a ≡ true)
position-at p [] e = cc e
position-at {A} p (x ∷ xs) e = go (p x) refl (or_cases (p x) (list_any p xs) e) (position-at p xs)
  where
    go : (t : Bool) → p x ≡ t → (p x ≡ true) ⊎ (list_any p xs ≡ true) → (list_any p xs ≡ true → (a : A) × (slice_get xs (position_or_len p xs) ≡ Some a) × (p a ≡ true))
        → (a : A) × (slice_get (x ∷ xs) (cond (not t) (1 + position_or_len p xs) 0) ≡ Some a) × (p a ≡ true)
    go true k i ih = (x, refl, k)
    go false k (inl h) ih = cc (h, k)
    go false k (inr h) ih =
        let (a, at, pass) = ih h in
        (a, ap (λ (n : ℕ). slice_get (x ∷ xs) n) (one-add (position_or_len p xs)) ∙ at, pass)
