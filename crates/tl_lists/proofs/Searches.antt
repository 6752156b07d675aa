-- What a search of a list finds.
use Rattle.std.proofs.Common.{◌≡◌, inl, inr, Bool, true, false, List, [], ◌∷◌, cond, Some, refl, sym, subst, ◌⊎◌, None, ap, ◌++◌, ◌∙◌, Option}
use Rattle.std.specs.Prelude.{find, filter, slice_get, flat_map}
use Rattle.tl_lists.proofs.Tests.{some_same, same_test}
use Rattle.tl_lists.proofs.Members.{In, any-In}
use Rattle.std.specs.List.{list_any, filter_map, cons_option}
use Rattle.std.proofs.lemmas.List.Elements.{filter-append}
use Rattle.tl_lists.specs.Lists.{linked}
use Rattle.tl_lists.proofs.Orders.{later, linked-tail}

pub find-In : {A : Type 0} (p : A → Bool) (xs : List A) (x : A) → find p xs ≡ Some x → In x xs × (p x ≡ true)
find-In p [] x e = cc e
find-In {A} p (y ∷ xs) x e = go (p y) refl e (λ f. find-In p xs x f)
  where
    go : (t : Bool) → p y ≡ t → cond t (Some y) (find p xs) ≡ Some x → (find p xs ≡ Some x → In x xs × (p x ≡ true)) → In x (y ∷ xs) × (p x ≡ true)
    go true h f ih = (inl (sym (some_same y x f)), subst (λ z. p z ≡ true) (some_same y x f) h)
    go false h f ih = let q = ih f in (inr q.0, q.1)

pub find-none : {A : Type 0} (p : A → Bool) (xs : List A) → find p xs ≡ None → (x : A) → In x xs → p x ≡ true → ⊥
find-none p [] e x i h = i
find-none {A} p (y ∷ xs) e x i h = go (p y) refl e i (λ f j. find-none p xs f x j h)
  where
    go : (t : Bool) → p y ≡ t → cond t (Some y) (find p xs) ≡ None → (x ≡ y) ⊎ In x xs → (find p xs ≡ None → In x xs → ⊥) → ⊥
    go true k f j ih = cc f
    go false k f (inl same) ih = cc (sym h, ap p same, k)
    go false k f (inr j) ih = ih f j

pub none-find : {A : Type 0} (p : A → Bool) (xs : List A) → ((x : A) → In x xs → p x ≡ true → ⊥) → find p xs ≡ None
none-find p [] f = refl
none-find {A} p (y ∷ xs) f = go (p y) refl (none-find p xs (λ x i. f x (inr i)))
  where
    go : (t : Bool) → p y ≡ t → find p xs ≡ None → cond t (Some y) (find p xs) ≡ None
    go true h e = absurd (f y (inl refl) h)
    go false h e = e

pub find-none_any : {A : Type 0} (p : A → Bool) (xs : List A) → find p xs ≡ None → list_any p xs ≡ false
find-none_any p xs e = same_test (list_any p xs) false (λ h. let (x, i, q) = any-In p xs h in absurd (find-none p xs e x i q)) (λ h. cc h)

pub find-only : {A : Type 0} (p : A → Bool) (xs : List A) (t : A) → In t xs → p t ≡ true → ((s : A) → In s xs → p s ≡ true → s ≡ t) → find p xs ≡ Some t
find-only p [] t i e only = absurd i
find-only {A} p (x ∷ xs) t i e only = go (p x) refl i (λ j. find-only p xs t j e (λ s k q. only s (inr k) q))
  where
    go : (b : Bool) → p x ≡ b → (t ≡ x) ⊎ In t xs → (In t xs → find p xs ≡ Some t) → cond b (Some x) (find p xs) ≡ Some t
    go true h j ih = ap (λ (z : A). Some z) (only x (inl refl) h)
    go false h (inl same) ih = cc (sym e, ap p same, h)
    go false h (inr j) ih = ih j

-- the first element that passes is the first of those that pass
pub find-filter : {A : Type 0} (p : A → Bool) (xs : List A) → find p xs ≡ slice_get (filter p xs) 0
find-filter p [] = refl
find-filter p (x ∷ xs) = go (p x) (find-filter p xs)
  where
    go : (b : Bool) → find p xs ≡ slice_get (filter p xs) 0 → cond b (Some x) (find p xs) ≡ slice_get (cond b (x ∷ filter p xs) (filter p xs)) 0
    go true e = refl
    go false e = e

pub filter-flat_map : {A B : Type 0} (p : B → Bool) (f : A → List B) (xs : List A) → filter p (flat_map f xs) ≡ flat_map (λ x. filter p (f x)) xs
filter-flat_map p f [] = refl
filter-flat_map p f (x ∷ xs) = filter-append p (f x) (flat_map f xs) ∙ ap (λ l. filter p (f x) ++ l) (filter-flat_map p f xs)

pub find-same : {A : Type 0} (p q : A → Bool) (xs : List A) → ((x : A) → In x xs → p x ≡ q x) → find p xs ≡ find q xs
find-same p q [] same = refl
find-same p q (x ∷ xs) same =
    ap (λ (b : Bool). cond b (Some x) (find p xs)) (same x (inl refl)) ∙ ap (λ (o : Option _). cond (q x) (Some x) o) (find-same p q xs (λ y i. same y (inr i)))

pub filter_map-same : {A B : Type 0} (f g : A → Option B) (xs : List A) → ((x : A) → In x xs → f x ≡ g x) → filter_map f xs ≡ filter_map g xs
filter_map-same f g [] same = refl
filter_map-same {A} {B} f g (x ∷ xs) same =
    ap (λ (o : Option B). cons_option o (filter_map f xs)) (same x (inl refl)) ∙ ap (λ (l : List B). cons_option (g x) l) (filter_map-same f g xs (λ y i. same y (inr i)))

-- the first of an ordered list that passes stands before the others that do
pub find-first : {A : Type 0} (lt : A → A → Bool) → ((x : A) → lt x x ≡ true → ⊥) → ((x y z : A) → lt x y ≡ true → lt y z ≡ true → lt x z ≡ true)
    → (p : A → Bool) (xs : List A) (x y : A) → linked lt xs ≡ true → find p xs ≡ Some x → In y xs → p y ≡ true → (y ≡ x) ⊎ (lt x y ≡ true)
find-first lt irreflexive transitive p [] x y l f i e = absurd i
find-first {A} lt irreflexive transitive p (z ∷ xs) x y l f i e = go (p z) refl f i (λ k j. find-first lt irreflexive transitive p xs x y (linked-tail lt irreflexive transitive z xs l) k j e)
  where
    go : (t : Bool) → p z ≡ t → cond t (Some z) (find p xs) ≡ Some x → (y ≡ z) ⊎ In y xs → (find p xs ≡ Some x → In y xs → (y ≡ x) ⊎ (lt x y ≡ true)) → (y ≡ x) ⊎ (lt x y ≡ true)
    go true h k (inl same) ih = inl (same ∙ some_same z x k)
    go true h k (inr j) ih = inr (subst (λ w. lt w y ≡ true) (some_same z x k) (later lt irreflexive transitive z xs y l j))
    go false h k (inl same) ih = cc (sym e, ap p same, h)
    go false h k (inr j) ih = ih k j
