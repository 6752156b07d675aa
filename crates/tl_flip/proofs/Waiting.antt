-- The corners that wait: one more, and the last of them.
use Rattle.std.proofs.Common.{◌≡◌, Bool, true, List, [], ◌∷◌, ◌++◌, get_or, refl}
use Rattle.std.specs.List.{list_all}
use Rattle.std.proofs.lemmas.Bool.{and_from, and_parts}

module _ {A : Type 0} where
  -- the one that came first, where so many wait for v, or v itself where none does
  pub first-more : (xs : List A) (v w : A) → get_or (xs ++ v ∷ []) 0 w ≡ get_or xs 0 v
  first-more [] v w = refl
  first-more (x ∷ xs) v w = refl

  pub all-more : (p : A → Bool) (xs : List A) (v : A) → list_all p xs ≡ true → p v ≡ true → list_all p (xs ++ v ∷ []) ≡ true
  all-more p [] v e f = and_from _ _ f refl
  all-more p (x ∷ xs) v e f = and_from _ _ (and_parts _ _ e).0 (all-more p xs v (and_parts _ _ e).1 f)

  pub all-last : (p : A → Bool) (xs : List A) (v : A) → list_all p (xs ++ v ∷ []) ≡ true → (list_all p xs ≡ true) × (p v ≡ true)
  all-last p [] v e = (refl, (and_parts _ _ e).0)
  all-last p (x ∷ xs) v e =
      let rest = all-last p xs v (and_parts _ _ e).1 in
      (and_from _ _ (and_parts _ _ e).0 rest.0, rest.1)
