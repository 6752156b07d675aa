-- What is so of the parts of each element.
use Rattle.std.proofs.Common.{◌≡◌, ℕ, ◌<◌, List, [], ◌∷◌, length, map, refl, sym, ap, ◌∙◌, subst}
use Rattle.std.specs.Prelude.{All, zip}
use Rattle.std.proofs.lemmas.List.{length-map, get_or-map}
use Rattle.std.proofs.lemmas.Slice.Zip.{firsts-zip, seconds-zip}

-- what is so of each part is so of the parts of each
pub All-of_map : {A B : Type 0} (xs : List A) (ys : List B) (f : A → B) (Q : B → Type 0) → map f xs ≡ ys → All Q ys → All (λ x. Q (f x)) xs
All-of_map xs ys f Q e all = λ k d near.
    subst Q (get_or-map f xs k d (f d) near) (subst (All Q) (sym e) all k (f d) (subst (λ (n : ℕ). k < n) (sym (length-map xs f)) near))

map-map : {A B C : Type 0} (g : B → C) (f : A → B) (xs : List A) → map g (map f xs) ≡ map (λ x. g (f x)) xs
map-map g f [] = refl
map-map g f (x ∷ xs) = ap (λ ys. g (f x) ∷ ys) (map-map g f xs)

-- the two parts of elements that were made of the pairs of two lists
module _ {S A B : Type 0} (first : S → A) (second : S → B) (ss : List S) (ps : List (A × B)) (xs : List A) (ys : List B) where
  pub firsts : map (λ s. (first s, second s)) ss ≡ ps → map (λ (p : A × B). (p.0, p.1)) ps ≡ zip xs ys → length ys ≡ length xs → map first ss ≡ xs
  firsts made paired long = let left : A × B → A = λ p. p.0 in
      sym (map-map left (λ s. (first s, second s)) ss) ∙ (ap (map left) made ∙ (sym (map-map left (λ p. (p.0, p.1)) ps) ∙ (ap (map left) paired ∙ firsts-zip xs ys long)))

  pub seconds : map (λ s. (first s, second s)) ss ≡ ps → map (λ (p : A × B). (p.0, p.1)) ps ≡ zip xs ys → length ys ≡ length xs → map second ss ≡ ys
  seconds made paired long = let right : A × B → B = λ p. p.1 in
      sym (map-map right (λ s. (first s, second s)) ss) ∙ (ap (map right) made ∙ (sym (map-map right (λ p. (p.0, p.1)) ps) ∙ (ap (map right) paired ∙ seconds-zip xs ys long)))
