-- Options as the definitions see them.
use Rattle.std.proofs.Common.{◌≡◌, Bool, true, false, List, [], ◌∷◌, ℕ, length, ◌++◌, drop, Option, Some, None, map, refl, ap, arith, cond, not}
use Rattle.std.specs.Prelude.{◌+◌, ◌||◌, ◌==◌, option_map}
use Rattle.std.specs.List.{list_any, position_or_len}
use Rattle.std.specs.Borrow.{Bor}
use Rattle.std.proofs.lemmas.List.{map-append, drop-drop, append_assoc}
use Rattle.tl_text.specs.declared.settings.Given.{Given}
use Rattle.tl_text.specs.Words.{Setting, settings, and_then_settings, is_flag, is_whole}
use Rattle.tl_text.specs.Given.{seen, all_seen, texts}

pub list_any-map : {A B : Type 0} (p : B → Bool) (f : A → B) (xs : List A) → list_any p (map f xs) ≡ list_any (λ x. p (f x)) xs
list_any-map p f [] = refl
list_any-map p f (x ∷ xs) = ap (λ b. p (f x) || b) (list_any-map p f xs)

-- where the search for an element that passes comes to the end there is none
none_passes : {A : Type 0} (p : A → Bool) (xs : List A) → position_or_len p xs ≡ length xs → list_any p xs ≡ false
none_passes p [] e = refl
none_passes p (x ∷ xs) e = go (p x) (λ h. none_passes p xs h) e
  where
    go : (b : Bool) → (position_or_len p xs ≡ length xs → list_any p xs ≡ false) → cond (not b) (1 + position_or_len p xs) 0 ≡ length (x ∷ xs) → (b || list_any p xs) ≡ false
    go true ih h = absurd (omega (arith, h))
    go false ih h = ih (omega (arith, h))

pub not_whole : (word : List ℕ) → is_flag word ≡ false → position_or_len (λ b. b == 61) word ≡ length word → is_whole word ≡ false
not_whole word flag none = rw (flag, none_passes (λ b. b == 61) word none) refl

-- one more option is read
pub so_far-next : (all new : List Given) (given : Given) (words : List (Bor (List ℕ))) (start taken : ℕ) → new ≡ all ++ given ∷ []
    → settings (texts (drop start words)) ≡ and_then_settings (seen given) (settings (texts (drop taken (drop start words))))
    → option_map (λ ss. all_seen new ++ ss) (settings (texts (drop (start + taken) words))) ≡ option_map (λ ss. all_seen all ++ ss) (settings (texts (drop start words)))
so_far-next all new given words start taken one h =
    rw (one, map-append seen all (given ∷ []), h, drop-drop taken start words) (go (settings (texts (drop (start + taken) words))))
  where
    go : (o : Option (List Setting)) → option_map (λ ss. (all_seen all ++ seen given ∷ []) ++ ss) o ≡ option_map (λ ss. all_seen all ++ ss) (and_then_settings (seen given) o)
    go None = refl
    go (Some ss) = ap (λ (l : List Setting). Some l) (append_assoc (all_seen all) (seen given ∷ []) ss)
