-- Putting elements in the place of those of a list.
use Rattle.std.proofs.Common.{◌≡◌, ℕ, ◌+◌, ◌<◌, List, [], ◌∷◌, ◌++◌, length, take, drop, sym, ◌∙◌, ap, refl, arith}
use Rattle.std.proofs.Math.ListN.{set}
use Rattle.std.proofs.lemmas.List.{take-append-drop, take_more_set, drop-set-lt}
use Rattle.tl_lists.specs.Lists.{put_at}

-- one element put is that element set
pub put_at-one : {A : Type 0} (place : ℕ) (x : A) (list : List A) → place < length list → put_at place (x ∷ []) list ≡ set list place x
put_at-one place x list h =
    ap (λ (rest : List _). (take place list ++ x ∷ []) ++ rest) (sym (drop-set-lt (place + 1) list place x (omega arith)))
    ∙ (ap (λ (first : List _). first ++ drop (place + 1) (set list place x)) (sym (take_more_set list place x h)) ∙ take-append-drop (place + 1) (set list place x))

-- two elements in the middle, and none
two_in_the_middle : put_at {A = ℕ} 1 (7 ∷ 8 ∷ []) (0 ∷ 1 ∷ 2 ∷ 3 ∷ []) ≡ 0 ∷ 7 ∷ 8 ∷ 3 ∷ []
two_in_the_middle = refl

none_put : put_at {A = ℕ} 1 [] (0 ∷ 1 ∷ []) ≡ 0 ∷ 1 ∷ []
none_put = refl
