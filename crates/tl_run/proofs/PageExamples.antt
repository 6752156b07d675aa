-- What is gathered, and what near it isn't.
use Rattle.std.proofs.Common.{◌≡◌, ℕ, List, [], ◌∷◌, ◌++◌, Option, Some, refl, ◌∙◌, sym, ap}
use Rattle.std.specs.Prelude.{slice_get, unwrap_or}
use Rattle.tl_lists.proofs.Tests.{some_same}
use Rattle.tl_io.specs.States.{SinkState}
use Rattle.tl_run.specs.Pages.{Gathers}

abbrev told : List ℕ → SinkState
told held = record { held = Some held; faults = 0 }

-- what waited was written, and the bytes wait
one_page : Gathers (1 ∷ []) (2 ∷ []) (2 ∷ []) (told (9 ∷ [])) (told (9 ∷ 1 ∷ []))
one_page = record { out = 1 ∷ []; in_order = refl; written = record { held = refl; steady = refl } }

-- the bytes before what waited
turned : Gathers (1 ∷ []) (2 ∷ []) (1 ∷ []) (told []) (told (2 ∷ [])) → ⊥
turned g = go g.out g.in_order (ap (λ (o : Option (List ℕ)). unwrap_or o []) g.written.held)
  where
    go : (out : List ℕ) → 1 ∷ 2 ∷ [] ≡ out ++ (1 ∷ []) → 2 ∷ [] ≡ out → ⊥
    go out order is =
        let first : Some 1 ≡ Some 2 = ap (λ (l : List ℕ). slice_get l 0) (order ∙ ap (λ (l : List ℕ). l ++ (1 ∷ [])) (sym is)) in
        let same : 1 ≡ 2 = some_same 1 2 first in
        cc same

-- what waited is lost
lost : Gathers (1 ∷ []) (2 ∷ []) (2 ∷ []) (told []) (told []) → ⊥
lost g = go g.out g.in_order (ap (λ (o : Option (List ℕ)). unwrap_or o []) g.written.held)
  where
    go : (out : List ℕ) → 1 ∷ 2 ∷ [] ≡ out ++ (2 ∷ []) → [] ≡ out → ⊥
    go out order is =
        let first : Some 1 ≡ Some 2 = ap (λ (l : List ℕ). slice_get l 0) (order ∙ ap (λ (l : List ℕ). l ++ (2 ∷ [])) (sym is)) in
        let same : 1 ≡ 2 = some_same 1 2 first in
        cc same
