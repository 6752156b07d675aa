-- The values that are there, in a table with places to spare.
use Rattle.std.proofs.Common.{◌≡◌, ℕ, zero, suc, ◌-◌, List, [], ◌∷◌, ◌++◌, length, Option, None, refl, ap}
use Rattle.std.specs.Prelude.{replicate}
use Rattle.std.specs.List.{cons_option}
use Rattle.tl_lists.specs.Lists.{present}
use Rattle.tl_lattice.specs.Places.{padded}

-- None up to a width changes nothing
pub present-padded : {A : Type 0} (width : ℕ) (xs : List (Option A)) → present (padded width xs) ≡ present xs
present-padded width xs = go xs (width - length xs)
  where
    nones : {A : Type 0} (n : ℕ) → present {A = A} (replicate n None) ≡ []
    nones zero = refl
    nones (suc n) = nones n

    go : {A : Type 0} (xs : List (Option A)) (n : ℕ) → present (xs ++ replicate n None) ≡ present xs
    go [] n = nones n
    go (x ∷ xs) n = ap (cons_option x) (go xs n)
