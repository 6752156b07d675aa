-- What may follow a printed drawing in an input.
use Rattle.std.specs.Prelude.{◌≡◌, ℕ, List, [], ◌∷◌}

-- the text after a printed drawing begins no further line of its section
abbrev pub BeginsNoLine : List ℕ → Type 0
BeginsNoLine [] = Unit {0}
BeginsNoLine (b ∷ rest) = b ≡ 10
