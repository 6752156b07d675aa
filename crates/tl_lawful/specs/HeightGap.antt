-- How far apart two lists of heights are.
use Rattle.std.specs.Prelude.{ℕ, List, map, zip, sum, ℤ, ◌-ℤ◌, unsigned_abs}

-- the sum of all differences, place by place
abbrev pub height_gap : List ℤ → List ℤ → ℕ
height_gap a b = sum (map (λ p. unsigned_abs (p.0 -ℤ p.1)) (zip a b))
