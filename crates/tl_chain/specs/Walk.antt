-- A walk on the places 0, 1, .., top: a chain of the tests.
use Rattle.std.specs.Prelude.{ℕ, zero, suc, ◌+◌, ◌-◌, ◌≤◌, ⊤, Bool, false, if◌then◌else◌, List, nat_lt, slice_get, unwrap_or}
use Rattle.tl_chain.specs.Chain.{ChainMeaning}

-- one place up, or down, and no further than the ends
abbrev pub stepped : ℕ → Bool → ℕ → ℕ
stepped top up place = if up then (if nat_lt place top then place + 1 else place) else (place - 1)

-- whether the walk goes up at time -(t + 1): before the times of the list it goes down
abbrev pub goes_up : List Bool → ℕ → Bool
goes_up ups t = unwrap_or (slice_get ups t) false

-- the place after the steps of the times -T, -(T - 1), .., -1, in that order
abbrev pub walked : ℕ → List Bool → ℕ → ℕ → ℕ
walked top ups zero place = place
walked top ups (suc t) place = walked top ups t (stepped top (goes_up ups t) place)

-- Every number belongs to the walk, and the places up to the top are lawful.
abbrev pub walk : ℕ → List Bool → ChainMeaning ℕ
walk top ups = record {
  belongs = λ place. ⊤;
  lawful = λ place. place ≤ top;
  below = λ place other. place ≤ other;
  low = 0;
  high = top;
  carried = λ place from. walked top ups from place;
}
