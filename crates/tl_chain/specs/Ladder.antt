-- A walk on the rungs of a ladder: a chain of the tests that is lawful only under a premise.
use Rattle.std.specs.Prelude.{◌≡◌, ℕ, zero, suc, ◌+◌, ◌-◌, ◌*◌, ◌≤◌, ⊤, Bool, if◌then◌else◌, nat_le, List}
use Rattle.tl_chain.specs.Chain.{ChainMeaning}
use Rattle.tl_chain.specs.Walk.{goes_up}

-- a place is a rung: it is some number of gaps up
pub record IsRung (gap place : ℕ) : Type 0 where
  pub count : ℕ
  pub reached : place ≡ count * gap

-- one rung up, or down, and no further than the ends
abbrev pub climbed : ℕ → ℕ → Bool → ℕ → ℕ
climbed high gap up place = if up then (if nat_le (place + gap) high then place + gap else place) else (place - gap)

-- the place after the steps of the times -T, -(T - 1), .., -1, in that order
abbrev pub climbed_from : ℕ → ℕ → List Bool → ℕ → ℕ → ℕ
climbed_from high gap ups zero place = place
climbed_from high gap ups (suc t) place = climbed_from high gap ups t (climbed high gap (goes_up ups t) place)

-- Every number belongs to the ladder, and the rungs up to the high end are lawful.
abbrev pub ladder : ℕ → ℕ → List Bool → ChainMeaning ℕ
ladder high gap ups = record {
  belongs = λ place. ⊤;
  lawful = λ place. IsRung gap place × (place ≤ high);
  below = λ place other. place ≤ other;
  low = 0;
  high = high;
  carried = λ place from. climbed_from high gap ups from place;
}
