-- Pairs of words, read from a list of words and written to one.
use Rattle.std.specs.Prelude.{◌≡◌, ℕ, ◌+◌, ◌<◌, ◌≤◌, List, slice_index}

-- the two words from a place on
abbrev pub IsPairAt : List ℕ → ℕ → List ℕ → Type 0
IsPairAt words at pair = (lane : ℕ) → lane < 2 → slice_index pair lane ≡ slice_index words (at + lane)

-- the two words from a place on are those of a pair, the others as they were
pub record IsPairStored (at : ℕ) (pair old new : List ℕ) : Type 0 where
  pub lanes : (lane : ℕ) → lane < 2 → slice_index new (at + lane) ≡ slice_index pair lane
  pub below : (k : ℕ) → k < at → slice_index new k ≡ slice_index old k
  pub rest : (k : ℕ) → at + 2 ≤ k → slice_index new k ≡ slice_index old k
