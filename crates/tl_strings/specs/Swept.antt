-- Lists of words that are written place by place.
use Rattle.std.specs.Prelude.{◌≡◌, ℕ, ◌<◌, ◌≤◌, List, slice_index}

-- The places from the first to before the end are made, the others as they were.
pub record IsSwept (Made : ℕ → ℕ → Type 0) (first end : ℕ) (old new : List ℕ) : Type 0 where
  pub made : (k : ℕ) → first ≤ k → k < end → Made k (slice_index new k)
  pub below : (k : ℕ) → k < first → slice_index new k ≡ slice_index old k
  pub rest : (k : ℕ) → end ≤ k → slice_index new k ≡ slice_index old k
