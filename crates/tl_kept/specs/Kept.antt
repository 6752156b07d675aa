-- The words of the first times, kept one time behind the other.
use Rattle.std.specs.Prelude.{◌≡◌, ℕ, ◌+◌, ◌-◌, ◌*◌, ◌<◌, ◌≤◌, List, length, slice_index}

-- The kept words: four others, then those of the times from -1 on, each so many, and four more.
pub record AreKept (words times : ℕ) (word_at : ℕ → ℕ → ℕ) (kept : List ℕ) : Type 0 where
  pub size : length kept ≡ 4 + times * words + 4
  pub each : (t w : ℕ) → 1 ≤ t → t ≤ times → w < words → slice_index kept (4 + (t - 1) * words + w) ≡ word_at t w

-- the kept words before the last four
pub record AreBegun (words times : ℕ) (word_at : ℕ → ℕ → ℕ) (kept : List ℕ) : Type 0 where
  pub size : length kept ≡ 4 + times * words
  pub each : (t w : ℕ) → 1 ≤ t → t ≤ times → w < words → slice_index kept (4 + (t - 1) * words + w) ≡ word_at t w

-- the words of one time, behind four others
abbrev pub HasTime : ℕ → (ℕ → ℕ) → List ℕ → Type 0
HasTime words word_at raw = (w : ℕ) → w < words → slice_index raw (4 + w) ≡ word_at w
