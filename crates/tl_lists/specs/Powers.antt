-- The least power of two with a property.
use Rattle.std.specs.Prelude.{◌≡◌, ℕ, ◌^◌, ◌<◌, ◌≤◌}

-- the least of 1, 2, 4, .., 2 ^ bound with a property
pub record IsLeastPower (P : ℕ → Type 0) (bound T : ℕ) : Type 0 where
  pub exponent : ℕ
  pub power : T ≡ 2 ^ exponent
  pub within : exponent ≤ bound
  pub holds : P T
  pub least : (k : ℕ) → k < exponent → ¬ P (2 ^ k)

-- none of them has it
abbrev pub NoPower : (ℕ → Type 0) → ℕ → Type 0
NoPower P bound = (k : ℕ) → k ≤ bound → ¬ P (2 ^ k)
