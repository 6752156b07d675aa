-- The pieces of a job when they are filled.
use Rattle.std.specs.Prelude.{◌≡◌, ℕ, List, length, slice_get, Some}

module _ {P J : Type 0} (job_of : P → J) (filled_for : P → ℕ → Type 0) where
  -- as many pieces as blanks, of which piece n has the job of blank n and is filled for the number n
  pub record AreFilled (blanks pieces : List P) : Type 0 where
    pub count : length pieces ≡ length blanks
    pub each : (n : ℕ) (blank piece : P) → slice_get blanks n ≡ Some blank → slice_get pieces n ≡ Some piece
        → (job_of piece ≡ job_of blank) × filled_for piece n
