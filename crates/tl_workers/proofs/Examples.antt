-- Pieces that are filled, and some near them that aren't.
use Rattle.std.proofs.Common.{◌≡◌, ℕ, zero, suc, ◌+◌, List, [], ◌∷◌, refl, Some}
use Rattle.std.specs.Prelude.{slice_get}
use Rattle.tl_workers.specs.Filled.{AreFilled}

-- a piece of the job 5 that holds a number
abbrev Sum : Type 0
Sum = ℕ × ℕ

abbrev job_of : Sum → ℕ
job_of p = p.0

abbrev filled_for : Sum → ℕ → Type 0
filled_for p n = p.1 ≡ p.0 + n

abbrev blanks : List Sum
blanks = (5, 0) ∷ (5, 0) ∷ []

filled : AreFilled job_of filled_for blanks ((5, 5) ∷ (5, 6) ∷ [])
filled = record { count = refl; each = each }
  where
    each : (n : ℕ) (blank piece : Sum) → slice_get blanks n ≡ Some blank → slice_get ((5, 5) ∷ (5, 6) ∷ []) n ≡ Some piece → (job_of piece ≡ job_of blank) × filled_for piece n
    each zero blank piece e f = (cc (e, f), cc f)
    each (suc zero) blank piece e f = (cc (e, f), cc f)
    each (suc (suc n)) blank piece e f = cc e

-- one piece too few; the pieces in the other order; a piece of another job
too_few : AreFilled job_of filled_for blanks ((5, 5) ∷ []) → ⊥
too_few are = cc are.count

turned : AreFilled job_of filled_for blanks ((5, 6) ∷ (5, 5) ∷ []) → ⊥
turned are = cc (are.each 0 (5, 0) (5, 6) refl refl).1

other_job : AreFilled job_of filled_for blanks ((5, 5) ∷ (6, 7) ∷ []) → ⊥
other_job are = cc (are.each 1 (5, 0) (6, 7) refl refl).0
