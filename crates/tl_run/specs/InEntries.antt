-- What is printed of samples, one number after the other.
use Rattle.std.specs.Prelude.{◌≡◌, ℕ, ◌+◌, if◌then◌else◌, List, [], ◌∷◌, ◌++◌, length, flat_map}
use Rattle.std.specs.List.{list_any}
use Rattle.tl_outcomes.specs.Entries.{Entry, Entries}
use Rattle.tl_run.specs.Answers.{Answer, answer, Is}

-- entries of the numbers from n on, each once and in order
abbrev pub AreEntries : Entries → ℕ → List Entry → Type 0
AreEntries P n [] = Unit {0}
AreEntries P n (e ∷ es) = P n e × AreEntries P (n + 1) es

abbrev pub entries_text : List Entry → List ℕ
entries_text es = flat_map (λ e. e.text) es

-- whether one is late
abbrev pub entries_status : List Entry → ℕ
entries_status es = if list_any (λ e. e.is_late) es then 7 else 0

abbrev pub told_entries : List ℕ → List Entry → Answer
told_entries head es = answer (head ++ entries_text es) (entries_status es)

-- a head, and entries of the numbers below the count, each once and in order
pub record IsInEntries (P : Entries) (head : List ℕ) (count : ℕ) (a : Answer) : Type 0 where
  pub entries : List Entry
  pub count_is : length entries ≡ count
  pub each : AreEntries P 0 entries
  pub is : Is (told_entries head entries) a
