-- What is in entries, and what near it isn't.
use Rattle.std.proofs.Common.{◌≡◌, ℕ, Bool, true, false, List, [], ◌∷◌, ◌++◌, length, Some, refl, ◌∙◌, ap}
use Rattle.std.specs.Prelude.{slice_get}
use Rattle.tl_lists.proofs.Tests.{some_same}
use Rattle.tl_run.specs.Answers.{Answer, answer}
use Rattle.tl_outcomes.specs.Entries.{Entry, Entries}
use Rattle.tl_run.specs.InEntries.{AreEntries, entries_text, entries_status, IsInEntries}

abbrev entry : List ℕ → Bool → Entry
entry text is_late = record { text = text; is_late = is_late }

-- each number is told by a byte; or so, and late
abbrev Bytes : Entries
Bytes n p = p ≡ entry (n ∷ []) false

abbrev LateBytes : Entries
LateBytes n p = p ≡ entry (n ∷ []) true

two_numbers : IsInEntries Bytes (9 ∷ []) 2 (answer (9 ∷ 0 ∷ 1 ∷ []) 0)
two_numbers = record { entries = entry (0 ∷ []) false ∷ entry (1 ∷ []) false ∷ []; count_is = refl; each = (refl, (refl, tt)); is = refl }

a_late_one : IsInEntries LateBytes [] 1 (answer (0 ∷ []) 7)
a_late_one = record { entries = entry (0 ∷ []) true ∷ []; count_is = refl; each = (refl, tt); is = refl }

-- in another order
two_turned : IsInEntries Bytes [] 2 (answer (1 ∷ 0 ∷ []) 0) → ⊥
two_turned s = go s.entries s.count_is s.each (ap (λ (a : Answer). a.text) s.is)
  where
    go : (ps : List Entry) → length ps ≡ 2 → AreEntries Bytes 0 ps → 1 ∷ 0 ∷ [] ≡ entries_text ps → ⊥
    go [] count each text = cc count
    go (p ∷ ps) count (is, each) text =
        let first : Some 1 ≡ Some 0 = ap (λ (l : List ℕ). slice_get l 0) (text ∙ ap (λ (q : Entry). q.text ++ entries_text ps) is) in
        let same : 1 ≡ 0 = some_same 1 0 first in
        cc same

-- with another status
a_late_one-answered : IsInEntries LateBytes [] 1 (answer (0 ∷ []) 0) → ⊥
a_late_one-answered s = go s.entries s.count_is s.each (ap (λ (a : Answer). a.status) s.is)
  where
    go : (ps : List Entry) → length ps ≡ 1 → AreEntries LateBytes 0 ps → 0 ≡ entries_status ps → ⊥
    go [] count each status = cc count
    go (p ∷ ps) count (is, each) status = let seven : 0 ≡ 7 = status ∙ ap (λ (q : Entry). entries_status (q ∷ ps)) is in cc seven
