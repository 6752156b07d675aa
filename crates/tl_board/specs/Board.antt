-- The histories of a claim board: which caller drew, posted and took which number.
use Rattle.std.specs.Prelude.{◌≡◌, ℕ, min, ◌<◌, ◌⊎◌, ◌↔◌, Bool, ◌==◌, List, flat_map, slice_index_or, Option, is_some, IsTrue, IsFalse, IsPermutation, nat_le, nat_lt, ◌&&◌, length, true, Some, None, ◌||◌, All, map}
use Rattle.std.specs.List.{list_any, list_all}
use Rattle.tl_lists.specs.Lists.{upto, distinct}
use Rattle.tl_board.specs.declared.views.CallerView.{CallerView}

-- the word of a number: not posted, posted, being taken, taken
abbrev pub not_posted : ℕ
not_posted = 0

abbrev pub posted_word : ℕ
posted_word = 1

abbrev pub taking_word : ℕ
taking_word = 2

abbrev pub taken_word : ℕ
taken_word = 3

abbrev pub is_member : List ℕ → ℕ → Bool
is_member xs n = list_any (λ x. x == n) xs

-- a number that was drawn past the last one, or none
abbrev pub is_past : ℕ → Option ℕ → Bool
is_past count None = true
is_past count (Some n) = nat_le count n

-- A history is lawful where the callers drew each number below the lesser of counter and count once and no
-- other, posted what they drew and took what was posted, each once, and the words say so.
pub record IsLawfulHistory {J : Type 0} (views : List (CallerView J)) (count counter : ℕ) (words : List ℕ) : Type 0 where
  pub word_count : length words ≡ count
  pub words_known : IsTrue (list_all (λ w. nat_le w taken_word) words)
  pub views_fit : IsTrue (list_all (λ c. c.count == count && nat_lt c.index c.callers && is_past count c.past) views)
  pub draws : IsPermutation (upto (min counter count)) (flat_map (λ c. c.drawn) views)
  pub posts_drawn : IsTrue (list_all (λ c. list_all (is_member c.drawn) c.posted) views)
  pub posts_once : IsTrue (list_all (λ c. distinct ◌==◌ c.posted) views)
  pub posted : (n : ℕ) → n < count
      → (slice_index_or words n 0 ≡ not_posted) ↔ IsFalse (is_member (flat_map (λ c. c.posted) views) n)
  pub takes_once : IsTrue (distinct ◌==◌ (flat_map (λ c. c.taken) views))
  pub taken : (n : ℕ) → IsTrue (is_member (flat_map (λ c. c.taken) views) n)
      ↔ ((slice_index_or words n 0 ≡ taking_word) ⊎ (slice_index_or words n 0 ≡ taken_word))
  pub seen : (n : ℕ) → IsTrue (is_member (flat_map (λ c. c.seen) views) n) → slice_index_or words n 0 ≡ not_posted → ⊥
  pub past : IsTrue (list_any (λ c. is_some c.past) views) → min counter count ≡ count

-- the last word that was read, where it is not 0, is of a number among those seen
abbrev pub last_is_seen : List ℕ → Option (ℕ × ℕ) → Bool
last_is_seen seen None = true
last_is_seen seen (Some l) = (l.1 == 0) || is_member seen l.0

-- The views are those of all callers of one board. It says what a lawful history leaves open.
pub record AreOfOneBoard {J : Type 0} (job : J) (views : List (CallerView J)) : Type 0 where
  pub one_job : All (λ c. c.job ≡ job) views
  pub all_callers : IsTrue (list_all (λ c. c.callers == length views) views)
  pub indexes_once : IsTrue (distinct ◌==◌ (map (λ c. c.index) views))
  pub lasts_seen : IsTrue (list_all (λ c. last_is_seen c.seen c.last) views)
