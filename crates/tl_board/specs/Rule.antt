-- The board's rule: what holds of its counter, words, slots and callers between any two steps.
use Rattle.std.specs.Prelude.{◌≡◌, ℕ, ◌+◌, ◌<◌, ◌≤◌, nat_lt, List, length, slice_index, cond, All, Option, Some, None}
use mathlib.Core.Option.{none, some}
use mathlib.Core.Option as maybe
use lib.ListN.{get_elem?}
use Rattle.atomic_table.specs.Table.{State}
use Rattle.tl_board.specs.Hands.{Hands, times, total, hit, pasts, Fits}

-- how far a number has come
pub data Stage : Type 0 where
  Blank : Stage
  Claimed : Stage
  Posted : Stage
  Taking : Stage
  Taken : Stage

-- The word of the number, and how often it was drawn, posted and taken.
abbrev pub word_of : Stage → ℕ
word_of Blank = 0
word_of Claimed = 0
word_of Posted = 1
word_of Taking = 2
word_of Taken = 3

abbrev pub draws_of : Stage → ℕ
draws_of Blank = 0
draws_of Claimed = 1
draws_of Posted = 1
draws_of Taking = 1
draws_of Taken = 1

abbrev pub posts_of : Stage → ℕ
posts_of Blank = 0
posts_of Claimed = 0
posts_of Posted = 1
posts_of Taking = 1
posts_of Taken = 1

abbrev pub takes_of : Stage → ℕ
takes_of Blank = 0
takes_of Claimed = 0
takes_of Posted = 0
takes_of Taking = 1
takes_of Taken = 1

-- no caller tells of a number
abbrev pub IsUntold : {J : Type 0} → ℕ → List (Hands J) → Type 0
IsUntold n views =
    (total (λ c. times n c.drawn) views ≡ 0)
    × (total (λ c. times n c.posted) views ≡ 0)
    × (total (λ c. times n c.taken) views ≡ 0)
    × (total (λ c. times n c.seen) views ≡ 0)

-- a slot that is out with a caller, or at home with this content
abbrev pub Content : Type 0 → Type 0
Content P = maybe.Option (maybe.Option (Option P))

-- 1 where the number is below the counter, else 0
abbrev pub below : ℕ → ℕ → ℕ
below n counter = cond (nat_lt n counter) 1 0

module _ {P J : Type 0} (job_of : P → J) (filled_for : P → ℕ → Type 0) (job : J) where
  -- The slot of a number is out with the caller that claimed it or is taking it, and else at home.
  abbrev pub IsSlotOf : ℕ → Content P → Stage → Type 0
  IsSlotOf n slot Blank = (p : P) × (slot ≡ some (some (Some p))) × (job_of p ≡ job)
  IsSlotOf n slot Claimed = slot ≡ some none
  IsSlotOf n slot Posted = (p : P) × (slot ≡ some (some (Some p))) × (job_of p ≡ job) × filled_for p n
  IsSlotOf n slot Taking = slot ≡ some none
  IsSlotOf n slot Taken = slot ≡ some (some None)

  -- what the table and the callers tell of a number below count, and the counter of all
  pub record IsAt (n counter word : ℕ) (slot : Content P) (views : List (Hands J)) (stage : Stage) : Type 0 where
    pub word_is : word ≡ word_of stage
    pub drawn_below : draws_of stage ≡ below n counter
    pub draws : total (λ c. times n c.drawn) views ≡ draws_of stage
    pub posts : total (λ c. times n c.posted) views ≡ posts_of stage
    pub takes : total (λ c. times n c.taken) views ≡ takes_of stage
    pub sees : 0 < total (λ c. times n c.seen) views → 0 < word_of stage
    pub slot_is : IsSlotOf n slot stage

  -- Word 0 is the counter, and word n + 1 is that of number n, whose slot is slot n.
  pub record Keeps (count callers : ℕ) (s : State (Option P) (Hands J)) : Type 0 where
    pub stage : ℕ → Stage
    pub word_count : length s.words ≡ count + 1
    pub slot_count : length s.homes ≡ count
    pub each_fits : (j : ℕ) (hs : Hands J) → get_elem? s.views j ≡ some hs → All (Fits job count callers) hs
    pub callers_told : total (λ _. 1) s.views ≡ callers
    pub index_once : (i : ℕ) → total (λ c. hit c.index i) s.views ≤ 1
    pub counter_low : slice_index s.words 0 ≤ count + total pasts s.views
    pub counter_high : 0 < total pasts s.views → count ≤ slice_index s.words 0
    pub numbers : (n : ℕ) → n < count → IsAt n (slice_index s.words 0) (slice_index s.words (n + 1)) (get_elem? s.homes n) s.views (stage n)
    pub beyond : (n : ℕ) → count ≤ n → IsUntold n s.views
