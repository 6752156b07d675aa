-- What a call of the board promises.
use Rattle.std.specs.Prelude.{◌≡◌, ◌≢◌, ℕ, Bool, not, ◌&&◌, ◌<◌, ◌≤◌, List, Option, Some, None, IsFalse, IsTrue, MatchOption, All, flat_map, length, slice_get, is_some, cond, ◌==◌}
use Rattle.std.specs.List.{list_all, list_any}
use Rattle.tl_board.specs.declared.caller.Left.{Left}
use Rattle.tl_board.specs.declared.caller.Left.TheVariants.{Unclaimed, Posted, Taken}
use Rattle.atomic_table.specs.Seated.{TableId}
use Rattle.tl_board.specs.declared.views.CallerView.{CallerView}
use Rattle.tl_board.specs.declared.caller.Caller.{Caller}
use Rattle.tl_board.specs.declared.caller.Claim.{Claim}
use Rattle.tl_board.specs.declared.rule.Plan.{Plan}
use Rattle.tl_board.specs.declared.board.Board.{Board}
use Rattle.tl_board.specs.Hands.{Hands, hand, fresh_hands}
use Rattle.tl_board.specs.Board.{is_member, IsLawfulHistory, AreOfOneBoard}
use Rattle.tl_board.specs.Steps.{after_draw, after_past, after_read, after_take, IsKnownPosted}

module _ {P J : Type 0} where
  abbrev pub view : {g : _} → Caller P J g → CallerView (Option J)
  view c = hand c.seat.me.0

  -- the caller is one of those that this board was opened with
  abbrev pub IsCallerOf : {g : _} → Board P J → Caller P J g → Type 0
  IsCallerOf board caller = caller.seat.table_id ≡ board.table.shared.table_id

  -- a caller of this board that has posted what it drew
  abbrev pub IsIdleOf : {g : _} → Board P J → Caller P J g → Type 0
  IsIdleOf board caller = IsCallerOf board caller × ((view caller).posted ≡ (view caller).drawn)

  abbrev pub IsSeatOf : {g : _} → TableId → Caller P J g → Type 0
  IsSeatOf table caller = caller.seat.table_id ≡ table

  -- how many callers the board was opened with
  abbrev pub callers_of : Board P J → ℕ
  callers_of board = board.table.shared.key.callers

  abbrev pub count_of : Board P J → ℕ
  count_of board = board.table.shared.key.count

  -- a number below count joined those that were drawn, which did not have it
  abbrev pub IsClaimOf : (P → J) → CallerView (Option J) → CallerView (Option J) → Claim P → Type 0
  IsClaimOf job_of before after claim =
      (claim.number < before.count)
      × IsFalse (is_member before.drawn claim.number)
      × (Some (job_of claim.piece) ≡ before.job)
      × (before.past ≡ None)
      × (after ≡ after_draw before claim.number)

  -- what callers know that have done nothing, where the table was opened with this plan
  abbrev pub fresh_of : (P → J) → Plan P → TableId → ℕ → Hands J
  fresh_of job_of plan table callers = fresh_hands (job_of plan.like.value) table.slots callers

  -- the views of callers that have done nothing, and know the job and the count of the blanks
  abbrev pub AreFreshViews : (P → J) → List P → ℕ → Hands J → Type 0
  AreFreshViews job_of blanks callers views =
      All (λ p. views ≡ fresh_hands (job_of p) (length blanks) callers) blanks

module _ {J : Type 0} where
  -- the caller drew the number and has not posted it
  abbrev pub IsDrawnOnly : CallerView (Option J) → ℕ → Type 0
  IsDrawnOnly c n = IsTrue (is_member c.drawn n) × IsFalse (is_member c.posted n)

  -- on a board with one caller, a take gives a piece just where that caller posted the number and did not take it
  abbrev pub IsTakeAlone : CallerView (Option J) → ℕ → Bool → Type 0
  IsTakeAlone c n gives = c.callers ≡ 1 → gives ≡ (is_member c.posted n && not (is_member c.taken n))

  -- There was a past, and nothing changed, or the number drawn was past the last one.
  abbrev pub IsPastOf : CallerView (Option J) → CallerView (Option J) → Type 0
  IsPastOf before after = MatchOption before.past ((n : ℕ) × (before.count ≤ n) × (after ≡ after_past before n)) (λ _. after ≡ before)

  -- The word found was not 1, and nothing was taken.
  abbrev pub IsUntaken : CallerView (Option J) → CallerView (Option J) → ℕ → ℕ → Type 0
  IsUntaken before after n word = (word ≢ 1) × (after ≡ after_read before n word)

module _ {P J : Type 0} where
  -- a claim of a number, or none where there is no number left
  abbrev pub IsClaimOrPast : (P → J) → CallerView (Option J) → CallerView (Option J) → Option (Claim P) → Type 0
  IsClaimOrPast job_of before after result = MatchOption result (IsPastOf before after) (IsClaimOf job_of before after)

module _ {P J : Type 0} (job_of : P → J) (filled_for : P → ℕ → Type 0) where
  -- The word found was 1, and the number was taken with its piece.
  abbrev pub IsTakenFrom : CallerView (Option J) → CallerView (Option J) → ℕ → ℕ → P → Type 0
  IsTakenFrom before after n word p = (word ≡ 1) × (after ≡ after_take (after_read before n word) n) × (Some (job_of p) ≡ before.job) × filled_for p n

  -- A take read the word of the number. It gave the piece where the word was 1, and none where it was not.
  abbrev pub IsTakeOf : CallerView (Option J) → CallerView (Option J) → ℕ → Option P → Type 0
  IsTakeOf before after n result =
      (word : ℕ)
      × IsKnownPosted before n word
      × MatchOption result (IsUntaken before after n word) (IsTakenFrom before after n word)

-- What a number's word and slot leave of it. A number that is not posted was not drawn.
abbrev pub left_of : {P : Type 0} → ℕ → Option P → Left P
left_of word None = Taken
left_of word (Some p) = cond (word == 0) (Unclaimed p) (cond (word == 1) (Posted p) Taken)

-- What a closed board leaves of each number, where the callers have these views. A caller that was told that there
-- are no more numbers leaves none unclaimed.
module _ {P J : Type 0} (job_of : P → J) (filled_for : P → ℕ → Type 0) where
  abbrev pub IsLeftOf : List (CallerView (Option J)) → ℕ → Left P → Type 0
  IsLeftOf views n (Unclaimed p) =
      IsFalse (is_member (flat_map (λ c. c.drawn) views) n)
      × IsFalse (is_member (flat_map (λ c. c.taken) views) n)
      × IsFalse (list_any (λ c. is_some c.past) views)
      × All (λ c. c.job ≡ Some (job_of p)) views
  IsLeftOf views n (Posted p) =
      IsTrue (is_member (flat_map (λ c. c.drawn) views) n)
      × IsFalse (is_member (flat_map (λ c. c.taken) views) n)
      × All (λ c. c.job ≡ Some (job_of p)) views
      × filled_for p n
  IsLeftOf views n Taken = IsTrue (is_member (flat_map (λ c. c.taken) views) n)

  -- The callers made a lawful history in which each drawn number is posted, and this is left.
  pub record IsClosed (views : List (CallerView (Option J))) (count : ℕ) (left : List (Left P)) : Type 0 where
    pub counter : ℕ
    pub words : List ℕ
    pub job : J
    pub lawful : IsLawfulHistory views count counter words
    pub one_board : AreOfOneBoard (Some job) views
    pub all_posted : IsTrue (list_all (λ c. list_all (is_member c.posted) c.drawn) views)
    pub one_each : length left ≡ count
    pub each_left : (n : ℕ) (l : Left P) → slice_get left n ≡ Some l → IsLeftOf views n l
