-- What a seat at the table knows: the views of the callers that it stands for.
use Rattle.std.specs.Prelude.{◌≡◌, ◌≢◌, ℕ, ◌<◌, ◌≤◌, ◌==◌, Bool, List, [], ◌∷◌, map, Option, Some, None, is_some, MatchOption, IsTrue, filter, not, length, nat_lt}
use Rattle.std.specs.Prelude.{cond}
use Rattle.std.specs.List.{sum_by, list_all}
use Rattle.tl_lists.specs.Lists.{upto}
use Rattle.tl_board.specs.declared.views.CallerView.{CallerView}
use Rattle.tl_board.specs.Board.{is_past, is_member}

abbrev pub Hands : Type 0 → Type 0
Hands J = List (CallerView (Option J))

-- 1 where the two numbers are the same, else 0
abbrev pub hit : ℕ → ℕ → ℕ
hit x n = cond (x == n) 1 0

-- how often a number stands in a list
abbrev pub times : ℕ → List ℕ → ℕ
times n xs = sum_by (λ x. hit x n) xs

module _ {J : Type 0} where
  -- a caller that has done nothing yet
  abbrev pub fresh : Option J → ℕ → ℕ → ℕ → CallerView (Option J)
  fresh job count callers index = record {
    callers = callers;
    index = index;
    job = job;
    count = count;
    drawn = [];
    posted = [];
    taken = [];
    seen = [];
    past = None;
    last = None;
    reads = 0;
  }

  -- the callers of a board, when it is opened
  abbrev pub fresh_hands : J → ℕ → ℕ → Hands J
  fresh_hands job count callers = map (fresh (Some job) count callers) (upto callers)

  -- the view of the one caller that a seat stands for
  abbrev pub hand : Hands J → CallerView (Option J)
  hand [] = fresh None 0 0 0
  hand (c ∷ cs) = c

  -- f of each caller that some seat stands for, added up
  abbrev pub total : (CallerView (Option J) → ℕ) → List (Hands J) → ℕ
  total f views = sum_by (λ hs. sum_by f hs) views

  abbrev pub pasts : CallerView (Option J) → ℕ
  pasts c = cond (is_some c.past) 1 0

  -- what holds of each caller by itself
  pub record Fits (job : J) (count callers : ℕ) (c : CallerView (Option J)) : Type 0 where
    pub of_job : c.job ≡ Some job
    pub of_count : c.count ≡ count
    pub of_callers : c.callers ≡ callers
    pub index_below : c.index < callers
    pub past_it : IsTrue (is_past count c.past)
    pub posts_drawn : (n : ℕ) → times n c.posted ≤ times n c.drawn
    pub last_seen : MatchOption c.last (Unit {0}) (λ l. l.1 ≢ 0 → 0 < times l.0 c.seen)

  -- the numbers that a caller drew and has not posted
  abbrev pub unposted : CallerView (Option J) → List ℕ
  unposted c = filter (λ n. not (is_member c.posted n)) c.drawn

  -- the slots that are out with a caller between two calls
  abbrev pub slots_out : {P : Type 0} → CallerView (Option J) → List (ℕ × Option P)
  slots_out c = map (λ n. (n, None)) (unposted c)

  -- A seat that stands for one caller, which has one claim out at most. `done` is whether it has a past.
  pub record IsCaller (slots : ℕ) (done : Bool) (hs : Hands J) : Type 0 where
    pub alone : length hs ≡ 1
    pub of_table : (hand hs).count ≡ slots
    pub done_is : done ≡ is_some (hand hs).past
    pub claims_out : length (unposted (hand hs)) ≤ 1
    pub drawn_below : IsTrue (list_all (λ n. nat_lt n slots) (hand hs).drawn)
