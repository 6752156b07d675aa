-- What stays of the rule when one caller's view changes.
use Rattle.std.proofs.Common.{◌≡◌, ◌≢◌, ℕ, ◌+◌, ◌<◌, ◌≤◌, ⊎_elim, Bool, true, false, cond, List, [], ◌∷◌, length, set, get_or, refl, sym, ap, ◌∙◌, subst, arith, eq-eqb, ne_eqb}
use mathlib.Core.Option.{none, some}
use mathlib.Core.Option as maybe
use mathlib.Core.Logic.{dite}
use native.Mathlib.Decide.{ℕ_discrete}
use lib.ListN.{get_elem?}
use Rattle.std.specs.Prelude.{Option, ◌==◌, sum_by, All, is_some}
use Rattle.std.proofs.lemmas.Bool.{lt-ltb, le-ltb}
use Rattle.atomic_table.specs.Table.{State}
use Rattle.atomic_table.proofs.Lists.{at_set}
use Rattle.std.proofs.lemmas.List.Elements.{All-nil, All-cons}
use Rattle.tl_board.specs.declared.views.CallerView.{CallerView}
use Rattle.tl_board.specs.Hands.{Hands, hit, times, total, pasts, Fits}
use Rattle.tl_board.specs.Rule.{Stage, draws_of, posts_of, IsSlotOf, IsAt, IsUntold, Content, below, Keeps}
use Rattle.tl_board.specs.Rule.Stage.{Blank, Claimed, Posted, Taking, Taken}
use Rattle.tl_board.proofs.Totals.{total_same, sum_set, sum_le, at_below, get_or_at}

-- no caller's lists tell more or less of the number
abbrev pub ToldAlike : {J : Type 0} → ℕ → List (Hands J) → List (Hands J) → Type 0
ToldAlike m views views' =
    (total (λ c. times m c.drawn) views' ≡ total (λ c. times m c.drawn) views)
    × (total (λ c. times m c.posted) views' ≡ total (λ c. times m c.posted) views)
    × (total (λ c. times m c.taken) views' ≡ total (λ c. times m c.taken) views)
    × (total (λ c. times m c.seen) views' ≡ total (λ c. times m c.seen) views)

module _ {J : Type 0} where
  pub told_alike : (m : ℕ) (views : List (Hands J)) (id : ℕ) (c c' : CallerView (Option J)) → get_elem? views id ≡ some (c ∷ [])
      → times m c'.drawn ≡ times m c.drawn → times m c'.posted ≡ times m c.posted → times m c'.taken ≡ times m c.taken → times m c'.seen ≡ times m c.seen
      → ToldAlike m views (set views id (c' ∷ []))
  told_alike m views id c c' at d p t s = (
    total_same (λ x. times m x.drawn) views id c c' at d,
    total_same (λ x. times m x.posted) views id c c' at p,
    total_same (λ x. times m x.taken) views id c c' at t,
    total_same (λ x. times m x.seen) views id c c' at s,
  )

  pub untold_alike : (m : ℕ) (views views' : List (Hands J)) → ToldAlike m views views' → IsUntold m views → IsUntold m views'
  untold_alike m views views' same zeros = (same.0 ∙ zeros.0, same.1 ∙ zeros.1, same.2 ∙ zeros.2, same.3 ∙ zeros.3)

  pub each_one : (P : CallerView (Option J) → Type 0) (c : CallerView (Option J)) → P c → All P (c ∷ [])
  each_one P c p = All-cons P c [] p (All-nil P)

  -- the other seats keep what each had
  pub each_set : (P : CallerView (Option J) → Type 0) (views : List (Hands J)) (id : ℕ) (c' : CallerView (Option J)) → ((j : ℕ) (hs : Hands J) → get_elem? views j ≡ some hs → All P hs) → P c'
      → (j : ℕ) (hs : Hands J) → get_elem? (set views id (c' ∷ [])) j ≡ some hs → All P hs
  each_set P views id c' each mine j hs at = ⊎_elim (λ here. subst (All P) here.1 (each_one P c' mine)) (λ there. each j hs there.1) (at_set views id j (c' ∷ []) hs at)

module _ {P J : Type 0} (job_of : P → J) (filled_for : P → ℕ → Type 0) (job : J) where
  -- a number of which nothing changes but the counter
  pub at_stays : (m k k' w w' : ℕ) (h h' : Content P) (views views' : List (Hands J)) (st : Stage)
      → below m k' ≡ below m k → w' ≡ w → h' ≡ h → ToldAlike m views views'
      → IsAt job_of filled_for job m k w h views st → IsAt job_of filled_for job m k' w' h' views' st
  at_stays m k k' w w' h h' views views' st below word slot same is = record {
    word_is = word ∙ is.word_is;
    drawn_below = is.drawn_below ∙ sym below;
    draws = same.0 ∙ is.draws;
    posts = same.1 ∙ is.posts;
    takes = same.2 ∙ is.takes;
    sees = λ some_seen. is.sees (subst (λ (n : ℕ). 0 < n) same.3 some_seen);
    slot_is = subst (λ x. IsSlotOf job_of filled_for job m x st) (sym slot) is.slot_is;
  }

module _ {P J : Type 0} (job_of : P → J) (filled_for : P → ℕ → Type 0) (job : J) (count callers : ℕ) where
  abbrev Rule : State (Option P) (Hands J) → Type 0
  Rule = Keeps job_of filled_for job count callers

  module _ (s : State (Option P) (Hands J)) (r : Rule s) (id : ℕ) (c : CallerView (Option J)) (at : get_elem? s.views id ≡ some (c ∷ [])) where
    -- what holds of the caller that steps
    pub fits_here : Fits job count callers c
    fits_here = r.each_fits id (c ∷ []) at 0 c (omega arith)

    -- One caller has a new view. What it is of the board stays.
    pub keeps_from : (c' : CallerView (Option J)) (words' : List ℕ) (homes' : List (maybe.Option (Option P))) (stage' : ℕ → Stage)
        → Fits job count callers c' → c'.index ≡ c.index → length words' ≡ length s.words → length homes' ≡ length s.homes
        → get_or words' 0 0 ≤ count + total pasts (set s.views id (c' ∷ []))
        → (0 < total pasts (set s.views id (c' ∷ [])) → count ≤ get_or words' 0 0)
        → ((m : ℕ) → m < count → IsAt job_of filled_for job m (get_or words' 0 0) (get_or words' (m + 1) 0) (get_elem? homes' m) (set s.views id (c' ∷ [])) (stage' m))
        → ((m : ℕ) → count ≤ m → IsUntold m (set s.views id (c' ∷ [])))
        → Rule record { words = words'; homes = homes'; views = set s.views id (c' ∷ []) }
    keeps_from c' words' homes' stage' fits same_index wide long low high numbers beyond = record {
      stage = stage';
      word_count = wide ∙ r.word_count;
      slot_count = long ∙ r.slot_count;
      each_fits = each_set (Fits job count callers) s.views id c' r.each_fits fits;
      callers_told = total_same (λ _. 1) s.views id c c' at refl ∙ r.callers_told;
      index_once = λ i. let e = total_same (λ x. hit x.index i) s.views id c c' at (ap (λ (k : ℕ). hit k i) same_index) in omega (arith, e, r.index_once i);
      counter_low = low;
      counter_high = high;
      numbers = numbers;
      beyond = beyond;
    }

-- the stage of one number changes
abbrev pub moved : (ℕ → Stage) → ℕ → Stage → ℕ → Stage
moved stage n st m = cond (m == n) st (stage m)

pub below-true : (n k : ℕ) → n < k → below n k ≡ 1
below-true n k h = ap (λ b. cond b 1 0) (lt-ltb n k h)

pub below-false : (n k : ℕ) → k ≤ n → below n k ≡ 0
below-false n k h = ap (λ b. cond b 1 0) (le-ltb n k h)

-- a fact about the number n at its new stage, and about each other one at its old stage
pub at_moved : (F : ℕ → Stage → Type 0) (stage : ℕ → Stage) (n : ℕ) (st : Stage) → F n st → (m : ℕ) → (m ≢ n → F m (stage m)) → F m (moved stage n st m)
at_moved F stage n st here m there = dite (ℕ_discrete m n) (λ e. subst (λ b. F m (cond b st (stage m))) (sym (eq-eqb m n e)) (subst (λ (k : ℕ). F k st) (sym e) here))
    (λ ne. subst (λ b. F m (cond b st (stage m))) (sym (ne_eqb m n ne)) (there ne))

-- the stage that follows from how often a number was drawn and posted
pub is_blank : (s : Stage) → draws_of s ≡ 0 → s ≡ Blank
is_blank Blank e = refl
is_blank Claimed e = absurd (omega (arith, e))
is_blank Posted e = absurd (omega (arith, e))
is_blank Taking e = absurd (omega (arith, e))
is_blank Taken e = absurd (omega (arith, e))

pub is_claimed : (s : Stage) → draws_of s ≡ 1 → posts_of s ≡ 0 → s ≡ Claimed
is_claimed Blank e f = absurd (omega (arith, e))
is_claimed Claimed e f = refl
is_claimed Posted e f = absurd (omega (arith, f))
is_claimed Taking e f = absurd (omega (arith, f))
is_claimed Taken e f = absurd (omega (arith, f))

pub pasts_one : {J : Type 0} (c : CallerView (Option J)) → pasts c ≤ 1
pasts_one c = by_cases (is_some c.past)
  where
    by_cases : (b : Bool) → cond b 1 0 ≤ 1
    by_cases true = omega arith
    by_cases false = omega arith

module _ {P J : Type 0} (job_of : P → J) (filled_for : P → ℕ → Type 0) (job : J) (count callers : ℕ) where
  module _ (s : State (Option P) (Hands J)) (r : Rule job_of filled_for job count callers s) (id : ℕ) (c : CallerView (Option J)) (at : get_elem? s.views id ≡ some (c ∷ [])) where
    -- no other caller posts a number that this one drew
    pub posts_of_others : (n : ℕ) → total (λ x. times n x.posted) s.views + times n c.drawn ≤ total (λ x. times n x.drawn) s.views + times n c.posted
    posts_of_others n = let F : Hands J → ℕ = λ hs. sum_by (λ x. times n x.drawn) hs in let G : Hands J → ℕ = λ hs. sum_by (λ x. times n x.posted) hs in
        let each : (j : ℕ) (hs : Hands J) → get_elem? (set s.views id []) j ≡ some hs → G hs ≤ F hs = λ j hs e. ⊎_elim (λ here. subst (λ v. G v ≤ F v) here.1 (omega arith))
        (λ there. sum_le (λ x. times n x.posted) (λ x. times n x.drawn) hs (λ k d f. (all_at hs (r.each_fits j hs there.1) k d f).posts_drawn n)) (at_set s.views id j [] hs e) in
        let a = sum_set F s.views id (c ∷ []) [] at in let b = sum_set G s.views id (c ∷ []) [] at in let le = sum_le G F (set s.views id []) each in omega (arith, a, b, le)
      where
        all_at : (hs : Hands J) → All (Fits job count callers) hs → (k : ℕ) (d : CallerView (Option J)) → get_elem? hs k ≡ some d → Fits job count callers d
        all_at hs all k d e = subst (Fits job count callers) (get_or_at hs k d e) (all k d (at_below hs k d e))
