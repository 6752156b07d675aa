-- A claimed number is posted.
use Rattle.std.proofs.Common.{◌≡◌, ◌≢◌, ℕ, ◌+◌, ◌<◌, ◌≤◌, true, false, List, [], ◌∷◌, ◌++◌, length, set, get_or, refl, sym, ap, ◌∙◌, subst, arith, length-set, get_or-set_other, get_or-set_same}
use mathlib.Core.Option.{none, some}
use mathlib.Core.Option as maybe
use mathlib.Core.Logic.{dite}
use native.Mathlib.Decide.{ℕ_discrete}
use lib.ListN.{get_elem?}
use Rattle.std.specs.Prelude.{Option, Some}
use Rattle.atomic_table.specs.Table.{State, Me, gives, stepped, rest, Allows}
use Rattle.atomic_table.proofs.Lists.{set_here, set_else}
use Rattle.tl_board.specs.declared.views.CallerView.{CallerView}
use Rattle.tl_board.specs.Hands.{Hands, hand, times, pasts, Fits}
use Rattle.tl_board.specs.Board.{is_member}
use Rattle.tl_board.specs.Rule.{Stage, draws_of, posts_of, takes_of, IsAt, Content, below, Keeps}
use Rattle.tl_board.specs.Rule.Stage.{Blank, Claimed, Posted, Taking, Taken}
use Rattle.tl_board.proofs.Totals.{total_same, total_more, total_at, times-same, times-other, hand-alone, times-member, times-none, less-one}
use Rattle.tl_board.proofs.Moves.{ToldAlike, told_alike, untold_alike, at_stays, at_moved, moved, keeps_from, fits_here, posts_of_others, is_claimed}
use Rattle.tl_lists.proofs.Tests.{some_same}
use Rattle.tl_board.specs.Steps.{Posts, after_post}

draws_one : (st : Stage) → draws_of st ≤ 1
draws_one Blank = omega arith
draws_one Claimed = omega arith
draws_one Posted = omega arith
draws_one Taking = omega arith
draws_one Taken = omega arith

module _ {P J : Type 0} (job_of : P → J) (filled_for : P → ℕ → Type 0) (job : J) (count callers : ℕ) where
  abbrev Rule : State (Option P) (Hands J) → Type 0
  Rule = Keeps job_of filled_for job count callers

  abbrev At : ℕ → ℕ → ℕ → Content P → List (Hands J) → Stage → Type 0
  At = IsAt job_of filled_for job

  module _ (s : State (Option P) (Hands J)) (r : Rule s) (id : ℕ) (c : CallerView (Option J)) (at : get_elem? s.views id ≡ some (c ∷ []))
      (n : ℕ) (few : n < count) (drawn : is_member c.drawn n ≡ true) (unposted : is_member c.posted n ≡ false) (p : P) (of_job : job_of p ≡ job) (filled : filled_for p n) where
    claimed : r.stage n ≡ Claimed
    claimed = let is = r.numbers n few in let one = draws_one (r.stage n) in let others = posts_of_others job_of filled_for job count callers s r id c at n in
        let mine = times-member n c.drawn drawn in let nothing = times-none n c.posted unposted in let here = total_at (λ x. times n x.drawn) s.views id c at in let d = is.draws in let q = is.posts in
        is_claimed (r.stage n) (omega (arith, d, here, mine, one)) (omega (arith, d, q, mine, nothing, others, one))

    abbrev views' : List (Hands J)
    views' = set s.views id (after_post c n ∷ [])

    other_told : (m : ℕ) → m ≢ n → ToldAlike m s.views views'
    other_told m ne = told_alike m s.views id c (after_post c n) at refl (times-other m c.posted n (λ e. ne (sym e))) refl refl

    post_fits : Fits job count callers (after_post c n)
    post_fits = let f = fits_here job_of filled_for job count callers s r id c at in record {
      of_job = f.of_job;
      of_count = f.of_count;
      of_callers = f.of_callers;
      index_below = f.index_below;
      past_it = f.past_it;
      posts_drawn = λ m. dite (ℕ_discrete m n)
          (λ e. subst (λ (k : ℕ). times k (c.posted ++ n ∷ []) ≤ times k c.drawn) (sym e) (let a = times-same c.posted n in let b = times-none n c.posted unposted in let d = times-member n c.drawn drawn in omega (arith, a, b, d)))
          (λ ne. let a = times-other m c.posted n (λ e. ne (sym e)) in let b = f.posts_drawn m in omega (arith, a, b));
      last_seen = f.last_seen;
    }

    abbrev words' : List ℕ
    words' = set s.words (n + 1) 1

    abbrev homes' : List (maybe.Option (Option P))
    homes' = set s.homes n (some (Some p))

    first_word : get_or words' 0 0 ≡ get_or s.words 0 0
    first_word = get_or-set_other s.words (n + 1) 0 1 0 (λ e. omega arith)

    posted_at : At n (get_or words' 0 0) (get_or words' (n + 1) 0) (get_elem? homes' n) views' Posted
    posted_at = let is = r.numbers n few in record {
      word_is = get_or-set_same s.words (n + 1) 1 0 (omega (arith, r.word_count, few));
      drawn_below = ap draws_of (sym claimed) ∙ (is.drawn_below ∙ ap (below n) (sym first_word));
      draws = total_same (λ x. times n x.drawn) s.views id c (after_post c n) at refl ∙ (is.draws ∙ ap draws_of claimed);
      posts = let e = total_more (λ x. times n x.posted) s.views id c (after_post c n) at (times-same c.posted n) in let q = is.posts ∙ ap posts_of claimed in omega (arith, e, q);
      takes = total_same (λ x. times n x.taken) s.views id c (after_post c n) at refl ∙ (is.takes ∙ ap takes_of claimed);
      sees = λ _. omega arith;
      slot_is = (p, set_here s.homes n (some (Some p)) (omega (arith, r.slot_count, few)), of_job, filled);
    }

    pub post_keeps : Rule record { words = words'; homes = homes'; views = views' }
    post_keeps = let e = total_same pasts s.views id c (after_post c n) at refl in
        keeps_from job_of filled_for job count callers s r id c at (after_post c n) words' homes' (moved r.stage n Posted) post_fits refl (length-set s.words (n + 1) 1) (length-set s.homes n (some (Some p)))
        (let low = r.counter_low in omega (arith, e, low, first_word))
        (λ some_past. let h = r.counter_high (subst (λ (x : ℕ). 0 < x) e some_past) in omega (arith, first_word, h))
        (λ m near. at_moved (λ (q : ℕ) st. At q (get_or words' 0 0) (get_or words' (q + 1) 0) (get_elem? homes' q) views' st) r.stage n Posted posted_at m
        (λ ne. at_stays job_of filled_for job m (get_or s.words 0 0) (get_or words' 0 0) (get_or s.words (m + 1) 0) (get_or words' (m + 1) 0) (get_elem? s.homes m) (get_elem? homes' m) s.views views' (r.stage m)
        (ap (below m) first_word) (get_or-set_other s.words (n + 1) (m + 1) 1 0 (λ x. let other : m ≢ n = ne in omega (arith, x, other))) (set_else s.homes n m (some (Some p)) ne) (other_told m ne) (r.numbers m near)))
        (λ m far. untold_alike m s.views views' (other_told m (λ x. omega (arith, x, few, far))) (r.beyond m far))

  -- what the step of a post keeps and tells
  pub posts : (slots id : ℕ) (me : Me (Option P) (Hands J)) (n : ℕ) (p : P) → length me.0 ≡ 1 → n < count → is_member (hand me.0).drawn n ≡ true → is_member (hand me.0).posted n ≡ false
      → Some (job_of p) ≡ (hand me.0).job → filled_for p n → me.1 ≡ (n, Some p) ∷ rest me.1
      → Allows Rule slots id me (n + 1) (λ _. 1) (λ _. Posts (n + 1) me)
  posts slots id me n p alone few drawn unposted of_job filled top s r wide at _ =
      let c : CallerView (Option J) = hand me.0 in let here : get_elem? s.views id ≡ some (c ∷ []) = at ∙ ap some (hand-alone me.0 alone) in
      let f = fits_here job_of filled_for job count callers s r id c here in (
        after_post c n ∷ [],
        gives,
        tt,
        subst (λ (xs : List (ℕ × Option P)). Rule (stepped s (n + 1) 1 id xs (after_post c n ∷ []) gives)) (sym top) (post_keeps s r id c here n few drawn unposted p (some_same _ _ (of_job ∙ f.of_job)) filled),
        (ap (λ (k : ℕ). after_post c k ∷ []) (less-one n), refl),
      )
