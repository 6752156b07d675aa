-- A word is read.
use Rattle.std.proofs.Common.{◌≡◌, ◌≢◌, ℕ, ◌+◌, ◌<◌, ⊎_elim, Bool, true, false, cond, List, [], ◌∷◌, ◌++◌, length, set, get_or, refl, sym, ap, ◌∙◌, subst, arith, eq-eqb, ne_eqb}
use mathlib.Core.Option.{some}
use mathlib.Core.Logic.{dite}
use native.Mathlib.Decide.{ℕ_discrete}
use lib.ListN.{get_elem?}
use Rattle.std.specs.Prelude.{Option, ◌==◌}
use Rattle.std.proofs.lemmas.Bool.{or_cases}
use Rattle.std.proofs.lemmas.List.{set-get_or}
use Rattle.atomic_table.specs.Table.{State, Me, keeps, Allows}
use Rattle.tl_board.specs.declared.views.CallerView.{CallerView}
use Rattle.tl_board.specs.Hands.{Hands, hand, times, pasts, Fits}
use Rattle.tl_board.specs.Board.{is_member}
use Rattle.tl_board.specs.Rule.{Stage, word_of, posts_of, IsAt, Keeps}
use Rattle.tl_board.specs.Rule.Stage.{Blank, Claimed, Posted, Taking, Taken}
use Rattle.tl_board.proofs.Totals.{total_same, total_at, times-same, times-other, hand-alone, times-member, less-one}
use Rattle.tl_board.proofs.Moves.{ToldAlike, told_alike, untold_alike, at_stays, keeps_from, fits_here}
use Rattle.tl_board.specs.Steps.{Looks, IsKnownPosted, after_read}

-- what a look or take adds to those seen
seen_zero : {J : Type 0} (c : CallerView (Option J)) (n w : ℕ) → w ≡ 0 → (after_read c n w).seen ≡ c.seen
seen_zero c n w e = ap (λ b. cond b c.seen (c.seen ++ n ∷ [])) (eq-eqb w 0 e)

seen_here : {J : Type 0} (c : CallerView (Option J)) (n w : ℕ) → w ≢ 0 → 0 < times n (after_read c n w).seen
seen_here c n w ne = subst (λ b. 0 < times n (cond b c.seen (c.seen ++ n ∷ []))) (sym (ne_eqb w 0 ne)) (let e = times-same c.seen n in omega (arith, e))

seen_other : {J : Type 0} (c : CallerView (Option J)) (n w m : ℕ) → m ≢ n → times m (after_read c n w).seen ≡ times m c.seen
seen_other c n w m ne = by_test (w == 0)
  where
    by_test : (b : Bool) → times m (cond b c.seen (c.seen ++ n ∷ [])) ≡ times m c.seen
    by_test true = refl
    by_test false = times-other m c.seen n (λ e. ne (sym e))

module _ {P J : Type 0} (job_of : P → J) (filled_for : P → ℕ → Type 0) (job : J) (count callers : ℕ) where
  abbrev Rule : State (Option P) (Hands J) → Type 0
  Rule = Keeps job_of filled_for job count callers

  module _ (s : State (Option P) (Hands J)) (r : Rule s) (id : ℕ) (c : CallerView (Option J)) (at : get_elem? s.views id ≡ some (c ∷ [])) (n : ℕ) (few : n < count) where
    abbrev w : ℕ
    w = get_or s.words (n + 1) 0

    abbrev views' : List (Hands J)
    views' = set s.views id (after_read c n w ∷ [])

    other_told : (m : ℕ) → m ≢ n → ToldAlike m s.views views'
    other_told m ne = told_alike m s.views id c (after_read c n w) at refl refl refl (seen_other c n w m ne)

    read_fits : Fits job count callers (after_read c n w)
    read_fits = let f = fits_here job_of filled_for job count callers s r id c at in record {
      of_job = f.of_job;
      of_count = f.of_count;
      of_callers = f.of_callers;
      index_below = f.index_below;
      past_it = f.past_it;
      posts_drawn = f.posts_drawn;
      last_seen = λ found. seen_here c n w found;
    }

    read_at : IsAt job_of filled_for job n (get_or s.words 0 0) w (get_elem? s.homes n) views' (r.stage n)
    read_at = let is = r.numbers n few in record {
      word_is = is.word_is;
      drawn_below = is.drawn_below;
      draws = total_same (λ x. times n x.drawn) s.views id c (after_read c n w) at refl ∙ is.draws;
      posts = total_same (λ x. times n x.posted) s.views id c (after_read c n w) at refl ∙ is.posts;
      takes = total_same (λ x. times n x.taken) s.views id c (after_read c n w) at refl ∙ is.takes;
      sees = λ some_seen. dite (ℕ_discrete w 0)
          (λ e. is.sees (subst (λ (k : ℕ). 0 < k) (total_same (λ x. times n x.seen) s.views id c (after_read c n w) at (ap (times n) (seen_zero c n w e))) some_seen))
          (λ ne. let word = is.word_is in let other : w ≢ 0 = ne in omega (arith, word, other));
      slot_is = is.slot_is;
    }

    pub read_keeps : Rule record { words = s.words; homes = s.homes; views = views' }
    read_keeps = let e = total_same pasts s.views id c (after_read c n w) at refl in
        keeps_from job_of filled_for job count callers s r id c at (after_read c n w) s.words s.homes r.stage read_fits refl refl refl
        (let low = r.counter_low in omega (arith, e, low))
        (λ some_past. r.counter_high (subst (λ (x : ℕ). 0 < x) e some_past))
        (λ m near. dite (ℕ_discrete m n) (λ same. subst (λ (q : ℕ). IsAt job_of filled_for job q (get_or s.words 0 0) (get_or s.words (q + 1) 0) (get_elem? s.homes q) views' (r.stage q)) (sym same) read_at)
        (λ ne. at_stays job_of filled_for job m (get_or s.words 0 0) (get_or s.words 0 0) (get_or s.words (m + 1) 0) (get_or s.words (m + 1) 0) (get_elem? s.homes m) (get_elem? s.homes m) s.views views' (r.stage m) refl refl refl (other_told m ne) (r.numbers m near)))
        (λ m far. untold_alike m s.views views' (other_told m (λ x. omega (arith, x, few, far))) (r.beyond m far))

    -- a number that was posted or seen has a word other than 0
    pub known_posted : IsKnownPosted c n w
    known_posted known unread = let is = r.numbers n few in let z : word_of (r.stage n) ≡ 0 = sym is.word_is ∙ unread in ⊎_elim
        (λ posted. let a = times-member n c.posted posted in let b = total_at (λ x. times n x.posted) s.views id c at in let q = is.posts in unposted_stage (r.stage n) z (omega (arith, a, b, q)))
        (λ seen. let a = times-member n c.seen seen in let b = total_at (λ x. times n x.seen) s.views id c at in let q = is.sees (omega (arith, a, b)) in omega (arith, q, z))
        (or_cases (is_member c.posted n) (is_member c.seen n) known)
      where
        unposted_stage : (st : Stage) → word_of st ≡ 0 → 0 < posts_of st → ⊥
        unposted_stage Blank e h = omega (arith, h)
        unposted_stage Claimed e h = omega (arith, h)
        unposted_stage Posted e h = omega (arith, e)
        unposted_stage Taking e h = omega (arith, e)
        unposted_stage Taken e h = omega (arith, e)

  -- what the step of a look keeps and tells
  pub looks : (slots id : ℕ) (me : Me (Option P) (Hands J)) (n : ℕ) → length me.0 ≡ 1 → n < count → Allows Rule slots id me (n + 1) (λ w. w) (Looks (n + 1) me)
  looks slots id me n alone few s r wide at _ =
      let c : CallerView (Option J) = hand me.0 in let here : get_elem? s.views id ≡ some (c ∷ []) = at ∙ ap some (hand-alone me.0 alone) in let w : ℕ = get_or s.words (n + 1) 0 in (
        after_read c n w ∷ [],
        keeps,
        tt,
        subst (λ (ws : List ℕ). Rule record { words = ws; homes = s.homes; views = set s.views id (after_read c n w ∷ []) }) (sym (set-get_or s.words (n + 1) 0)) (read_keeps s r id c here n few),
        (ap (λ (k : ℕ). after_read c k w ∷ []) (less-one n), refl, subst (λ (k : ℕ). IsKnownPosted c k w) (less-one n) (known_posted s r id c here n few)),
      )
