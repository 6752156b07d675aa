-- The counter is raised by one, and a number is drawn.
use Rattle.std.proofs.Common.{◌≡◌, ◌≢◌, ℕ, ◌+◌, ◌^◌, ◌%◌, ◌<◌, ◌≤◌, ⊎_elim, false, cond, List, [], ◌∷◌, length, set, get_or, refl, sym, ap, ◌∙◌, subst, arith, length-set, get_or-set_other, get_or-set_same}
use mathlib.Core.Option.{none, some}
use lib.ListN.{get_elem?}
use Rattle.std.specs.Prelude.{Option, Some, None, sum_by, is_some, MatchBool}
use Rattle.std.proofs.Math.Nat.{mod-eq_of_lt}
use Rattle.std.proofs.lemmas.Bool.{lt-ltb, le-ltb, le-leb, cases_lt}
use Rattle.atomic_table.specs.Table.{State, Me, keeps, takes, Allows}
use Rattle.atomic_table.proofs.Lists.{set_here, set_else}
use Rattle.tl_board.specs.declared.views.CallerView.{CallerView}
use Rattle.tl_board.specs.Hands.{Hands, hand, times, pasts, Fits}
use Rattle.tl_board.specs.Steps.{Draws, DrawsBelow, DrawsPast, after_draw, after_past}
use Rattle.tl_board.specs.Board.{is_member}
use Rattle.tl_board.specs.Rule.{word_of, draws_of, posts_of, takes_of, IsSlotOf, IsAt, below, Keeps}
use Rattle.tl_board.specs.Rule.Stage.{Blank, Claimed}
use Rattle.tl_board.proofs.Totals.{total_same, total_more, total_at, sum_le, times-same, times-more, times-other, hand-alone, member-false}
use Rattle.tl_board.proofs.Moves.{ToldAlike, told_alike, untold_alike, at_stays, at_moved, moved, keeps_from, fits_here, below-true, below-false, is_blank, pasts_one}

-- raising the counter past a number tells of that number alone
below-next : (m n : ℕ) → m ≢ n → below m (n + 1) ≡ below m n
below-next m n ne = ⊎_elim (λ lt. below-true m (n + 1) (omega (arith, lt)) ∙ sym (below-true m n lt)) (λ ge. let other : m ≢ n = ne in below-false m (n + 1) (omega (arith, ge, other)) ∙ sym (below-false m n ge)) (cases_lt m n)

module _ {P J : Type 0} (job_of : P → J) (filled_for : P → ℕ → Type 0) (job : J) (count callers : ℕ) where
  abbrev Rule : State (Option P) (Hands J) → Type 0
  Rule = Keeps job_of filled_for job count callers

  module _ (s : State (Option P) (Hands J)) (r : Rule s) (id : ℕ) (c : CallerView (Option J)) (at : get_elem? s.views id ≡ some (c ∷ [])) where
    abbrev n : ℕ
    n = get_or s.words 0 0

    abbrev draw_fits : Fits job count callers (after_draw c n)
    draw_fits = let f = fits_here job_of filled_for job count callers s r id c at in record {
      of_job = f.of_job;
      of_count = f.of_count;
      of_callers = f.of_callers;
      index_below = f.index_below;
      past_it = f.past_it;
      posts_drawn = λ m. let more = times-more m c.drawn n in let few = f.posts_drawn m in omega (arith, more, few);
      last_seen = f.last_seen;
    }

    abbrev views' : List (Hands J)
    views' = set s.views id (after_draw c n ∷ [])

    other_told : (m : ℕ) → m ≢ n → ToldAlike m s.views views'
    other_told m ne = told_alike m s.views id c (after_draw c n) at (times-other m c.drawn n (λ e. ne (sym e))) refl refl refl

    -- the number drawn had its blank at home
    blank_here : n < count → r.stage n ≡ Blank
    blank_here few = is_blank (r.stage n) ((r.numbers n few).drawn_below ∙ below-false n n (omega arith))

    drawn_at : n < count → IsAt job_of filled_for job n (n + 1) (get_or s.words (n + 1) 0) (get_elem? (set s.homes n none) n) views' Claimed
    drawn_at few = let is = r.numbers n few in let b = blank_here few in record {
      word_is = is.word_is ∙ ap word_of b;
      drawn_below = sym (below-true n (n + 1) (omega arith));
      draws = let e = total_more (λ x. times n x.drawn) s.views id c (after_draw c n) at (times-same c.drawn n) in let d = is.draws ∙ ap draws_of b in omega (arith, e, d);
      posts = total_same (λ x. times n x.posted) s.views id c (after_draw c n) at refl ∙ (is.posts ∙ ap posts_of b);
      takes = total_same (λ x. times n x.taken) s.views id c (after_draw c n) at refl ∙ (is.takes ∙ ap takes_of b);
      sees = λ some_seen. let e = total_same (λ x. times n x.seen) s.views id c (after_draw c n) at refl in let w = ap word_of b in let z = is.sees (subst (λ (k : ℕ). 0 < k) e some_seen) in subst (λ (k : ℕ). 0 < k) w z;
      slot_is = set_here s.homes n none (omega (arith, r.slot_count, few));
    }

    draws_below : n < count → (p : P) × (get_elem? s.homes n ≡ some (some (Some p))) × (job_of p ≡ job) × Rule record { words = set s.words 0 (n + 1); homes = set s.homes n none; views = views' }
    draws_below few = let is = r.numbers n few in let slot = subst (IsSlotOf job_of filled_for job n (get_elem? s.homes n)) (blank_here few) is.slot_is in
        let k : get_or (set s.words 0 (n + 1)) 0 0 ≡ n + 1 = get_or-set_same s.words 0 (n + 1) 0 (omega (arith, r.word_count)) in (
          slot.0,
          slot.1,
          slot.2,
          keeps_from job_of filled_for job count callers s r id c at (after_draw c n) (set s.words 0 (n + 1)) (set s.homes n none) (moved r.stage n Claimed) draw_fits refl (length-set s.words 0 (n + 1)) (length-set s.homes n none)
              (let e = total_same pasts s.views id c (after_draw c n) at refl in omega (arith, k, e, few))
              (λ some_past. let e = total_same pasts s.views id c (after_draw c n) at refl in let h = r.counter_high (subst (λ (x : ℕ). 0 < x) e some_past) in omega (arith, k, h))
              (λ m near. at_moved (λ (q : ℕ) st. IsAt job_of filled_for job q (get_or (set s.words 0 (n + 1)) 0 0) (get_or (set s.words 0 (n + 1)) (q + 1) 0) (get_elem? (set s.homes n none) q) views' st) r.stage n Claimed
              (subst (λ (x : ℕ). IsAt job_of filled_for job n x (get_or (set s.words 0 (n + 1)) (n + 1) 0) (get_elem? (set s.homes n none) n) views' Claimed) (sym k)
              (subst (λ (x : ℕ). IsAt job_of filled_for job n (n + 1) x (get_elem? (set s.homes n none) n) views' Claimed) (sym (get_or-set_other s.words 0 (n + 1) (n + 1) 0 (λ e. omega arith))) (drawn_at few)))
              m (λ ne. at_stays job_of filled_for job m n (get_or (set s.words 0 (n + 1)) 0 0) (get_or s.words (m + 1) 0) (get_or (set s.words 0 (n + 1)) (m + 1) 0) (get_elem? s.homes m) (get_elem? (set s.homes n none) m) s.views views' (r.stage m)
              (ap (below m) k ∙ below-next m n ne) (get_or-set_other s.words 0 (m + 1) (n + 1) 0 (λ e. omega arith)) (set_else s.homes n m none ne) (other_told m ne) (r.numbers m near)))
              (λ m far. untold_alike m s.views views' (other_told m (λ e. omega (arith, e, few, far))) (r.beyond m far)),
        )

    abbrev past_fits : count ≤ n → Fits job count callers (after_past c n)
    past_fits far = let f = fits_here job_of filled_for job count callers s r id c at in record {
      of_job = f.of_job;
      of_count = f.of_count;
      of_callers = f.of_callers;
      index_below = f.index_below;
      past_it = le-leb count n far;
      posts_drawn = f.posts_drawn;
      last_seen = f.last_seen;
    }

    -- The number drawn is past the last one. The counter may grow by one for each caller that has no past.
    draws_past : c.past ≡ None → count ≤ n → Rule record { words = set s.words 0 (n + 1); homes = s.homes; views = set s.views id (after_past c n ∷ []) }
    draws_past first far = let same : (m : ℕ) → ToldAlike m s.views (set s.views id (after_past c n ∷ [])) = λ m. told_alike m s.views id c (after_past c n) at refl refl refl refl in
        let k : get_or (set s.words 0 (n + 1)) 0 0 ≡ n + 1 = get_or-set_same s.words 0 (n + 1) 0 (omega (arith, r.word_count)) in
        let e = total_more pasts s.views id c (after_past c n) at (sym (ap (λ p. cond (is_some p) 1 0 + 1) first)) in
        keeps_from job_of filled_for job count callers s r id c at (after_past c n) (set s.words 0 (n + 1)) s.homes r.stage (past_fits far) refl (length-set s.words 0 (n + 1)) refl
        (let low = r.counter_low in omega (arith, k, e, low))
        (λ _. omega (arith, k, far))
        (λ m near. at_stays job_of filled_for job m n (get_or (set s.words 0 (n + 1)) 0 0) (get_or s.words (m + 1) 0) (get_or (set s.words 0 (n + 1)) (m + 1) 0) (get_elem? s.homes m) (get_elem? s.homes m) s.views (set s.views id (after_past c n ∷ [])) (r.stage m)
        (ap (below m) k ∙ below-next m n (λ x. omega (arith, x, far, near))) (get_or-set_other s.words 0 (m + 1) (n + 1) 0 (λ x. omega arith)) refl (same m) (r.numbers m near))
        (λ m beyond. untold_alike m s.views (set s.views id (after_past c n ∷ [])) (same m) (r.beyond m beyond))

    -- each caller passes the last number once at most, so that the counter stays small
    counter_small : n ≤ count + callers
    counter_small = let a = sum_le (λ hs. sum_by pasts hs) (λ hs. sum_by (λ _. 1) hs) s.views (λ i hs _. sum_le pasts (λ _. 1) hs (λ j d _. pasts_one d)) in let low = r.counter_low in let told = r.callers_told in omega (arith, a, low, told)

    undrawn : n < count → is_member c.drawn n ≡ false
    undrawn few = member-false n c.drawn (let is = r.numbers n few in let b = is.draws ∙ ap draws_of (blank_here few) in let a = total_at (λ x. times n x.drawn) s.views id c at in omega (arith, a, b))

    unposted_yet : n < count → is_member c.posted n ≡ false
    unposted_yet few = member-false n c.posted (let is = r.numbers n few in let b = is.posts ∙ ap posts_of (blank_here few) in let a = total_at (λ x. times n x.posted) s.views id c at in omega (arith, a, b))

  -- what the step of the counter keeps and tells
  pub draws : (slots id : ℕ) (me : Me (Option P) (Hands J)) → length me.0 ≡ 1 → (hand me.0).past ≡ None → count + callers < 2 ^ 32
      → Allows Rule slots id me 0 (λ k. (k + 1) % 2 ^ 64) (Draws job_of me)
  draws slots id me alone first small s r wide at _ =
      let c : CallerView (Option J) = hand me.0 in let here : get_elem? s.views id ≡ some (c ∷ []) = at ∙ ap some (hand-alone me.0 alone) in let k : ℕ = get_or s.words 0 0 in
      let f = fits_here job_of filled_for job count callers s r id c here in
      let grown : (k + 1) % 2 ^ 64 ≡ k + 1 = mod-eq_of_lt (let b = counter_small s r id c here in omega (arith, b, small)) in
      ⊎_elim (λ few. let d = draws_below s r id c here few in (
        after_draw c k ∷ [],
        takes k (Some d.0),
        d.1,
        subst (λ (x : ℕ). Rule record { words = set s.words 0 x; homes = set s.homes k none; views = set s.views id (after_draw c k ∷ []) }) (sym grown) d.3,
        subst (λ b. MatchBool b (DrawsBelow job_of me k (after_draw c k ∷ [], (k, Some d.0) ∷ me.1)) (DrawsPast job_of me k (after_draw c k ∷ [], (k, Some d.0) ∷ me.1))) (sym (lt-ltb k c.count (omega (arith, few, f.of_count))))
            (refl, undrawn s r id c here few, unposted_yet s r id c here few, (d.0, refl, ap Some d.2 ∙ sym f.of_job)),
      ))
      (λ far. (
        after_past c k ∷ [],
        keeps,
        tt,
        subst (λ (x : ℕ). Rule record { words = set s.words 0 x; homes = s.homes; views = set s.views id (after_past c k ∷ []) }) (sym grown) (draws_past s r id c here first far),
        subst (λ b. MatchBool b (DrawsBelow job_of me k (after_past c k ∷ [], me.1)) (DrawsPast job_of me k (after_past c k ∷ [], me.1))) (sym (le-ltb k c.count (omega (arith, far, f.of_count)))) (refl, refl),
      ))
      (cases_lt k count)

module _ {P J : Type 0} (job_of : P → J) where
  pub drew_below : (m : Me (Option P) (Hands J)) (n : ℕ) (m' : Me (Option P) (Hands J)) → n < (hand m.0).count → Draws job_of m n m' → DrawsBelow job_of m n m'
  drew_below m n m' few d = subst (λ b. MatchBool b (DrawsBelow job_of m n m') (DrawsPast job_of m n m')) (lt-ltb n (hand m.0).count few) d

  pub drew_past : (m : Me (Option P) (Hands J)) (n : ℕ) (m' : Me (Option P) (Hands J)) → (hand m.0).count ≤ n → Draws job_of m n m' → DrawsPast job_of m n m'
  drew_past m n m' far d = subst (λ b. MatchBool b (DrawsBelow job_of m n m') (DrawsPast job_of m n m')) (le-ltb n (hand m.0).count far) d

pub no_past : (p : Option ℕ) → is_some p ≡ false → p ≡ None
no_past None e = refl
no_past (Some n) e = cc e
