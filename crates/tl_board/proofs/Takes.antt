-- A posted number is taken: its slot goes out, and comes back empty.
use Rattle.std.proofs.Common.{◌≡◌, ◌≢◌, ℕ, ◌+◌, ◌-◌, ◌<◌, true, List, [], ◌∷◌, length, set, get_or, refl, sym, ap, ◌∙◌, subst, arith, length-set, get_or-set_other, get_or-set_same, eq-eqb, ne_eqb}
use mathlib.Core.Option.{none, some}
use mathlib.Core.Option as maybe
use mathlib.Core.Logic.{dite}
use native.Mathlib.Decide.{ℕ_discrete}
use lib.ListN.{get_elem?}
use prog.Atomic.{either}
use Rattle.std.specs.Prelude.{Option, Some, None, ◌==◌, ◌&&◌, not, MatchBool}
use Rattle.std.proofs.lemmas.List.{set-get_or}
use Rattle.atomic_table.specs.Table.{State, Me, keeps, takes, gives, stepped, rest, Allows}
use Rattle.atomic_table.proofs.Lists.{set_here, set_else, set_again}
use Rattle.tl_board.specs.declared.views.CallerView.{CallerView}
use Rattle.tl_board.specs.Hands.{Hands, hand, times, pasts, Fits}
use Rattle.tl_board.specs.Board.{is_member}
use Rattle.tl_board.specs.Rule.{Stage, word_of, draws_of, posts_of, takes_of, IsSlotOf, IsAt, Content, below, Keeps}
use Rattle.tl_board.specs.Rule.Stage.{Blank, Claimed, Posted, Taking, Taken}
use Rattle.tl_board.proofs.Totals.{total_same, total_more, total_at, total_all, times-same, times-other, hand-alone, member-false, member-true, times-member, less-one, set_set, at_below}
use Rattle.tl_board.proofs.Moves.{ToldAlike, told_alike, untold_alike, at_stays, at_moved, moved, keeps_from, fits_here}
use Rattle.tl_board.specs.Steps.{Grabs, GrabsNumber, HandsBack, IsKnownPosted, IsToldAlone, after_read, after_take}
use Rattle.tl_board.proofs.Looks.{read_keeps, known_posted}

is_posted : (st : Stage) → word_of st ≡ 1 → st ≡ Posted
is_posted Blank e = absurd (omega (arith, e))
is_posted Claimed e = absurd (omega (arith, e))
is_posted Posted e = refl
is_posted Taking e = absurd (omega (arith, e))
is_posted Taken e = absurd (omega (arith, e))

-- a number that was taken is drawn and posted, and its word is 2 or 3
once_taken : (st : Stage) → 0 < takes_of st → (draws_of st ≡ 1) × (posts_of st ≡ 1) × (takes_of st ≡ 1) × (0 < word_of st)
once_taken Blank h = absurd (omega (arith, h))
once_taken Claimed h = absurd (omega (arith, h))
once_taken Posted h = absurd (omega (arith, h))
once_taken Taking h = (refl, refl, refl, omega arith)
once_taken Taken h = (refl, refl, refl, omega arith)

module _ {P J : Type 0} (job_of : P → J) (filled_for : P → ℕ → Type 0) (job : J) (count callers : ℕ) where
  abbrev Rule : State (Option P) (Hands J) → Type 0
  Rule = Keeps job_of filled_for job count callers

  abbrev At : ℕ → ℕ → ℕ → Content P → List (Hands J) → Stage → Type 0
  At = IsAt job_of filled_for job

  module _ (s : State (Option P) (Hands J)) (r : Rule s) (id : ℕ) (c : CallerView (Option J)) (at : get_elem? s.views id ≡ some (c ∷ [])) (n : ℕ) (few : n < count) where
    abbrev w : ℕ
    w = get_or s.words (n + 1) 0

    module _ (one : w ≡ 1) where
      posted : r.stage n ≡ Posted
      posted = is_posted (r.stage n) (sym (r.numbers n few).word_is ∙ one)

      abbrev views' : List (Hands J)
      views' = set s.views id (after_take c n ∷ [])

      abbrev words' : List ℕ
      words' = set s.words (n + 1) 2

      abbrev homes' : List (maybe.Option (Option P))
      homes' = set s.homes n none

      other_told : (m : ℕ) → m ≢ n → ToldAlike m s.views views'
      other_told m ne = told_alike m s.views id c (after_take c n) at refl refl (times-other m c.taken n (λ e. ne (sym e))) refl

      take_fits : Fits job count callers (after_take c n)
      take_fits = let f = fits_here job_of filled_for job count callers s r id c at in record {
        of_job = f.of_job;
        of_count = f.of_count;
        of_callers = f.of_callers;
        index_below = f.index_below;
        past_it = f.past_it;
        posts_drawn = f.posts_drawn;
        last_seen = f.last_seen;
      }

      first_word : get_or words' 0 0 ≡ get_or s.words 0 0
      first_word = get_or-set_other s.words (n + 1) 0 2 0 (λ e. omega arith)

      taking_at : At n (get_or words' 0 0) (get_or words' (n + 1) 0) (get_elem? homes' n) views' Taking
      taking_at = let is = r.numbers n few in record {
        word_is = get_or-set_same s.words (n + 1) 2 0 (omega (arith, r.word_count, few));
        drawn_below = ap draws_of (sym posted) ∙ (is.drawn_below ∙ ap (below n) (sym first_word));
        draws = total_same (λ x. times n x.drawn) s.views id c (after_take c n) at refl ∙ (is.draws ∙ ap draws_of posted);
        posts = total_same (λ x. times n x.posted) s.views id c (after_take c n) at refl ∙ (is.posts ∙ ap posts_of posted);
        takes = let e = total_more (λ x. times n x.taken) s.views id c (after_take c n) at (times-same c.taken n) in let q = is.takes ∙ ap takes_of posted in omega (arith, e, q);
        sees = λ _. omega arith;
        slot_is = set_here s.homes n none (omega (arith, r.slot_count, few));
      }

      -- the piece that the slot has
      piece_here : (p : P) × (get_elem? s.homes n ≡ some (some (Some p))) × (job_of p ≡ job) × filled_for p n
      piece_here = subst (IsSlotOf job_of filled_for job n (get_elem? s.homes n)) posted (r.numbers n few).slot_is

      take_keeps : Rule record { words = words'; homes = homes'; views = views' }
      take_keeps = let e = total_same pasts s.views id c (after_take c n) at refl in
          keeps_from job_of filled_for job count callers s r id c at (after_take c n) words' homes' (moved r.stage n Taking) take_fits refl (length-set s.words (n + 1) 2) (length-set s.homes n none)
          (let low = r.counter_low in omega (arith, e, low, first_word))
          (λ some_past. let h = r.counter_high (subst (λ (x : ℕ). 0 < x) e some_past) in omega (arith, first_word, h))
          (λ m near. at_moved (λ (q : ℕ) st. At q (get_or words' 0 0) (get_or words' (q + 1) 0) (get_elem? homes' q) views' st) r.stage n Taking taking_at m
          (λ ne. at_stays job_of filled_for job m (get_or s.words 0 0) (get_or words' 0 0) (get_or s.words (m + 1) 0) (get_or words' (m + 1) 0) (get_elem? s.homes m) (get_elem? homes' m) s.views views' (r.stage m)
          (ap (below m) first_word) (get_or-set_other s.words (n + 1) (m + 1) 2 0 (λ x. let other : m ≢ n = ne in omega (arith, x, other))) (set_else s.homes n m none ne) (other_told m ne) (r.numbers m near)))
          (λ m far. untold_alike m s.views views' (other_told m (λ x. omega (arith, x, few, far))) (r.beyond m far))

    -- Where the board has one caller, the stage is what that caller knows.
    told_alone : IsToldAlone c n w
    told_alone single = let is = r.numbers n few in let f = fits_here job_of filled_for job count callers s r id c at in
        let all = λ (g : CallerView (Option J) → ℕ). total_all g s.views id (c ∷ []) at (r.callers_told ∙ (sym f.of_callers ∙ single)) in
        let posts : times n c.posted ≡ posts_of (r.stage n) = let a = all (λ x. times n x.posted) in let b = is.posts in omega (arith, a, b) in
        let takes : times n c.taken ≡ takes_of (r.stage n) = let a = all (λ x. times n x.taken) in let b = is.takes in omega (arith, a, b) in
        ap (λ (k : ℕ). k == 1) is.word_is ∙ by_stage (r.stage n) posts takes
      where
        by_stage : (st : Stage) → times n c.posted ≡ posts_of st → times n c.taken ≡ takes_of st → (word_of st == 1) ≡ (is_member c.posted n && not (is_member c.taken n))
        by_stage Blank p t = sym (ap (λ b. b && not (is_member c.taken n)) (member-false n c.posted p))
        by_stage Claimed p t = sym (ap (λ b. b && not (is_member c.taken n)) (member-false n c.posted p))
        by_stage Posted p t = sym (ap (λ b. b && not (is_member c.taken n)) (member-true n c.posted (omega (arith, p))) ∙ ap not (member-false n c.taken t))
        by_stage Taking p t = sym (ap (λ b. b && not (is_member c.taken n)) (member-true n c.posted (omega (arith, p))) ∙ ap not (member-true n c.taken (omega (arith, t))))
        by_stage Taken p t = sym (ap (λ b. b && not (is_member c.taken n)) (member-true n c.posted (omega (arith, p))) ∙ ap not (member-true n c.taken (omega (arith, t))))

  -- what the step of a grab keeps and tells
  pub grabs : (slots id : ℕ) (me : Me (Option P) (Hands J)) (n : ℕ) → length me.0 ≡ 1 → n < count → Allows Rule slots id me (n + 1) (λ w. either (w == 1) 2 w) (Grabs job_of filled_for (n + 1) me)
  grabs slots id me n alone few s r wide at _ =
      let c : CallerView (Option J) = hand me.0 in let here : get_elem? s.views id ≡ some (c ∷ []) = at ∙ ap some (hand-alone me.0 alone) in let w : ℕ = get_or s.words (n + 1) 0 in
      let f = fits_here job_of filled_for job count callers s r id c here in
      let d : CallerView (Option J) = after_read c n w in let s' : State (Option P) (Hands J) = record { words = s.words; homes = s.homes; views = set s.views id (d ∷ []) } in
      let r' : Rule s' = read_keeps job_of filled_for job count callers s r id c here n few in
      let here' : get_elem? s'.views id ≡ some (d ∷ []) = set_here s.views id (d ∷ []) (at_below s.views id (c ∷ []) here) in
      let told : IsKnownPosted c (n + 1 - 1) w × IsToldAlone c (n + 1 - 1) w = subst (λ (k : ℕ). IsKnownPosted c k w × IsToldAlone c k w) (less-one n) (known_posted job_of filled_for job count callers s r id c here n few, told_alone s r id c here n few) in
      let G : Hands J × List (ℕ × Option P) → Type 0 = λ m'. Grabs job_of filled_for (n + 1) me w m' in
      dite (ℕ_discrete w 1)
      (λ one. let p = piece_here s' r' id d here' n few one in (
        after_take d n ∷ [],
        takes n (Some p.0),
        p.1,
        subst (λ (x : ℕ). Rule record { words = set s.words (n + 1) x; homes = set s.homes n none; views = set s.views id (after_take d n ∷ []) }) (sym (ap (λ b. either b 2 w) (eq-eqb w 1 one)))
            (subst (λ vs. Rule record { words = set s.words (n + 1) 2; homes = set s.homes n none; views = vs }) (set_set s.views id (d ∷ []) (after_take d n ∷ [])) (take_keeps s' r' id d here' n few one)),
        (
          subst (λ (k : ℕ). GrabsNumber job_of filled_for k me w (after_take d n ∷ [], (n, Some p.0) ∷ me.1)) (less-one n)
              (subst (λ b. MatchBool b ((after_take d n ∷ [] ≡ after_take d n ∷ []) × ((q : P) × ((n, Some p.0) ∷ me.1 ≡ (n, Some q) ∷ me.1) × (Some (job_of q) ≡ c.job) × filled_for q n)) ((after_take d n ∷ [] ≡ d ∷ []) × ((n, Some p.0) ∷ me.1 ≡ me.1)))
              (sym (eq-eqb w 1 one)) (refl, (p.0, refl, ap Some p.2 ∙ sym f.of_job, p.3))),
          told.0,
          told.1,
        ),
      ))
      (λ other. (
        d ∷ [],
        keeps,
        tt,
        subst (λ (x : ℕ). Rule record { words = set s.words (n + 1) x; homes = s.homes; views = set s.views id (d ∷ []) }) (sym (ap (λ b. either b 2 w) (ne_eqb w 1 other)))
            (subst (λ ws. Rule record { words = ws; homes = s.homes; views = set s.views id (d ∷ []) }) (sym (set-get_or s.words (n + 1) 0)) r'),
        (
          subst (λ (k : ℕ). GrabsNumber job_of filled_for k me w (d ∷ [], me.1)) (less-one n)
              (subst (λ b. MatchBool b ((d ∷ [] ≡ after_take d n ∷ []) × ((q : P) × (me.1 ≡ (n, Some q) ∷ me.1) × (Some (job_of q) ≡ c.job) × filled_for q n)) ((d ∷ [] ≡ d ∷ []) × (me.1 ≡ me.1)))
              (sym (ne_eqb w 1 other)) (refl, refl)),
          told.0,
          told.1,
        ),
      ))

  module _ (s : State (Option P) (Hands J)) (r : Rule s) (id : ℕ) (c : CallerView (Option J)) (at : get_elem? s.views id ≡ some (c ∷ [])) (n : ℕ) (few : n < count) (mine : is_member c.taken n ≡ true) where
    abbrev back_words : List ℕ
    back_words = set s.words (n + 1) 3

    abbrev back_homes : List (maybe.Option (Option P))
    back_homes = set s.homes n (some None)

    taken_here : (draws_of (r.stage n) ≡ 1) × (posts_of (r.stage n) ≡ 1) × (takes_of (r.stage n) ≡ 1) × (0 < word_of (r.stage n))
    taken_here = let a = times-member n c.taken mine in let b = total_at (λ x. times n x.taken) s.views id c at in let q = (r.numbers n few).takes in once_taken (r.stage n) (omega (arith, a, b, q))

    back_first : get_or back_words 0 0 ≡ get_or s.words 0 0
    back_first = get_or-set_other s.words (n + 1) 0 3 0 (λ e. omega arith)

    back_at : At n (get_or back_words 0 0) (get_or back_words (n + 1) 0) (get_elem? back_homes n) s.views Taken
    back_at = let is = r.numbers n few in let t = taken_here in record {
      word_is = get_or-set_same s.words (n + 1) 3 0 (omega (arith, r.word_count, few));
      drawn_below = sym t.0 ∙ (is.drawn_below ∙ ap (below n) (sym back_first));
      draws = is.draws ∙ t.0;
      posts = is.posts ∙ t.1;
      takes = is.takes ∙ t.2;
      sees = λ _. omega arith;
      slot_is = set_here s.homes n (some None) (omega (arith, r.slot_count, few));
    }

    back_keeps : Rule record { words = back_words; homes = back_homes; views = s.views }
    back_keeps = record {
      stage = moved r.stage n Taken;
      word_count = length-set s.words (n + 1) 3 ∙ r.word_count;
      slot_count = length-set s.homes n (some None) ∙ r.slot_count;
      each_fits = r.each_fits;
      callers_told = r.callers_told;
      index_once = r.index_once;
      counter_low = let low = r.counter_low in omega (arith, low, back_first);
      counter_high = λ some_past. let h = r.counter_high some_past in omega (arith, back_first, h);
      numbers = λ m near. at_moved (λ (q : ℕ) st. At q (get_or back_words 0 0) (get_or back_words (q + 1) 0) (get_elem? back_homes q) s.views st) r.stage n Taken back_at m
          (λ ne. at_stays job_of filled_for job m (get_or s.words 0 0) (get_or back_words 0 0) (get_or s.words (m + 1) 0) (get_or back_words (m + 1) 0) (get_elem? s.homes m) (get_elem? back_homes m) s.views s.views (r.stage m)
          (ap (below m) back_first) (get_or-set_other s.words (n + 1) (m + 1) 3 0 (λ x. let other : m ≢ n = ne in omega (arith, x, other))) (set_else s.homes n m (some None) ne) (refl, refl, refl, refl) (r.numbers m near));
      beyond = r.beyond;
    }

  -- what the step keeps by which an empty slot comes back
  pub hands_back : (slots id : ℕ) (me : Me (Option P) (Hands J)) (n : ℕ) → length me.0 ≡ 1 → n < count → is_member (hand me.0).taken n ≡ true → me.1 ≡ (n, None) ∷ rest me.1
      → Allows Rule slots id me (n + 1) (λ _. 3) (λ _. HandsBack me)
  hands_back slots id me n alone few mine top s r wide at _ =
      let c : CallerView (Option J) = hand me.0 in let here : get_elem? s.views id ≡ some (c ∷ []) = at ∙ ap some (hand-alone me.0 alone) in (
        me.0,
        gives,
        tt,
        subst (λ (xs : List (ℕ × Option P)). Rule (stepped s (n + 1) 3 id xs me.0 gives)) (sym top)
            (subst (λ vs. Rule record { words = set s.words (n + 1) 3; homes = set s.homes n (some None); views = vs }) (sym (set_again s.views id me.0 at)) (back_keeps s r id c here n few mine)),
        (refl, refl),
      )

module _ {P J : Type 0} (job_of : P → J) (filled_for : P → ℕ → Type 0) where
  -- what a grab tells of a word that was 1
  pub grabbed : (n : ℕ) (m : Me (Option P) (Hands J)) (w : ℕ) (m' : Me (Option P) (Hands J)) → w ≡ 1 → Grabs job_of filled_for (n + 1) m w m'
      → (m'.0 ≡ after_take (after_read (hand m.0) n w) n ∷ []) × ((p : P) × (m'.1 ≡ (n, Some p) ∷ m.1) × (Some (job_of p) ≡ (hand m.0).job) × filled_for p n)
  grabbed n m w m' one told = let g : GrabsNumber job_of filled_for n m w m' = subst (λ k. GrabsNumber job_of filled_for k m w m') (sym (less-one n)) told.0 in
      subst (λ b. MatchBool b ((m'.0 ≡ after_take (after_read (hand m.0) n w) n ∷ []) × ((p : P) × (m'.1 ≡ (n, Some p) ∷ m.1) × (Some (job_of p) ≡ (hand m.0).job) × filled_for p n)) ((m'.0 ≡ after_read (hand m.0) n w ∷ []) × (m'.1 ≡ m.1)))
      (eq-eqb w 1 one) g

  -- what it tells of any other
  pub missed : (n : ℕ) (m : Me (Option P) (Hands J)) (w : ℕ) (m' : Me (Option P) (Hands J)) → w ≢ 1 → Grabs job_of filled_for (n + 1) m w m' → (m'.0 ≡ after_read (hand m.0) n w ∷ []) × (m'.1 ≡ m.1)
  missed n m w m' other told = let g : GrabsNumber job_of filled_for n m w m' = subst (λ k. GrabsNumber job_of filled_for k m w m') (sym (less-one n)) told.0 in
      subst (λ b. MatchBool b ((m'.0 ≡ after_take (after_read (hand m.0) n w) n ∷ []) × ((p : P) × (m'.1 ≡ (n, Some p) ∷ m.1) × (Some (job_of p) ≡ (hand m.0).job) × filled_for p n)) ((m'.0 ≡ after_read (hand m.0) n w ∷ []) × (m'.1 ≡ m.1)))
      (ne_eqb w 1 other) g
