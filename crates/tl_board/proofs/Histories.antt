-- One seat stands for all callers. What the rule says of them is the history of their board.
use Rattle.std.proofs.Common.{◌≡◌, ℕ, ◌+◌, ◌<◌, ◌≤◌, ◌⊎◌, inl, inr, min, ⊎_elim, Bool, true, false, cond, List, [], ◌∷◌, length, map, drop, get_or, refl, sym, ap, ◌∙◌, subst, arith}
use mathlib.Core.Option.{some}
use lib.ListN.{get_elem?}
use Rattle.std.specs.Prelude.{Option, Some, None, ◌≢◌, ◌==◌, ◌||◌, ◌&&◌, nat_lt, ◌↔◌, sum_by, flat_map, All, is_some, filter, not, nat_le, MatchOption}
use Rattle.std.specs.List.{list_any, list_all}
use Rattle.std.proofs.lemmas.Bool.{and_from, eq-eqb, lt-ltb, le-leb, or_left, or_right, cases_lt, true≢false}
use Rattle.std.proofs.lemmas.List.{get_or-drop, get_or_past, get_or_default, length-drop}
use Rattle.std.proofs.lemmas.List.Sums.{list_all-from_AllPass, get_or-le-sum_by}
use Rattle.tl_lists.specs.Lists.{upto}
use Rattle.atomic_table.specs.Table.{State}
use Rattle.tl_board.specs.declared.views.CallerView.{CallerView}
use Rattle.tl_board.specs.Board.{is_member, is_past, last_is_seen, IsLawfulHistory, AreOfOneBoard}
use Rattle.tl_board.specs.Hands.{Hands, hit, times, total, pasts, unposted, Fits}
use Rattle.tl_board.specs.Rule.{Stage, word_of, posts_of, takes_of, below, Keeps}
use Rattle.tl_board.specs.Rule.Stage.{Blank, Claimed, Posted, Taking, Taken}
use Rattle.tl_board.proofs.Totals.{total_all, member-false, member-true, times-member, times-none}
use Rattle.tl_board.proofs.Moves.{below-true, below-false}
use Rattle.tl_board.proofs.Counts.{ones, times-flat_map, times-map, times-upto, same_elements, distinct_from, all_members, any_counted}

-- what a stage's word says of its posts and takes
word-small : (st : Stage) → word_of st ≤ 3
word-small Blank = omega arith
word-small Claimed = omega arith
word-small Posted = omega arith
word-small Taking = omega arith
word-small Taken = omega arith

no_post : (st : Stage) → word_of st ≡ 0 → posts_of st ≡ 0
no_post Blank e = refl
no_post Claimed e = refl
no_post Posted e = absurd (omega (arith, e))
no_post Taking e = absurd (omega (arith, e))
no_post Taken e = absurd (omega (arith, e))

no_word : (st : Stage) → posts_of st ≡ 0 → word_of st ≡ 0
no_word Blank e = refl
no_word Claimed e = refl
no_word Posted e = absurd (omega (arith, e))
no_word Taking e = absurd (omega (arith, e))
no_word Taken e = absurd (omega (arith, e))

take_word : (st : Stage) → 0 < takes_of st → (word_of st ≡ 2) ⊎ (word_of st ≡ 3)
take_word Blank e = absurd (omega (arith, e))
take_word Claimed e = absurd (omega (arith, e))
take_word Posted e = absurd (omega (arith, e))
take_word Taking e = inl refl
take_word Taken e = inr refl

word_take : (st : Stage) → 2 ≤ word_of st → 0 < takes_of st
word_take Blank e = absurd (omega (arith, e))
word_take Claimed e = absurd (omega (arith, e))
word_take Posted e = absurd (omega (arith, e))
word_take Taking e = omega arith
word_take Taken e = omega arith

posts_one : (st : Stage) → posts_of st ≤ 1
posts_one Blank = omega arith
posts_one Claimed = omega arith
posts_one Posted = omega arith
posts_one Taking = omega arith
posts_one Taken = omega arith

takes_one : (st : Stage) → takes_of st ≤ 1
takes_one Blank = omega arith
takes_one Claimed = omega arith
takes_one Posted = omega arith
takes_one Taking = omega arith
takes_one Taken = omega arith

pub all_pass : {A : Type 0} (p : A → Bool) (Q : A → Type 0) (xs : List A) → All Q xs → ((x : A) → Q x → p x ≡ true) → list_all p xs ≡ true
all_pass p Q xs all each = list_all-from_AllPass p xs (λ k d near. each (get_or xs k d) (all k d near))

-- where none is left unposted, all that a caller drew is posted
pub none_left : (posted drawn : List ℕ) → filter (λ n. not (is_member posted n)) drawn ≡ [] → list_all (is_member posted) drawn ≡ true
none_left posted [] e = refl
none_left posted (x ∷ xs) e = by_test (is_member posted x) refl e (none_left posted xs)
  where
    by_test : (b : Bool) → is_member posted x ≡ b → cond (not b) (x ∷ filter (λ n. not (is_member posted n)) xs) (filter (λ n. not (is_member posted n)) xs) ≡ []
        → (filter (λ n. not (is_member posted n)) xs ≡ [] → list_all (is_member posted) xs ≡ true) → list_all (is_member posted) (x ∷ xs) ≡ true
    by_test true h f later = and_from (is_member posted x) (list_all (is_member posted) xs) h (later f)
    by_test false h f later = cc f

last_fits : (seen : List ℕ) (last : Option (ℕ × ℕ)) → MatchOption last (Unit {0}) (λ l. l.1 ≢ 0 → 0 < times l.0 seen) → last_is_seen seen last ≡ true
last_fits seen None h = refl
last_fits seen (Some l) h = by_test (l.1 == 0) refl
  where
    by_test : (b : Bool) → (l.1 == 0) ≡ b → ((l.1 == 0) || is_member seen l.0) ≡ true
    by_test true e = or_left (l.1 == 0) (is_member seen l.0) e
    by_test false e = or_right (l.1 == 0) (is_member seen l.0) (member-true l.0 seen (h (λ zero_word. true≢false (sym (eq-eqb l.1 0 zero_word) ∙ e))))

module _ {J : Type 0} where
  pub all_posted : (hs : Hands J) → All (λ c. unposted c ≡ []) hs → list_all (λ c. list_all (is_member c.posted) c.drawn) hs ≡ true
  all_posted hs all = all_pass (λ c. list_all (is_member c.posted) c.drawn) (λ c. unposted c ≡ []) hs all (λ c e. none_left c.posted c.drawn e)

module _ {P J : Type 0} (job_of : P → J) (filled_for : P → ℕ → Type 0) (job : J) (count callers : ℕ) where
  module _ (s : State (Option P) (Hands J)) (r : Keeps job_of filled_for job count callers s) (id : ℕ) (hs : Hands J) (at : get_elem? s.views id ≡ some hs) (whole : length hs ≡ callers) where
    abbrev words : List ℕ
    words = drop 1 s.words

    abbrev counter : ℕ
    counter = get_or s.words 0 0

    pub fits : All (Fits job count callers) hs
    fits = r.each_fits id hs at

    pub summed : (f : CallerView (Option J) → ℕ) → total f s.views ≡ sum_by f hs
    summed f = total_all f s.views id hs at (r.callers_told ∙ (sym whole ∙ sym (ones hs)))

    -- how often a number stands in the lists of all callers
    pub told : (f : CallerView (Option J) → List ℕ) (n : ℕ) → times n (flat_map f hs) ≡ total (λ c. times n (f c)) s.views
    told f n = times-flat_map f n hs ∙ sym (summed (λ c. times n (f c)))

    word-at : (n : ℕ) → n < count → get_or words n 0 ≡ word_of (r.stage n)
    word-at n near = get_or-drop 1 s.words n 0 ∙ (ap (λ (k : ℕ). get_or s.words k 0) (one_more n) ∙ (r.numbers n near).word_is)
      where
        one_more : (n : ℕ) → 1 + n ≡ n + 1
        one_more n = omega arith

    words-long : length words ≡ count
    words-long = let e = length-drop 1 s.words in omega (arith, e, r.word_count)

    word-past : (n : ℕ) → count ≤ n → get_or words n 0 ≡ 0
    word-past n far = get_or_past words n 0 (omega (arith, far, words-long))

    drawn-told : (n : ℕ) → times n (upto (min counter count)) ≡ times n (flat_map (λ c. c.drawn) hs)
    drawn-told n = times-upto n (min counter count) ∙ sym (told (λ c. c.drawn) n ∙ ⊎_elim (λ near. (r.numbers n near).draws ∙ ((r.numbers n near).drawn_below ∙ nearer n counter count near)) (λ far. (r.beyond n far).0 ∙ sym (below-false n (min counter count) (omega (arith, far)))) (cases_lt n count))
      where
        nearer : (n k count : ℕ) → n < count → below n k ≡ below n (min k count)
        nearer n k count near = ⊎_elim (λ lt. below-true n k lt ∙ sym (below-true n (min k count) (omega (arith, lt, near)))) (λ ge. below-false n k ge ∙ sym (below-false n (min k count) (omega (arith, ge)))) (cases_lt n k)

    posts-few : (n : ℕ) → sum_by (λ c. times n c.posted) hs ≤ 1
    posts-few n = let e = summed (λ c. times n c.posted) in ⊎_elim (λ near. let p = (r.numbers n near).posts in let one = posts_one (r.stage n) in omega (arith, e, p, one)) (λ far. let z = (r.beyond n far).1 in omega (arith, e, z)) (cases_lt n count)

    takes-few : (n : ℕ) → times n (flat_map (λ c. c.taken) hs) ≤ 1
    takes-few n = let e = told (λ c. c.taken) n in ⊎_elim (λ near. let p = (r.numbers n near).takes in let one = takes_one (r.stage n) in omega (arith, e, p, one)) (λ far. let z = (r.beyond n far).2 in omega (arith, e, z)) (cases_lt n count)

    untaken-beyond : (n : ℕ) → count ≤ n → is_member (flat_map (λ c. c.taken) hs) n ≡ false
    untaken-beyond n far = member-false n (flat_map (λ c. c.taken) hs) (told (λ c. c.taken) n ∙ (r.beyond n far).2)

    taken-told : (n : ℕ) → (is_member (flat_map (λ c. c.taken) hs) n ≡ true) ↔ ((get_or words n 0 ≡ 2) ⊎ (get_or words n 0 ≡ 3))
    taken-told n = ⊎_elim (λ near. let w = word-at n near in let e = told (λ c. c.taken) n ∙ (r.numbers n near).takes in (
      (λ m. ⊎_elim (λ two. inl (w ∙ two)) (λ three. inr (w ∙ three)) (take_word (r.stage n) (let h = times-member n (flat_map (λ c. c.taken) hs) m in omega (arith, h, e)))),
      λ h. member-true n (flat_map (λ c. c.taken) hs) (let t = word_take (r.stage n) (⊎_elim (λ two. omega (arith, w, two)) (λ three. omega (arith, w, three)) h) in omega (arith, t, e)),
    ))
        (λ far. ((λ m. absurd (true≢false (sym m ∙ untaken-beyond n far))), λ h. absurd (let w = word-past n far in ⊎_elim (λ two. omega (arith, w, two)) (λ three. omega (arith, w, three)) h)))
        (cases_lt n count)

    pub passed : list_any (λ c. is_some c.past) hs ≡ true → count ≤ counter
    passed e = let some_past = any_counted (λ c. is_some c.past) hs e in r.counter_high (subst (λ (k : ℕ). 0 < k) (sym (summed pasts)) some_past)

    pub is_lawful : IsLawfulHistory hs count counter words
    is_lawful = record {
      word_count = words-long;
      words_known = list_all-from_AllPass (λ w. nat_le w 3) words (λ k d near. le-leb (get_or words k d) 3 (let e = get_or_default words k d 0 near in let w = word-at k (omega (arith, near, words-long)) in let small = word-small (r.stage k) in omega (arith, e, w, small)));
      views_fit = all_pass _ (Fits job count callers) hs fits (λ c f. and_from ((c.count == count) && nat_lt c.index c.callers) (is_past count c.past) (and_from (c.count == count) (nat_lt c.index c.callers) (eq-eqb c.count count f.of_count) (lt-ltb c.index c.callers (omega (arith, f.index_below, f.of_callers)))) f.past_it);
      draws = same_elements (upto (min counter count)) (flat_map (λ c. c.drawn) hs) drawn-told;
      posts_drawn = all_pass _ (Fits job count callers) hs fits (λ c f. all_members (is_member c.drawn) c.posted (λ n m. member-true n c.drawn (let h = times-member n c.posted m in let le = f.posts_drawn n in omega (arith, h, le))));
      posts_once = list_all-from_AllPass _ hs (λ k d near. distinct_from (get_or hs k d).posted (λ n. let le = get_or-le-sum_by (λ c. times n c.posted) hs k d near in let few = posts-few n in omega (arith, le, few)));
      posted = λ n near. let w = word-at n near in let e = told (λ c. c.posted) n ∙ (r.numbers n near).posts in
          ((λ h. member-false n (flat_map (λ c. c.posted) hs) (e ∙ no_post (r.stage n) (sym w ∙ h))), λ h. w ∙ no_word (r.stage n) (sym e ∙ times-none n (flat_map (λ c. c.posted) hs) h));
      takes_once = distinct_from (flat_map (λ c. c.taken) hs) takes-few;
      taken = taken-told;
      seen = λ n m h. ⊎_elim (λ near. let some_seen = (r.numbers n near).sees (subst (λ (k : ℕ). 0 < k) (told (λ c. c.seen) n) (times-member n (flat_map (λ c. c.seen) hs) m)) in let w = word-at n near in omega (arith, some_seen, w, h))
          (λ far. let some_seen = times-member n (flat_map (λ c. c.seen) hs) m in let z = told (λ c. c.seen) n ∙ (r.beyond n far).3 in omega (arith, some_seen, z)) (cases_lt n count);
      past = λ e. let few = passed e in omega (arith, few);
    }

    pub is_one_board : AreOfOneBoard (Some job) hs
    is_one_board = record {
      one_job = λ k d near. (fits k d near).of_job;
      all_callers = all_pass _ (Fits job count callers) hs fits (λ c f. eq-eqb c.callers (length hs) (f.of_callers ∙ sym whole));
      indexes_once = distinct_from (map (λ c. c.index) hs) (λ n. let e = times-map (λ c. c.index) n hs in let same = summed (λ c. hit c.index n) in let once = r.index_once n in omega (arith, e, same, once));
      lasts_seen = all_pass _ (Fits job count callers) hs fits (λ c f. last_fits c.seen c.last f.last_seen);
    }
