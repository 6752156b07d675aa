-- A board that is opened meets the rule.
use Rattle.std.proofs.Common.{◌≡◌, ℕ, zero, suc, ◌+◌, ◌-◌, ◌<◌, ◌≤◌, false, List, [], ◌∷◌, ◌++◌, length, get_or, refl, sym, ap, ◌∙◌, subst, arith}
use mathlib.Core.Option.{some, some-injective, some-ne-none}
use mathlib.Core.Logic.{dite}
use native.Mathlib.Decide.{ℕ_discrete}
use lib.ListN.{get_elem?}
use Rattle.std.specs.Prelude.{Option, Some, sum_by, All}
use Rattle.tl_board.specs.declared.views.CallerView.{CallerView}
use Rattle.tl_board.specs.Hands.{Hands, hit, times, total, pasts, Fits}
use Rattle.tl_board.specs.Rule.{IsUntold, below, Keeps}
use Rattle.tl_board.specs.Rule.Stage.{Blank}
use Rattle.tl_board.proofs.Totals.{hit-other, hit_one}
use Rattle.tl_board.proofs.Moves.{below-false}
use Rattle.std.specs.Prelude.{map, replicate}
use Rattle.std.specs.List.{range_with_len}
use Rattle.std.proofs.lemmas.List.Sums.{sum_by-cons}
use Rattle.std.proofs.lemmas.List.{length-map, length-replicate, map-append}
use Rattle.tl_lists.proofs.Members.{upto_more}
use Rattle.std.proofs.lemmas.List.Elements.{All-nil, All-cons, All-append}
use Rattle.tl_lists.specs.Lists.{upto}
use Rattle.atomic_table.specs.Table.{opening}
use Rattle.tl_board.specs.Hands.{fresh, fresh_hands, IsCaller}

module _ {J : Type 0} (job : J) (count callers : ℕ) where
  abbrev pub new : ℕ → CallerView (Option J)
  new = fresh (Some job) count callers

  -- what is 0 of each new caller comes to 0
  fresh_none : (f : CallerView (Option J) → ℕ) → ((i : ℕ) → f (new i) ≡ 0) → (a n : ℕ) → sum_by f (map new (range_with_len a n)) ≡ 0
  fresh_none f zeros a zero = refl
  fresh_none f zeros a (suc n) = let e = sum_by-cons f (new a) (map new (range_with_len (a + 1) n)) in let z = zeros a in let rest_zero = fresh_none f zeros (a + 1) n in omega (arith, e, z, rest_zero)

  fresh_ones : (a n : ℕ) → sum_by (λ _. 1) (map new (range_with_len a n)) ≡ n
  fresh_ones a zero = refl
  fresh_ones a (suc n) = let e = sum_by-cons (λ (_ : CallerView (Option J)). 1) (new a) (map new (range_with_len (a + 1) n)) in let more = fresh_ones (a + 1) n in omega (arith, e, more)

  fresh_above : (i a n : ℕ) → i < a → sum_by (λ (c : CallerView (Option J)). hit c.index i) (map new (range_with_len a n)) ≡ 0
  fresh_above i a zero far = refl
  fresh_above i a (suc n) far = let e = sum_by-cons (λ (c : CallerView (Option J)). hit c.index i) (new a) (map new (range_with_len (a + 1) n)) in let h = hit-other a i (λ x. omega (arith, x, far)) in let more = fresh_above i (a + 1) n (omega (arith, far)) in omega (arith, e, h, more)

  fresh_once : (i a n : ℕ) → sum_by (λ (c : CallerView (Option J)). hit c.index i) (map new (range_with_len a n)) ≤ 1
  fresh_once i a zero = omega arith
  fresh_once i a (suc n) = let e = sum_by-cons (λ (c : CallerView (Option J)). hit c.index i) (new a) (map new (range_with_len (a + 1) n)) in dite (ℕ_discrete a i)
      (λ same. let h = hit_one a i in let more = fresh_above i (a + 1) n (omega (arith, same)) in omega (arith, e, h, more))
      (λ ne. let h = hit-other a i ne in let more = fresh_once i (a + 1) n in omega (arith, e, h, more))

  fresh_fits : (i : ℕ) → i < callers → Fits job count callers (new i)
  fresh_fits i near = record { of_job = refl; of_count = refl; of_callers = refl; index_below = near; past_it = refl; posts_drawn = λ n. omega arith; last_seen = tt }

  fresh_all : (a n : ℕ) → a + n ≤ callers → All (Fits job count callers) (map new (range_with_len a n))
  fresh_all a zero near = All-nil (Fits job count callers)
  fresh_all a (suc n) near = All-cons (Fits job count callers) (new a) (map new (range_with_len (a + 1) n)) (fresh_fits a (omega (arith, near))) (fresh_all (a + 1) n (omega (arith, near)))

  abbrev all_new : List (Hands J)
  all_new = fresh_hands job count callers ∷ []

  told_none : (f : CallerView (Option J) → ℕ) → ((i : ℕ) → f (new i) ≡ 0) → total f all_new ≡ 0
  told_none f zeros = let e = fresh_none f zeros 0 callers in omega (arith, e)

  module _ {P : Type 0} (job_of : P → J) (filled_for : P → ℕ → Type 0) where
    blank_at : (ps : List P) → All (λ p. job_of p ≡ job) ps → (n : ℕ) → n < length ps → (p : P) × (get_elem? (map some (map Some ps)) n ≡ some (some (Some p))) × (job_of p ≡ job)
    blank_at [] all n near = absurd (omega (arith, near))
    blank_at (p ∷ ps) all zero near = (p, refl, all 0 p (omega arith))
    blank_at (p ∷ ps) all (suc n) near = blank_at ps (λ i q h. all (suc i) q (omega (arith, h))) n (omega (arith, near))

    pub opens : (words : List ℕ) (ps : List P) → words ≡ replicate (count + 1) 0 → length ps ≡ count → All (λ p. job_of p ≡ job) ps → Keeps job_of filled_for job count callers (opening words (map Some ps) (fresh_hands job count callers))
    opens words ps zeros long all = let none_told : (m : ℕ) → IsUntold m all_new = λ m. (told_none (λ c. times m c.drawn) (λ i. refl), told_none (λ c. times m c.posted) (λ i. refl), told_none (λ c. times m c.taken) (λ i. refl), told_none (λ c. times m c.seen) (λ i. refl)) in
        let word : (i : ℕ) → get_or words i 0 ≡ 0 = λ i. ap (λ (ws : List ℕ). get_or ws i 0) zeros ∙ zero_word (count + 1) i in record {
          stage = λ _. Blank;
          word_count = ap length zeros ∙ length-replicate (count + 1) 0;
          slot_count = length-map (map Some ps) some ∙ (length-map ps Some ∙ long);
          each_fits = λ j hs at. only_fits j hs at;
          callers_told = let e = fresh_ones 0 callers in omega (arith, e);
          index_once = λ i. let e = fresh_once i 0 callers in omega (arith, e);
          counter_low = let w = word 0 in omega (arith, w);
          counter_high = λ some_past. let e = told_none pasts (λ i. refl) in absurd (omega (arith, some_past, e));
          numbers = λ m near. record {
            word_is = word (m + 1);
            drawn_below = sym (ap (below m) (word 0) ∙ below-false m 0 (omega arith));
            draws = (none_told m).0;
            posts = (none_told m).1;
            takes = (none_told m).2;
            sees = λ some_seen. let e = (none_told m).3 in absurd (omega (arith, some_seen, e));
            slot_is = blank_at ps all m (omega (arith, near, long));
          };
          beyond = λ m far. none_told m;
        }
      where
        zero_word : (n i : ℕ) → get_or (replicate {A = ℕ} n 0) i 0 ≡ 0
        zero_word zero i = refl
        zero_word (suc n) zero = refl
        zero_word (suc n) (suc i) = zero_word n i

        only_fits : (j : ℕ) (hs : Hands J) → get_elem? all_new j ≡ some hs → All (Fits job count callers) hs
        only_fits zero hs at = subst (All (Fits job count callers)) (some-injective (fresh_hands job count callers) hs at) (fresh_all 0 callers (omega arith))
        only_fits (suc j) hs at = absurd (some-ne-none hs (sym at))

-- The callers made so far, and those that are remaining.
module _ {J : Type 0} (job : J) (count callers : ℕ) where
  abbrev pub made : ℕ → Hands J
  made n = map (new job count callers) (upto n)

  abbrev pub remaining : ℕ → Hands J
  remaining n = map (new job count callers) (range_with_len n (callers - n))

  pub remaining_more : (n : ℕ) → n < callers → remaining n ≡ new job count callers n ∷ remaining (n + 1)
  remaining_more n near = ap (λ (k : ℕ). map (new job count callers) (range_with_len n k)) (next n callers near)
    where
      next : (n c : ℕ) → n < c → c - n ≡ suc (c - (n + 1))
      next n c h = omega (arith, h)

  pub made_more : (n : ℕ) → made (n + 1) ≡ made n ++ new job count callers n ∷ []
  made_more n = ap (map (new job count callers)) (upto_more n) ∙ map-append (new job count callers) (upto n) (n ∷ [])

  -- a new caller has its own fields right
  pub new_known : (n : ℕ) → IsCaller count false (new job count callers n ∷ [])
  new_known n = record { alone = refl; of_table = refl; done_is = refl; claims_out = omega arith; drawn_below = refl }

  pub last_one : (n : ℕ) → n < callers → callers ≤ n + 1 → remaining n ≡ new job count callers n ∷ []
  last_one n near far = remaining_more n near ∙ ap (λ (k : ℕ). new job count callers n ∷ map (new job count callers) (range_with_len (n + 1) k)) (none_more n callers far)
    where
      none_more : (n c : ℕ) → c ≤ n + 1 → c - (n + 1) ≡ 0
      none_more n c h = omega (arith, h)

-- one more caller, whose view and seat are known
pub views_more : {A B : Type 0} (f : A → B) (xs : List A) (x : A) (y : B) (ys : List A) (zs : List B) → ys ≡ xs ++ x ∷ [] → map f xs ≡ zs → f x ≡ y → map f ys ≡ zs ++ y ∷ []
views_more f xs x y ys zs items so this = ap (map f) items ∙ (map-append f xs (x ∷ []) ∙ (ap (λ vs. vs ++ f x ∷ []) so ∙ ap (λ v. zs ++ v ∷ []) this))

pub all_more : {A : Type 0} (Q : A → Type 0) (xs : List A) (x : A) (ys : List A) → ys ≡ xs ++ x ∷ [] → All Q xs → Q x → All Q ys
all_more Q xs x ys items all this = subst (All Q) (sym items) (All-append Q xs (x ∷ []) all (All-cons Q x [] this (All-nil Q)))
