-- Seats are cut in two and made one. The callers that they stand for stay.
use Rattle.std.proofs.Common.{◌≡◌, ℕ, suc, ◌+◌, ◌<◌, ⊎_elim, List, [], ◌∷◌, ◌++◌, set, get_or, refl, sym, ap, map, append_assoc, ◌∙◌, subst, arith}
use Rattle.std.proofs.lemmas.List.{map-append}
use mathlib.Core.Option.{some}
use lib.ListN.{get_elem?}
use Rattle.std.specs.Prelude.{Option, sum_by, All}
use Rattle.atomic_table.specs.Table.{State}
use Rattle.atomic_table.proofs.Lists.{at_set}
use Rattle.tl_board.specs.declared.views.CallerView.{CallerView}
use Rattle.tl_board.specs.Hands.{Hands, hit, times, total, pasts, Fits}
use Rattle.tl_board.specs.Rule.{Keeps}
use Rattle.tl_board.proofs.Totals.{sum_set}
use Rattle.tl_board.proofs.Moves.{ToldAlike, untold_alike, at_stays}
use Rattle.std.specs.Prelude.{take, drop}
use Rattle.std.proofs.lemmas.List.Sums.{sum_by-append, sum_by-cons, sum_by_push}
use Rattle.std.proofs.lemmas.List.Elements.{All-append, All-nil, All-cons}
use Rattle.atomic_table.proofs.Lists.{at_snoc}
use Rattle.atomic_table.specs.Table.{Splits, Joins}

module _ {J : Type 0} where
  -- whatever is added up over the callers comes to the same
  abbrev Regrouped : List (Hands J) → List (Hands J) → Type 0
  Regrouped views views' = (f : CallerView (Option J) → ℕ) → total f views' ≡ total f views

  cut_sum : (f : CallerView (Option J) → ℕ) (hs : Hands J) → sum_by f (drop 1 hs) + sum_by f (take 1 hs) ≡ sum_by f hs
  cut_sum f [] = refl
  cut_sum f (c ∷ cs) = let e = sum_by-cons f c cs in omega (arith, e)

  cut_regrouped : (views : List (Hands J)) (id : ℕ) (hs : Hands J) → get_elem? views id ≡ some hs → Regrouped views (set views id (drop 1 hs) ++ take 1 hs ∷ [])
  cut_regrouped views id hs at f = let F : Hands J → ℕ = λ v. sum_by f v in let a = sum_by_push F (set views id (drop 1 hs)) (take 1 hs) in let b = sum_set F views id hs (drop 1 hs) at in let e = cut_sum f hs in omega (arith, a, b, e)

  merge_regrouped : (views : List (Hands J)) (id other : ℕ) (hs os : Hands J) → get_elem? views id ≡ some hs → get_elem? (set views id (os ++ hs)) other ≡ some os → Regrouped views (set (set views id (os ++ hs)) other [])
  merge_regrouped views id other hs os at at' f = let F : Hands J → ℕ = λ v. sum_by f v in let a = sum_set F views id hs (os ++ hs) at in let b = sum_set F (set views id (os ++ hs)) other os [] at' in let e = sum_by-append f os hs in omega (arith, a, b, e)

  first_all : (Q : CallerView (Option J) → Type 0) (hs : Hands J) → All Q hs → All Q (take 1 hs)
  first_all Q [] all = all
  first_all Q (c ∷ cs) all = All-cons Q c [] (all 0 c (omega arith)) (All-nil Q)

  rest_all : (Q : CallerView (Option J) → Type 0) (hs : Hands J) → All Q hs → All Q (drop 1 hs)
  rest_all Q [] all = all
  rest_all Q (c ∷ cs) all = λ i d near. all (suc i) d (omega (arith, near))

module _ {P J : Type 0} (job_of : P → J) (filled_for : P → ℕ → Type 0) (job : J) (count callers : ℕ) where
  abbrev Rule : State (Option P) (Hands J) → Type 0
  Rule = Keeps job_of filled_for job count callers

  regroups : (s : State (Option P) (Hands J)) (views' : List (Hands J)) → Rule s → Regrouped s.views views' → ((j : ℕ) (hs : Hands J) → get_elem? views' j ≡ some hs → All (Fits job count callers) hs)
      → Rule record { words = s.words; homes = s.homes; views = views' }
  regroups s views' r same each = record {
    stage = r.stage;
    word_count = r.word_count;
    slot_count = r.slot_count;
    each_fits = each;
    callers_told = same (λ _. 1) ∙ r.callers_told;
    index_once = λ i. let e = same (λ x. hit x.index i) in let once = r.index_once i in omega (arith, e, once);
    counter_low = let e = same pasts in let low = r.counter_low in omega (arith, e, low);
    counter_high = λ some_past. r.counter_high (subst (λ (x : ℕ). 0 < x) (same pasts) some_past);
    numbers = λ m near. at_stays job_of filled_for job m (get_or s.words 0 0) (get_or s.words 0 0) (get_or s.words (m + 1) 0) (get_or s.words (m + 1) 0) (get_elem? s.homes m) (get_elem? s.homes m) s.views views' (r.stage m) refl refl refl (alike m) (r.numbers m near);
    beyond = λ m far. untold_alike m s.views views' (alike m) (r.beyond m far);
  }
    where
      alike : (m : ℕ) → ToldAlike m s.views views'
      alike m = (same (λ x. times m x.drawn), same (λ x. times m x.posted), same (λ x. times m x.taken), same (λ x. times m x.seen))

  -- a seat keeps all its callers but the first, and a new seat has that one
  pub cuts : (id : ℕ) (hs : Hands J) → Splits Rule id hs (drop 1 hs) (take 1 hs)
  cuts id hs s r at = let mine = r.each_fits id hs at in let Q : CallerView (Option J) → Type 0 = Fits job count callers in
      regroups s (set s.views id (drop 1 hs) ++ take 1 hs ∷ []) r (cut_regrouped s.views id hs at)
      (λ j v e. ⊎_elim (λ old. ⊎_elim (λ here. subst (All Q) here.1 (rest_all Q hs mine)) (λ there. r.each_fits j v there.1) (at_set s.views id j (drop 1 hs) v old))
      (λ new. subst (All Q) new (first_all Q hs mine)) (at_snoc (set s.views id (drop 1 hs)) (take 1 hs) v j e))

  -- a seat takes in the callers of another
  pub merges : (id : ℕ) (hs : Hands J) (other : ℕ) (os : Hands J) → Joins Rule id hs other os (os ++ hs) []
  merges id hs other os s r at apart at' = let Q : CallerView (Option J) → Type 0 = Fits job count callers in
      let theirs : All Q os = ⊎_elim (λ here. absurd (apart here.0)) (λ there. r.each_fits other os there.1) (at_set s.views id other (os ++ hs) os at') in
      regroups s (set (set s.views id (os ++ hs)) other []) r (merge_regrouped s.views id other hs os at at')
      (λ j v e. ⊎_elim (λ here. subst (All Q) here.1 (All-nil Q)) (λ old. ⊎_elim (λ here. subst (All Q) here.1 (All-append Q os hs theirs (r.each_fits id hs at))) (λ there. r.each_fits j v there.1) (at_set s.views id j (os ++ hs) v old.1))
      (at_set (set s.views id (os ++ hs)) other j [] v e))

-- the last of some callers goes from them to a seat
pub views_popped : {A B : Type 0} (f : A → B) (xs : List A) (x : A) (ys : List A) (hs : List B) → ys ≡ xs ++ x ∷ [] → hs ≡ f x ∷ [] → map f xs ++ hs ≡ map f ys
views_popped f xs x ys hs items alone = ap (λ zs. map f xs ++ zs) alone ∙ (sym (map-append f xs (x ∷ [])) ∙ sym (ap (map f) items))

pub views_popped_more : {A B : Type 0} (f : A → B) (xs : List A) (x : A) (ys : List A) (hs os new all : List B) → ys ≡ xs ++ x ∷ [] → os ≡ f x ∷ [] → new ≡ os ++ hs → map f ys ++ hs ≡ all → map f xs ++ new ≡ all
views_popped_more f xs x ys hs os new all items alone both so = ap (λ zs. map f xs ++ zs) both ∙ (sym (append_assoc (map f xs) os hs) ∙ (ap (λ zs. zs ++ hs) (views_popped f xs x ys os items alone) ∙ so))
