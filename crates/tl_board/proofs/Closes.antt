-- What is left of each number when a board is closed.
use Rattle.std.proofs.Common.{◌≡◌, ℕ, zero, suc, ◌+◌, ◌<◌, Bool, false, List, [], ◌∷◌, ◌++◌, length, map, drop, set, get_or, get_or-set_other, refl, sym, ap, ◌∙◌, subst, arith}
use mathlib.Core.Logic.{dite}
use native.Mathlib.Decide.{ℕ_discrete}
use mathlib.Core.Option.{some, some-injective, some-ne-none}
use lib.ListN.{get_elem?}
use Rattle.std.specs.Prelude.{Option, Some, None, sum_by, flat_map, All, is_some, slice_get}
use Rattle.std.specs.List.{list_any}
use Rattle.std.proofs.lemmas.Bool.{false_from_ne_true}
use Rattle.std.proofs.lemmas.List.{length-map, map-append}
use Rattle.std.proofs.lemmas.List.FromFn.{get_or-map-range_with_len, length-range_with_len}
use Rattle.std.proofs.lemmas.List.Sums.{get_or-le-sum_by, sum_by-cons}
use Rattle.std.proofs.lemmas.List.Elements.{All-tail, All-head}
use Rattle.std.proofs.lemmas.Option.{slice_get_within, get_or_from_slice_get}
use Rattle.tl_lists.specs.Lists.{upto}
use Rattle.tl_lists.proofs.Members.{upto_more}
use Rattle.atomic_table.specs.Table.{State, Final, Seen}
use Rattle.tl_board.specs.declared.caller.Left.{Left}
use Rattle.tl_board.specs.declared.caller.Left.TheVariants.{Unclaimed, Posted, Taken}
use Rattle.tl_board.specs.declared.views.CallerView.{CallerView}
use Rattle.tl_board.specs.Board.{is_member}
use Rattle.tl_board.specs.Calls.{left_of, IsLeftOf, IsClosed}
use Rattle.tl_board.specs.Hands.{Hands, times, total, unposted}
use Rattle.tl_board.specs.Rule.{Stage, word_of, draws_of, posts_of, takes_of, below, IsSlotOf, Keeps}
use Rattle.tl_board.specs.Rule.Stage.{Blank, Claimed, Posted as StagePosted, Taking, Taken as StageTaken}
use Rattle.tl_board.proofs.Totals.{member-false, member-true, times-member, times-none}
use Rattle.tl_board.proofs.Moves.{below-true}
use Rattle.tl_board.proofs.Known.{member-passes}
use Rattle.tl_board.proofs.Histories.{is_lawful, is_one_board, all_posted, none_left, told, summed, passed, fits}

pub get_or_there : {A : Type 0} (l : List A) (i : ℕ) (a d : A) → get_elem? l i ≡ some a → get_or l i d ≡ a
get_or_there [] i a d e = absurd (some-ne-none a (sym e))
get_or_there (x ∷ xs) zero a d e = some-injective x a e
get_or_there (x ∷ xs) (suc i) a d e = get_or_there xs i a d e

sum_none : {A : Type 0} (f : A → ℕ) (xs : List A) → All (λ x. f x ≡ 0) xs → sum_by f xs ≡ 0
sum_none f [] zeros = refl
sum_none f (x ∷ xs) zeros = let a = sum_by-cons f x xs in let here = All-head (λ y. f y ≡ 0) x xs zeros in let more = sum_none f xs (All-tail (λ y. f y ≡ 0) x xs zeros) in omega (arith, a, here, more)

left_taking : {P : Type 0} (slot : Option P) → left_of 2 slot ≡ Taken
left_taking None = refl
left_taking (Some p) = refl

left_taken : {P : Type 0} (slot : Option P) → left_of 3 slot ≡ Taken
left_taken None = refl
left_taken (Some p) = refl

-- what the words and slots of a table leave of a number
abbrev pub entry : {P : Type 0} → List ℕ → List (Option P) → ℕ → Left P
entry words slots n = left_of (get_or words (n + 1) 0) (get_or slots n None)

-- one more number has left its entry
pub entries_more : {P : Type 0} (words : List ℕ) (slots : List (Option P)) (n word : ℕ) (slot : Option P) (l : Left P) (items items' : List (Left P)) → items' ≡ items ++ l ∷ [] → items ≡ map (entry words slots) (upto n) → l ≡ left_of word slot
    → get_elem? words (n + 1) ≡ some word → get_elem? slots n ≡ some slot → items' ≡ map (entry words slots) (upto (n + 1))
entries_more words slots n word slot l items items' more so this at at' =
    let here = this ∙ sym (ap (λ w. left_of w (get_or slots n None)) (get_or_there words (n + 1) word 0 at) ∙ ap (left_of word) (get_or_there slots n slot None at')) in
    more ∙ (ap (λ xs. xs ++ l ∷ []) so ∙ (ap (λ x. map (entry words slots) (upto n) ++ x ∷ []) here ∙ sym (ap (map (entry words slots)) (upto_more n) ∙ map-append (entry words slots) (upto n) (n ∷ []))))

module _ {P J : Type 0} (job_of : P → J) (filled_for : P → ℕ → Type 0) (job : J) (count callers : ℕ) where
  module _ (s : State (Option P) (Hands J)) (r : Keeps job_of filled_for job count callers s) (id : ℕ) (hs : Hands J) (at : get_elem? s.views id ≡ some hs) (whole : length hs ≡ callers) (out : All (λ c. unposted c ≡ []) hs) where
    module _ (n : ℕ) (near : n < count) where
      -- what was drawn and not posted would be out with a caller
      drawn_posted : posts_of (r.stage n) ≡ 0 → draws_of (r.stage n) ≡ 0
      drawn_posted none_posted = let is = r.numbers n near in let p = summed job_of filled_for job count callers s r id hs at whole (λ c. times n c.posted) in let d = summed job_of filled_for job count callers s r id hs at whole (λ c. times n c.drawn) in
          let z = sum_none (λ c. times n c.drawn) hs (λ k c below. times-none n (get_or hs k c).drawn (false_from_ne_true (is_member (get_or hs k c).drawn n) (λ m.
          let some_post = times-member n (get_or hs k c).posted (member-passes (is_member (get_or hs k c).posted) n (get_or hs k c).drawn (none_left (get_or hs k c).posted (get_or hs k c).drawn (out k c below)) m) in
          let le = get_or-le-sum_by (λ x. times n x.posted) hs k c below in let posts = is.posts in omega (arith, some_post, le, p, posts, none_posted)))) in
          let draws = is.draws in omega (arith, z, d, draws)

      of_job : (p : P) → job_of p ≡ job → All (λ c. c.job ≡ Some (job_of p)) hs
      of_job p e k c below = (fits job_of filled_for job count callers s r id hs at whole k c below).of_job ∙ sym (ap Some e)

      told_times : (f : CallerView (Option J) → List ℕ) (k : ℕ) → total (λ c. times n (f c)) s.views ≡ k → times n (flat_map f hs) ≡ k
      told_times f k e = told job_of filled_for job count callers s r id hs at whole f n ∙ e

      left_at : (words : List ℕ) (slots : List (Option P)) → s.words ≡ words → ((k : ℕ) (y : Option P) → get_elem? s.homes k ≡ some (some y) → get_elem? slots k ≡ some y)
          → IsLeftOf job_of filled_for hs n (entry words slots n)
      left_at words slots same home = let is = r.numbers n near in by_stage (r.stage n) (ap (λ ws. get_or ws (n + 1) 0) (sym same) ∙ is.word_is) is.drawn_below is.draws is.takes is.slot_is drawn_posted
        where
          -- an entry is known from its word and slot
          known : (l : Left P) (word : ℕ) (slot : Option P) → get_or words (n + 1) 0 ≡ word → get_or slots n None ≡ slot → left_of word slot ≡ l → IsLeftOf job_of filled_for hs n l → IsLeftOf job_of filled_for hs n (entry words slots n)
          known l word slot e f g h = subst (IsLeftOf job_of filled_for hs n) (sym (ap (λ w. left_of w (get_or slots n None)) e ∙ (ap (left_of word) f ∙ g))) h

          by_stage : (st : Stage) → get_or words (n + 1) 0 ≡ word_of st → draws_of st ≡ below n (get_or s.words 0 0) → total (λ c. times n c.drawn) s.views ≡ draws_of st → total (λ c. times n c.taken) s.views ≡ takes_of st
              → IsSlotOf job_of filled_for job n (get_elem? s.homes n) st → (posts_of st ≡ 0 → draws_of st ≡ 0) → IsLeftOf job_of filled_for hs n (entry words slots n)
          by_stage Blank word drawn draws takes slot posted = known (Unclaimed slot.0) 0 (Some slot.0) word (get_or_there slots n (Some slot.0) None (home n (Some slot.0) slot.1)) refl (
            member-false n (flat_map (λ c. c.drawn) hs) (told_times (λ c. c.drawn) 0 draws),
            member-false n (flat_map (λ c. c.taken) hs) (told_times (λ c. c.taken) 0 takes),
            false_from_ne_true (list_any (λ c. is_some c.past) hs) (λ past. let far = passed job_of filled_for job count callers s r id hs at whole past in let b = below-true n (get_or s.words 0 0) (omega (arith, near, far)) in omega (arith, b, drawn)),
            of_job slot.0 slot.2,
          )
          by_stage Claimed word drawn draws takes slot posted = absurd (let e = posted refl in omega (arith, e))
          by_stage StagePosted word drawn draws takes slot posted = known (Posted slot.0) 1 (Some slot.0) word (get_or_there slots n (Some slot.0) None (home n (Some slot.0) slot.1)) refl (
            member-true n (flat_map (λ c. c.drawn) hs) (let e = told_times (λ c. c.drawn) 1 draws in omega (arith, e)),
            member-false n (flat_map (λ c. c.taken) hs) (told_times (λ c. c.taken) 0 takes),
            of_job slot.0 slot.2,
            slot.3,
          )
          by_stage Taking word drawn draws takes slot posted = known Taken 2 (get_or slots n None) word refl (left_taking (get_or slots n None)) (member-true n (flat_map (λ c. c.taken) hs) (let e = told_times (λ c. c.taken) 1 takes in omega (arith, e)))
          by_stage StageTaken word drawn draws takes slot posted = known Taken 3 (get_or slots n None) word refl (left_taken (get_or slots n None)) (member-true n (flat_map (λ c. c.taken) hs) (let e = told_times (λ c. c.taken) 1 takes in omega (arith, e)))

  -- the table's last words and slots, of which each number leaves its entry
  pub is_closed : (id : ℕ) (hs : Hands J) (words : List ℕ) (slots : List (Option P)) (left : List (Left P)) → Final (Seen (Keeps job_of filled_for job count callers) id hs) words slots → length hs ≡ callers → All (λ c. unposted c ≡ []) hs
      → left ≡ map (entry words slots) (upto count) → IsClosed job_of filled_for hs count left
  is_closed id hs words slots left final whole out are = let s = final.0 in let r = final.1.0 in let at = final.1.1 in record {
    counter = get_or s.words 0 0;
    words = drop 1 s.words;
    job = job;
    lawful = is_lawful job_of filled_for job count callers s r id hs at whole;
    one_board = is_one_board job_of filled_for job count callers s r id hs at whole;
    all_posted = all_posted hs out;
    one_each = ap length are ∙ (length-map (upto count) (entry words slots) ∙ length-range_with_len 0 count);
    each_left = λ n l e. let near : n < count = entry-near words slots left n l are e in subst (IsLeftOf job_of filled_for hs n) (entry-is words slots left n l are e) (left_at s r id hs at whole out n near words slots final.2 final.4);
  }
    where
      entry-near : (words : List ℕ) (slots : List (Option P)) (left : List (Left P)) (n : ℕ) (l : Left P) → left ≡ map (entry words slots) (upto count) → slice_get left n ≡ Some l → n < count
      entry-near words slots left n l are e = let a = ap length are in let b = length-map (upto count) (entry words slots) in let k = length-range_with_len 0 count in let near = slice_get_within left n l e in omega (arith, a, b, k, near)

      entry-is : (words : List ℕ) (slots : List (Option P)) (left : List (Left P)) (n : ℕ) (l : Left P) → left ≡ map (entry words slots) (upto count) → slice_get left n ≡ Some l → entry words slots n ≡ l
      entry-is words slots left n l are e = sym (get_or-map-range_with_len (entry words slots) 0 count n n l (entry-near words slots left n l are e) (omega arith)) ∙ (sym (ap (λ xs. get_or xs n l) are) ∙ get_or_from_slice_get left n l l e)

-- one more slot is empty, and the others are as they were
emptied-here : (filled : List Bool) (n : ℕ) → get_or (set filled n false) n false ≡ false
emptied-here [] n = refl
emptied-here (b ∷ bs) zero = refl
emptied-here (b ∷ bs) (suc n) = emptied-here bs n

pub emptied_more : (filled : List Bool) (n : ℕ) → ((k : ℕ) → k < n → get_or filled k false ≡ false) → (k : ℕ) → k < n + 1 → get_or (set filled n false) k false ≡ false
emptied_more filled n earlier k near = dite (ℕ_discrete k n) (λ e. ap (λ (j : ℕ). get_or (set filled n false) j false) e ∙ emptied-here filled n) (λ ne. get_or-set_other filled n k false false ne ∙ earlier k (omega (arith, near, ne)))
