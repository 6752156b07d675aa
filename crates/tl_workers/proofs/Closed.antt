-- What is left on a board whose callers were told that there are no more numbers.
use Rattle.std.proofs.Common.{◌≡◌, ℕ, ◌<◌, false, true, List, [], ◌∷◌, ◌++◌, length, map, refl, sym, ap, ◌∙◌, subst, arith}
use Rattle.std.specs.Prelude.{Option, Some, is_some, All, slice_get, flat_map, IsTrue, nat_lt, ◌==◌, ◌&&◌}
use Rattle.std.specs.List.{list_any, list_all}
use Rattle.std.proofs.lemmas.Bool.{or_left, and_parts, eqb-true, true≢false}
use Rattle.std.proofs.lemmas.List.{length-map}
use Rattle.std.proofs.lemmas.List.Elements.{All-head, All-tail}
use Rattle.std.proofs.lemmas.Option.{slice_get-map, slice_get-get_or, slice_get_within, get_or_from_slice_get, same_Some}
use Rattle.std.specs.Option.{option_map}
use Rattle.tl_board.specs.declared.caller.Left.{Left}
use Rattle.tl_board.specs.declared.caller.Left.TheVariants.{Unclaimed, Posted, Taken}
use Rattle.tl_board.specs.declared.views.CallerView.{CallerView}
use Rattle.tl_board.specs.Board.{is_member, is_past}
use Rattle.tl_board.specs.Calls.{IsLeftOf, IsClosed}
use Rattle.tl_workers.specs.Filled.{AreFilled}
use Rattle.tl_workers.specs.Seats.{IsDone, IsPosted}

module _ {J : Type 0} where
  -- callers that took nothing took no number
  none_taken : (views : List (CallerView (Option J))) (n : ℕ) → All (λ c. c.taken ≡ []) views → is_member (flat_map (λ c. c.taken) views) n ≡ false
  none_taken [] n none = refl
  none_taken (c ∷ cs) n none = ap (λ xs. is_member (xs ++ flat_map (λ d. d.taken) cs) n) (All-head (λ d. d.taken ≡ []) c cs none) ∙ none_taken cs n (All-tail (λ d. d.taken ≡ []) c cs none)

  -- the first of them was told
  one_told : (views : List (CallerView (Option J))) → 0 < length views → All (λ c. IsTrue (is_some c.past)) views → list_any (λ c. is_some c.past) views ≡ true
  one_told [] some_view told = absurd (omega (arith, some_view))
  one_told (c ∷ cs) some_view told = or_left (is_some c.past) (list_any (λ d. is_some d.past) cs) (All-head (λ d. IsTrue (is_some d.past)) c cs told)

module _ {P J : Type 0} (job_of : P → J) (filled_for : P → ℕ → Type 0) where
  -- a piece of that job that is filled for the number
  abbrev pub IsFilledLeft : J → ℕ → Left P → Type 0
  IsFilledLeft job n (Unclaimed p) = ⊥
  IsFilledLeft job n (Posted p) = (job_of p ≡ job) × filled_for p n
  IsFilledLeft job n Taken = ⊥

  posted-is : (job : J) (n : ℕ) (l : Left P) → IsFilledLeft job n l → IsPosted l
  posted-is job n (Unclaimed p) is = is
  posted-is job n (Posted p) is = tt
  posted-is job n Taken is = is

  module _ (job : J) (count counted : ℕ) (views : List (CallerView (Option J))) (left : List (Left P)) (some_view : 0 < length views) (done : All (IsDone (Some job) count) views) (closed : IsClosed job_of filled_for views counted left) where
    -- the board has the count that its callers know
    same_count : counted ≡ count
    same_count = by_views views some_view done closed.lawful.views_fit
      where
        by_views : (vs : List (CallerView (Option J))) → 0 < length vs → All (IsDone (Some job) count) vs → list_all (λ c. c.count == counted && nat_lt c.index c.callers && is_past counted c.past) vs ≡ true → counted ≡ count
        by_views [] some_there all fit = absurd (omega (arith, some_there))
        by_views (c ∷ cs) some_there all fit = let here = and_parts (c.count == counted && nat_lt c.index c.callers && is_past counted c.past) (list_all (λ d. d.count == counted && nat_lt d.index d.callers && is_past counted d.past) cs) fit in
            let two = and_parts (c.count == counted && nat_lt c.index c.callers) (is_past counted c.past) here.0 in let one = and_parts (c.count == counted) (nat_lt c.index c.callers) two.0 in
            sym (eqb-true c.count counted one.0) ∙ (All-head (IsDone (Some job) count) c cs all).of_count

    same_job : (p : P) → All (λ d. d.job ≡ Some (job_of p)) views → job_of p ≡ job
    same_job p jobs = by_views views some_view done jobs
      where
        by_views : (vs : List (CallerView (Option J))) → 0 < length vs → All (IsDone (Some job) count) vs → All (λ d. d.job ≡ Some (job_of p)) vs → job_of p ≡ job
        by_views [] some_there all of_p = absurd (omega (arith, some_there))
        by_views (c ∷ cs) some_there all of_p = same_Some (job_of p) job (sym (All-head (λ d. d.job ≡ Some (job_of p)) c cs of_p) ∙ (All-head (IsDone (Some job) count) c cs all).of_job)

    filled_left : (n : ℕ) (l : Left P) → slice_get left n ≡ Some l → IsFilledLeft job n l
    filled_left n l at = by_kind l (closed.each_left n l at)
      where
        by_kind : (l : Left P) → IsLeftOf job_of filled_for views n l → IsFilledLeft job n l
        by_kind (Unclaimed p) is = true≢false (sym (one_told views some_view (λ k d near. (done k d near).told)) ∙ is.2)
        by_kind (Posted p) is = (same_job p is.2, is.3)
        by_kind Taken is = true≢false (sym is ∙ none_taken views n (λ k d near. (done k d near).idle.none_taken))

    pub all_posted : All IsPosted left
    all_posted k d near = posted-is job k _ (filled_left k _ (slice_get-get_or left k d near))

    -- the pieces that were posted are those of the blanks
    pub are_filled : (blanks pieces : List P) → All (λ p. job_of p ≡ job) blanks → length blanks ≡ count → map Posted pieces ≡ left → AreFilled job_of filled_for blanks pieces
    are_filled blanks pieces jobs long are = record {
      count = sym (length-map pieces Posted) ∙ (ap length are ∙ (closed.one_each ∙ (same_count ∙ sym long)));
      each = λ n blank piece at at'. let l = slice_get-map Posted pieces n ∙ ap (λ o. option_map Posted o) at' in
          let is : IsFilledLeft job n (Posted piece) = filled_left n (Posted piece) (sym (ap (λ xs. slice_get xs n) are) ∙ l) in
          (is.0 ∙ sym (subst (λ p. job_of p ≡ job) (get_or_from_slice_get blanks n blank blank at) (jobs n blank (slice_get_within blanks n blank at))), is.1);
    }
