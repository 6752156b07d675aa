-- What the callers know when all work is done.
use Rattle.std.proofs.Common.{◌≡◌, ℕ, ◌<◌, List, ◌++◌, length, map, get_or, take, drop, ap, ◌∙◌, subst, arith}
use Rattle.std.specs.Prelude.{All, Option, Some}
use Rattle.std.proofs.lemmas.Grind.{common_steps}
use Rattle.std.proofs.lemmas.List.Elements.{All-map, All-same}
use Rattle.tl_board.specs.declared.views.CallerView.{CallerView}
use Rattle.tl_workers.specs.Seats.{IsDone}

-- a list that was written back as a whole
pub written_back : {A : Type 0} (n : ℕ) (after before : List A) → length after ≡ n → take n (after ++ drop (length after) before) ≡ after
written_back n after before long = grind (arith, common_steps)

module _ {S A J : Type 0} (before after : List S) (callers : List A) (caller : S → A) (see : A → CallerView (Option J)) (long : length after ≡ length before) (are : callers ≡ map caller after) where
  pub each_after : (Q : A → Type 0) → All (λ s. Q (caller s)) after → All Q callers
  each_after Q all = All-same Q callers (map caller after) are (All-map Q caller after all)

  -- each caller is done with the job and count that it had
  pub all_done : (job : J) (count : ℕ) → All (λ s. ((see (caller s)).job ≡ Some job) × ((see (caller s)).count ≡ count)) before
      → ((k : ℕ) (d : S) → k < length before → IsDone (see (caller (get_or before k d))).job (see (caller (get_or before k d))).count (see (caller (get_or after k d))))
      → All (λ a. IsDone (Some job) count (see a)) callers
  all_done job count had done = each_after (λ a. IsDone (Some job) count (see a)) (λ k d near. let near' = subst (λ (n : ℕ). k < n) long near in
      let here = had k d near' in let is = done k d near' in record { idle = is.idle; of_job = is.of_job ∙ here.0; of_count = is.of_count ∙ here.1; told = is.told })

-- the callers of seats that were written back
pub of_seats : {S A : Type 0} (after before : List S) (callers : List A) (caller : S → A) (n : ℕ) → callers ≡ map caller (take n (after ++ drop (length after) before)) → length after ≡ n → callers ≡ map caller after
of_seats after before callers caller n are long = are ∙ ap (map caller) (written_back n after before long)
