-- What the callers of a board know when it is opened.
use Rattle.std.proofs.Common.{◌≡◌, ℕ, ◌<◌, List, [], ◌∷◌, length, map, sym, ap, ◌∙◌, arith}
use Rattle.std.specs.Prelude.{All, Option, Some}
use Rattle.std.proofs.lemmas.List.{length-map}
use Rattle.std.proofs.lemmas.List.FromFn.{length-map-range_with_len}
use Rattle.std.proofs.lemmas.List.Elements.{All-head, All-map}
use Rattle.tl_lists.specs.Lists.{upto}
use Rattle.tl_board.specs.declared.views.CallerView.{CallerView}
use Rattle.tl_board.specs.Hands.{Hands, fresh, fresh_hands}
use Rattle.tl_workers.proofs.Lists.{All-of_map}

module _ {P J : Type 0} (job_of : P → J) where
  -- the blanks are of one job, and so are the callers
  pub of_job : (job : J) (blanks : List P) (count n : ℕ) (views : Hands J) → 0 < length blanks → All (λ p. job_of p ≡ job) blanks → All (λ p. views ≡ fresh_hands (job_of p) count n) blanks → views ≡ fresh_hands job count n
  of_job job [] count n views some_blank jobs all = absurd (omega (arith, some_blank))
  of_job job (p ∷ ps) count n views some_blank jobs all =
      All-head (λ q. views ≡ fresh_hands (job_of q) count n) p ps all ∙ ap (λ j. fresh_hands j count n) (All-head (λ q. job_of q ≡ job) p ps jobs)

module _ {A J : Type 0} (xs : List A) (see : A → CallerView (Option J)) (job : J) (count n : ℕ) (are : map see xs ≡ fresh_hands job count n) where
  pub as_many : length xs ≡ n
  as_many = sym (length-map xs see) ∙ (ap length are ∙ length-map-range_with_len (fresh (Some job) count n) 0 n)

  -- what is so of each fresh caller
  pub each_fresh : (Q : CallerView (Option J) → Type 0) → ((k : ℕ) → Q (fresh (Some job) count n k)) → All (λ x. Q (see x)) xs
  each_fresh Q each = All-of_map xs (fresh_hands job count n) see Q are (All-map Q (fresh (Some job) count n) (upto n) (λ k d near. each _))
