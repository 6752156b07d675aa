-- The numbers with which the search begins, as they are written one after the other.
use Rattle.std.proofs.Common.{◌≡◌, ◌≢◌, ◌⊎◌, inl, inr, ℕ, ◌+◌, ◌<◌, ◌≤◌, List, length, get_or, Some, sym, ◌∙◌, ap, subst, arith, ℤ, pos}
use Rattle.std.specs.Prelude.{slice_get, slice_set}
use Rattle.std.proofs.Math.ListN.{replicate}
use Rattle.std.proofs.lemmas.Bool.{cases_eq}
use Rattle.std.proofs.lemmas.List.{length-set, length-replicate, get_or-replicate}
use Rattle.std.proofs.lemmas.Option.{same_Some, slice_get_within, slice_get-get_or}
use Rattle.tl_search.specs.declared.spreading.Source.{Source}
use Rattle.tl_search.specs.declared.spreading.TheConstants.{UNREACHED}
use Rattle.tl_search.specs.Graphs.{GraphMeaning, IsGraph}
use Rattle.tl_search.specs.Spreading.{AreSources}
use Rattle.tl_search.specs.Searching.{number_of, AreFirstNumbers}
use Rattle.tl_search.proofs.Numbers.{written, not_written}
use Rattle.tl_search.proofs.Search.{IsSourceAt}

-- the numbers of the first k sources are written
pub record AreWritten (M : GraphMeaning) (sources : List Source) (numbers : List ℤ) (k : ℕ) : Type 0 where
  pub count : length numbers ≡ M.count
  pub own : (i : ℕ) (s : Source) → i < k → slice_get sources i ≡ Some s → number_of numbers s.place ≡ s.number
  pub others : (v : ℕ) → v < M.count → number_of numbers v ≢ UNREACHED → IsSourceAt sources v

module _ (M : GraphMeaning) (sources : List Source) where
  pub written-none : (count : ℕ) → count ≡ M.count → AreWritten M sources (replicate count UNREACHED) 0
  written-none count e = record {
    count = length-replicate count UNREACHED ∙ e;
    own = λ i s h f. absurd (omega (arith, h));
    others = λ v inside reached. absurd (reached (get_or-replicate count v UNREACHED (pos 0) (omega (arith, inside, e))));
  }

  pub place-within : IsGraph M → AreSources M sources → (numbers : List ℤ) (k : ℕ) → AreWritten M sources numbers k → (d : Source) → k < length sources
      → (get_or sources k d).place < length numbers
  place-within is_graph are_sources numbers k so_far d h =
      subst (λ n. (get_or sources k d).place < n) (sym so_far.count) (is_graph.inside (get_or sources k d).place (are_sources.places k (get_or sources k d) (slice_get-get_or sources k d h)))

  pub written-more : IsGraph M → AreSources M sources → (numbers : List ℤ) (k : ℕ) (s : Source) → AreWritten M sources numbers k → slice_get sources k ≡ Some s
      → AreWritten M sources (slice_set numbers s.place s.number) (k + 1)
  written-more is_graph are_sources numbers k s so_far e = record {
    count = length-set numbers s.place s.number ∙ so_far.count;
    own = λ i t h f. own i t h f (cases_eq t.place s.place);
    others = λ v inside reached. others v inside reached (cases_eq v s.place);
  }
    where
      inside : s.place < length numbers
      inside = subst (λ n. s.place < n) (sym so_far.count) (is_graph.inside s.place (are_sources.places k s e))

      own : (i : ℕ) (t : Source) → i < k + 1 → slice_get sources i ≡ Some t → (t.place ≡ s.place) ⊎ (t.place ≡ s.place → ⊥) → number_of (slice_set numbers s.place s.number) t.place ≡ t.number
      own i t h f (inl same) =
          ap (number_of (slice_set numbers s.place s.number)) same ∙ written numbers s.place s.number inside ∙ sym (are_sources.one_number i k t s f e same)
      own i t h f (inr other) = not_written numbers s.place t.place s.number other ∙ before (cases_eq i k)
        where
          before : (i ≡ k) ⊎ (i ≡ k → ⊥) → number_of numbers t.place ≡ t.number
          before (inl same) =
              absurd (other (ap (λ (u : Source). u.place) (same_Some t s (sym f ∙ (ap (slice_get sources) same ∙ e)))))
          before (inr less) = so_far.own i t (omega (arith, h, less)) f

      others : (v : ℕ) → v < M.count → number_of (slice_set numbers s.place s.number) v ≢ UNREACHED → (v ≡ s.place) ⊎ (v ≡ s.place → ⊥) → IsSourceAt sources v
      others v within reached (inl same) = (k, s, e, sym same)
      others v within reached (inr other) = so_far.others v within (λ f. reached (not_written numbers s.place v s.number other ∙ f))

  pub written-all : (numbers : List ℤ) (k : ℕ) → length sources ≤ k → AreWritten M sources numbers k → AreFirstNumbers M sources numbers
  written-all numbers k h so_far = record {
    count = so_far.count;
    own = λ i s e. so_far.own i s (omega (arith, h, slice_get_within sources i s e)) e;
    others = so_far.others;
  }
