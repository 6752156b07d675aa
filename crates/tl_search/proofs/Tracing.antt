-- Going back from a place to where its number comes from.
use Rattle.std.proofs.Common.{◌≡◌, ℕ, ◌-◌, ◌<◌, List, [], ◌∷◌, ◌++◌, reverse, length, Some, None, refl, sym, ◌∙◌, ap, subst, arith, ℤ, pos, ◌+ℤ◌}
use Rattle.std.specs.Prelude.{IsTrue}
use Rattle.std.proofs.lemmas.Int.{ints}
use Rattle.std.proofs.lemmas.List.{reverse-append, length-reverse, length_push}
use Rattle.tl_search.specs.Graphs.{GraphMeaning, IsGraph, has_step, Leads}
use Rattle.tl_search.specs.Searching.{number_of, IsBefore, IsTraced}
use Rattle.tl_search.proofs.Paths.{Leads-one, Leads-cons}

-- the path so far, from its end back
pub record IsTracing (M : GraphMeaning) (numbers : List ℤ) (place end first : ℕ) (path : List ℕ) : Type 0 where
  pub is_place : IsTrue (M.is_place first)
  pub leads : Leads M.steps first end (reverse path)
  pub rises : number_of numbers place +ℤ pos 1 ≡ number_of numbers first +ℤ pos (length path - 1)
  pub longer : 1 < length path

module _ (M : GraphMeaning) (numbers : List ℤ) (place end : ℕ) where
  pub tracing-begins : IsTrue (M.is_place place) → IsTrue (has_step M.steps place end) → IsTracing M numbers place end place (end ∷ place ∷ [])
  tracing-begins is_place step = record {
    is_place = is_place;
    leads = Leads-cons M.steps place end end (end ∷ []) step (Leads-one M.steps end);
    rises = refl;
    longer = omega arith;
  }

  module _ (is_graph : IsGraph M) (first : ℕ) (path : List ℕ) (so_far : IsTracing M numbers place end first path) where
    pub tracing-goes_on : (from : ℕ) → IsBefore M numbers first (Some from) → IsTracing M numbers place end from (path ++ from ∷ [])
    tracing-goes_on from (back, less) = record {
      is_place = is_graph.from_places from first so_far.is_place back;
      leads = subst (Leads M.steps from end) (sym (reverse-append path (from ∷ [])))
          (Leads-cons M.steps from first end (reverse path) (is_graph.comes_from from first so_far.is_place back) so_far.leads);
      rises = omega (arith, ints, so_far.rises, so_far.longer, less, length_push path from);
      longer = omega (arith, so_far.longer, length_push path from);
    }

    pub traced : (list : List ℕ) → list ≡ reverse path → IsBefore M numbers first None → IsTraced M numbers place end list
    traced list e is_first =
        let same : length list ≡ length path = ap length e ∙ length-reverse path in
        record {
          first = first;
          is_place = so_far.is_place;
          leads = subst (Leads M.steps first end) (sym e) so_far.leads;
          rises = omega (arith, ints, so_far.rises, same);
          longer = omega (arith, so_far.longer, same);
          is_first = is_first;
        }
