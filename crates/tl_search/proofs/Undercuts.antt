-- A search that is stopped has found an undercut.
use Rattle.std.proofs.Common.{◌≡◌, ◌⊎◌, inl, inr, ℕ, ◌^◌, List, ◌∷◌, refl, sym, ◌∙◌, ap, subst, arith, ℤ, pos, neg_ℤ, ◌+ℤ◌, ◌≤ℤ◌}
use Rattle.std.specs.Prelude.{IsTrue}
use Rattle.std.proofs.lemmas.Int.{ints, by_lt_z}
use Rattle.tl_lists.proofs.Members.{In, In-left, In-right}
use Rattle.tl_search.specs.declared.spreading.Source.{Source}
use Rattle.tl_search.specs.declared.spreading.TheConstants.{UNREACHED}
use Rattle.tl_search.specs.Graphs.{GraphMeaning, IsGraph, has_step, Leads}
use Rattle.tl_search.specs.Spreading.{AreSources, IsUndercut}
use Rattle.tl_search.specs.Searching.{number_of, IsStopped, IsTraced}
use Rattle.tl_search.proofs.Numbers.{below_reached}
use Rattle.tl_search.proofs.Paths.{In-has_step}
use Rattle.tl_search.proofs.Search.{IsSourceAt, IsFrom, IsReached, IsKnown, IsTurn}
use Rattle.tl_search.proofs.Giving.{IsAfter, after, below}

module _ (M : GraphMeaning) (sources : List Source) (is_graph : IsGraph M) (are_sources : AreSources M sources) (next place : ℕ) (level : ℤ) (numbers : List ℤ) (queue : List ℕ) (turn : IsTurn M sources numbers queue next place level)
    (numbers' : List ℤ) (queue' : List ℕ) (end : ℕ) (stopped : IsStopped (level +ℤ pos 1) (M.steps place) end numbers queue numbers' queue') where
  stop-after : IsAfter M sources next place level stopped.front numbers queue numbers' queue'
  stop-after =
      after M sources is_graph are_sources next place level stopped.front numbers queue numbers' queue' turn
      (λ w i. In-has_step M.steps place w (subst (In w) (sym stopped.places_are) (In-left w stopped.front (end ∷ stopped.back) i))) stopped.given

  pub stop-turn : IsTurn M sources numbers' queue' next place level
  stop-turn = stop-after.turn

  pub stop-step : IsTrue (has_step M.steps place end)
  stop-step = In-has_step M.steps place end (subst (In end) (sym stopped.places_are) (In-right end stopped.front (end ∷ stopped.back) (inl refl)))

  stop-place : IsKnown M sources numbers' level place
  stop-place = stop-turn.search.known.known place stop-turn.inside stop-turn.reached

  -- the place that has a greater number already is that of a source
  stop-source : IsSourceAt sources end
  stop-source = go (stop-turn.search.known.known end (is_graph.inside end (is_graph.to_places place end stop-place.is_place stop-step)) stopped.reached).cause
    where
      go : IsSourceAt sources end ⊎ IsFrom M numbers' level end → IsSourceAt sources end
      go (inl s) = s
      go (inr f) = absurd (omega (arith, ints, f.near, stopped.greater))

  pub low : (v : ℕ) → IsTrue (M.is_place v) → neg_ℤ (pos (2 ^ 30)) ≤ℤ number_of numbers' v
  low v is_place =
      by_lt_z (number_of numbers' v) UNREACHED
      (λ h. (stop-turn.search.known.known v (is_graph.inside v is_place) (below_reached (number_of numbers' v) h)).low) (λ h. omega (arith, ints, h))

  module _ (path : List ℕ) (traced : IsTraced M numbers' place end path) where
    first-reached : IsReached numbers' traced.first
    first-reached =
        let high = below M sources is_graph are_sources next place level numbers' queue' stop-turn in
        below_reached (number_of numbers' traced.first) (omega (arith, ints, high, traced.rises, traced.longer, stop-turn.level_is))

    first-source : IsSourceAt sources traced.first
    first-source = go (stop-turn.search.known.known traced.first (is_graph.inside traced.first traced.is_place) first-reached).cause
      where
        go : IsSourceAt sources traced.first ⊎ IsFrom M numbers' level traced.first → IsSourceAt sources traced.first
        go (inl s) = s
        go (inr f) = absurd (traced.is_first f.from (is_graph.goes_back f.from traced.first f.is_place f.leads) f.less)

    undercut : IsSourceAt sources traced.first → IsSourceAt sources end → IsUndercut M sources path
    undercut (i, s, e, at) (j, t, f, to) =
        let low_number : number_of numbers' traced.first ≡ s.number = ap (number_of numbers') (sym at) ∙ stop-turn.search.known.own i s e in
        let high_number : number_of numbers' end ≡ t.number = ap (number_of numbers') (sym to) ∙ stop-turn.search.known.own j t f in
        record {
          i = i;
          j = j;
          from = s;
          to = t;
          is_from = e;
          is_to = f;
          leads = subst (λ u. Leads M.steps u t.place path) (sym at) (subst (λ u. Leads M.steps traced.first u path) (sym to) traced.leads);
          too_steep = omega (arith, ints, low_number, high_number, traced.rises, traced.longer, stopped.greater, stop-turn.level_is);
        }

    pub stop-undercut : IsUndercut M sources path
    stop-undercut = undercut first-source stop-source
