-- Where the search ends the numbers are the least.
use Rattle.std.proofs.Common.{◌≡◌, ◌≢◌, ◌⊎◌, inl, inr, ℕ, zero, suc, ◌-◌, ◌^◌, ◌<◌, ◌≤◌, true, List, [], ◌∷◌, length, Some, sym, ◌∙◌, ap, subst, arith, ℤ, pos, ◌+ℤ◌, ◌≤ℤ◌}
use Rattle.std.specs.Prelude.{slice_get}
use Rattle.std.specs.List.{last_or}
use Rattle.std.proofs.lemmas.Bool.{and_parts}
use Rattle.std.proofs.lemmas.Int.{ints}
use Rattle.std.proofs.lemmas.Option.{same_Some, slice_get_within}
use Rattle.tl_lists.specs.Lists.{linked}
use Rattle.tl_search.specs.declared.spreading.Source.{Source}
use Rattle.tl_search.specs.declared.spreading.TheConstants.{UNREACHED}
use Rattle.tl_search.specs.Graphs.{GraphMeaning, IsGraph, has_step, Leads}
use Rattle.tl_search.specs.Spreading.{AreSources, Reaches, AreLeastNumbers}
use Rattle.tl_search.specs.Searching.{number_of}
use Rattle.tl_search.proofs.Numbers.{looked_up, look_up, below_reached}
use Rattle.tl_search.proofs.Paths.{Leads-one, Reaches-step}
use Rattle.tl_search.proofs.Search.{IsSourceAt, IsFrom, IsReached, IsKnown, IsSettled, IsDone, IsSpreading, fits, source-reached}

module _ (M : GraphMeaning) (sources : List Source) (is_graph : IsGraph M) (are_sources : AreSources M sources) (numbers : List ℤ) (queue : List ℕ) (next : ℕ) (spreading : IsSpreading M sources numbers queue next)
    (no_sources : length sources ≤ next) (no_queue : length queue ≡ 0) where
  done : (v : ℕ) → v < M.count → IsReached numbers v → IsDone M numbers v
  done v inside reached = go (spreading.search.settled v inside reached)
    where
      go : ⊥ ⊎ IsSettled M sources numbers queue next v → IsDone M numbers v
      go (inl never) = absurd never
      go (inr (inl q)) = absurd (omega (arith, q.within, no_queue))
      go (inr (inr (inl s))) = absurd (omega (arith, s.waits, slice_get_within sources s.i s.source s.is_source, no_sources))
      go (inr (inr (inr d))) = d

  Reaches-own : (i : ℕ) (s : Source) → slice_get sources i ≡ Some s → Reaches M.steps sources s.place (number_of numbers s.place)
  Reaches-own i s e =
      let own = spreading.search.known.own i s e in
      record { i = i; source = s; is_source = e; path = s.place ∷ []; leads = Leads-one M.steps s.place; adds = omega (arith, ints, own) }

  -- a place has its number from a source, from which so many steps lead to it
  reaches : (n v : ℕ) → v < M.count → IsReached numbers v → (number_of numbers v +ℤ pos (2 ^ 30)) ≤ℤ pos n → Reaches M.steps sources v (number_of numbers v)
  reaches zero v inside reached high = go known.cause
    where
      known : IsKnown M sources numbers spreading.level v
      known = spreading.search.known.known v inside reached

      go : IsSourceAt sources v ⊎ IsFrom M numbers spreading.level v → Reaches M.steps sources v (number_of numbers v)
      go (inl (i, s, e, at)) = subst (λ u. Reaches M.steps sources u (number_of numbers u)) at (Reaches-own i s e)
      go (inr f) =
          let few = is_graph.few in
          let from_reached = below_reached (number_of numbers f.from) (omega (arith, ints, known.bounded, f.less, few)) in
          let low = (spreading.search.known.known f.from (is_graph.inside f.from f.is_place) from_reached).low in
          absurd (omega (arith, ints, low, high, f.less))
  reaches (suc n) v inside reached high = go known.cause (λ u within r h. reaches n u within r h)
    where
      known : IsKnown M sources numbers spreading.level v
      known = spreading.search.known.known v inside reached

      go : IsSourceAt sources v ⊎ IsFrom M numbers spreading.level v
          → ((u : ℕ) → u < M.count → IsReached numbers u → (number_of numbers u +ℤ pos (2 ^ 30)) ≤ℤ pos n → Reaches M.steps sources u (number_of numbers u))
          → Reaches M.steps sources v (number_of numbers v)
      go (inl (i, s, e, at)) ih = subst (λ u. Reaches M.steps sources u (number_of numbers u)) at (Reaches-own i s e)
      go (inr f) ih =
          let few = is_graph.few in
          let from_reached = below_reached (number_of numbers f.from) (omega (arith, ints, known.bounded, f.less, few)) in
          let before = ih f.from (is_graph.inside f.from f.is_place) from_reached (omega (arith, ints, high, f.less)) in
          subst (Reaches M.steps sources v) f.less (Reaches-step M.steps sources f.from v (number_of numbers f.from) before f.leads)

  -- along a path numbers rise by no more than it has steps
  along : (path : List ℕ) (u v : ℕ) → u < M.count → IsReached numbers u → linked (has_step M.steps) (u ∷ path) ≡ true → last_or (Some u) path ≡ Some v
      → (v < M.count) × IsReached numbers v × (number_of numbers v ≤ℤ (number_of numbers u +ℤ pos (length path)))
  along [] u v inside reached l e =
      let same : u ≡ v = same_Some u v e in
      let number : number_of numbers v ≡ number_of numbers u = ap (number_of numbers) (sym same) in
      (subst (λ w. w < M.count) same inside, subst (λ w. IsReached numbers w) same reached, omega (arith, ints, number))
  along (w ∷ path) u v inside reached l e =
      let p : (has_step M.steps u w ≡ true) × (linked (has_step M.steps) (w ∷ path) ≡ true) = and_parts (has_step M.steps u w) (linked (has_step M.steps) (w ∷ path)) l in
      let step = done u inside reached w p.0 in
      let high = fits M sources is_graph are_sources numbers spreading.level u spreading.search.known inside reached in
      let place = (spreading.search.known.known u inside reached).is_place in
      let rest = along path w v (is_graph.inside w (is_graph.to_places u w place p.0)) (below_reached (number_of numbers w) (omega (arith, ints, step, high))) p.1 e in
      (rest.0, rest.1, omega (arith, ints, step, rest.2))

  least : (v : ℕ) (z : ℤ) → Reaches M.steps sources v z → (v < M.count) × IsReached numbers v × (number_of numbers v ≤ℤ z)
  least v z r = go r.path r.leads r.adds
    where
      go : (path : List ℕ) → Leads M.steps r.source.place v path → z ≡ r.source.number +ℤ pos (length path - 1) → (v < M.count) × IsReached numbers v × (number_of numbers v ≤ℤ z)
      go [] leads adds = cc leads.begins
      go (x ∷ path) leads adds =
          let same : x ≡ r.source.place = same_Some x r.source.place leads.begins in
          let own : number_of numbers x ≡ r.source.number = ap (number_of numbers) same ∙ spreading.search.known.own r.i r.source r.is_source in
          let inside : x < M.count = subst (λ w. w < M.count) (sym same) (is_graph.inside r.source.place (are_sources.places r.i r.source r.is_source)) in
          let reached : IsReached numbers x = subst (λ w. IsReached numbers w) (sym same) (source-reached M sources is_graph are_sources numbers spreading.level r.i r.source spreading.search.known r.is_source) in
          let rises = along path x v inside reached leads.directed leads.ends in
          (rises.0, rises.1, omega (arith, ints, rises.2, own, adds))

  pub spread-ends : AreLeastNumbers M sources numbers
  spread-ends = record {
    count = spreading.search.known.count;
    own = λ i s e.
        let inside = is_graph.inside s.place (are_sources.places i s e) in
        look_up numbers s.place (subst (λ n. s.place < n) (sym spreading.search.known.count) inside) ∙ ap (λ (z : ℤ). Some z) (spreading.search.known.own i s e);
    reached = λ v z e other. reached v z e other (looked_up numbers v z e);
    least = λ v z r.
        let (inside, at, low) = least v z r in
        (number_of numbers v, look_up numbers v (subst (λ n. v < n) (sym spreading.search.known.count) inside), at, low);
  }
    where
      high_enough : (v : ℕ) → v < M.count → IsReached numbers v → (number_of numbers v +ℤ pos (2 ^ 30)) ≤ℤ pos (2 ^ 32)
      high_enough v inside at = let high = fits M sources is_graph are_sources numbers spreading.level v spreading.search.known inside at in omega (arith, ints, high)

      reached : (v : ℕ) (z : ℤ) → slice_get numbers v ≡ Some z → z ≢ UNREACHED → number_of numbers v ≡ z → Reaches M.steps sources v z
      reached v z e other number =
          let within : v < length numbers = slice_get_within numbers v z e in
          let inside : v < M.count = subst (λ n. v < n) spreading.search.known.count within in
          let at : IsReached numbers v = λ f. other (sym number ∙ f) in
          subst (Reaches M.steps sources v) number (reaches (2 ^ 32) v inside at (high_enough v inside at))
