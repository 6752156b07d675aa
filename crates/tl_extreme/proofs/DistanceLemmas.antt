-- The numbers that spread from one corner are the distances from it.
use Rattle.std.proofs.Common.{◌≡◌, ℕ, zero, suc, ◌-◌, ◌≤◌, true, false, List, [], ◌∷◌, map, length, Some, refl, sym, ◌∙◌, ap, subst, arith, ℤ, pos}
use Rattle.std.specs.Prelude.{slice_get}
use Rattle.std.proofs.lemmas.Int.{ints}
use Rattle.std.proofs.lemmas.List.{length-map}
use Rattle.tl_definitions.specs.declared.Corner.{Corner}
use Rattle.tl_definitions.specs.Region.{Region, is_corner_of}
use Rattle.tl_definitions.specs.Accepted.{Accepted}
use Rattle.tl_grid.specs.Grid.{IsGrid}
use Rattle.tl_search.specs.declared.spreading.Source.{Source}
use Rattle.tl_search.specs.declared.spreading.TheConstants.{UNREACHED}
use Rattle.tl_search.specs.Graphs.{Leads}
use Rattle.tl_search.specs.Spreading.{AreSources, AreLeastNumbers, IsUndercut}
use Rattle.tl_extreme.specs.Paths.{IsDirectedPath, IsDistance}
use Rattle.tl_extreme.specs.CornerGraph.{place, corner_of, graph_of}
use Rattle.tl_extreme.specs.Distances.{AreDistances}
use Rattle.tl_extreme.proofs.AllNumbered.{IsNumbered, all-numbered}
use Rattle.tl_extreme.proofs.CornerPlaces.{corner_of-place}
use Rattle.tl_extreme.proofs.Leading.{leads-length}
use Rattle.tl_extreme.proofs.MappedPaths.{leads-directed, directed-leads}

module _ (R : Region) (is_grid : IsGrid R) (accepted : Accepted R) (from : Corner) (corner : is_corner_of R from ≡ true) (s : Source) (is_place : s.place ≡ place R from) (is_zero : s.number ≡ pos 0) where
  only : (i : ℕ) (t : Source) → slice_get (s ∷ []) i ≡ Some t → t ≡ s
  only zero t e = cc e
  only (suc i) t e = cc e

  number-is : (i : ℕ) (t : Source) → slice_get (s ∷ []) i ≡ Some t → t.number ≡ pos 0
  number-is i t e = ap (λ (u : Source). u.number) (only i t e) ∙ is_zero

  place-is : (i : ℕ) (t : Source) → slice_get (s ∷ []) i ≡ Some t → t.place ≡ place R from
  place-is i t e = ap (λ (u : Source). u.place) (only i t e) ∙ is_place

  pub one-source : AreSources (graph_of R) (s ∷ [])
  one-source =
      record {
        places = λ i t e. ap (λ (p : ℕ). is_corner_of R (corner_of R p)) (place-is i t e) ∙ ap (is_corner_of R) (corner_of-place R is_grid from corner) ∙ corner;
        one_number = λ i j t u e f same. number-is i t e ∙ sym (number-is j u f);
        in_order = λ i j t u le e f. let x = number-is i t e in let y = number-is j u f in omega (arith, ints, x, y);
        low = λ i t e. let x = number-is i t e in omega (arith, ints, x);
        high = λ i t e. let x = number-is i t e in omega (arith, ints, x);
      }

  -- one source alone can't be undercut
  pub no-undercut : (path : List ℕ) → IsUndercut (graph_of R) (s ∷ []) path → ⊥
  no-undercut path u =
      let x = number-is u.i u.from u.is_from in
      let y = number-is u.j u.to u.is_to in
      let steep = u.too_steep in
      omega (arith, ints, x, y, steep)

  module _ (numbers : List ℤ) (least : AreLeastNumbers (graph_of R) (s ∷ []) numbers) where
    from-numbered : IsNumbered R numbers from
    from-numbered =
        let own : slice_get numbers s.place ≡ Some s.number = least.own 0 s refl in
        (s.number, subst (λ (p : ℕ). slice_get numbers p ≡ Some s.number) is_place own, λ e. too_large s.number is_zero e)
      where
        too_large : (z : ℤ) → z ≡ pos 0 → z ≡ UNREACHED → ⊥
        too_large z e f = omega (arith, ints, e, f)

    distance : (v : Corner) → is_corner_of R v ≡ true → (n : ℕ) × (slice_get numbers (place R v) ≡ Some (pos n)) × IsDistance R from v n
    distance v on = go (all-numbered R is_grid accepted false (s ∷ []) numbers least from corner from-numbered v on)
      where
        go : IsNumbered R numbers v → (n : ℕ) × (slice_get numbers (place R v) ≡ Some (pos n)) × IsDistance R from v n
        go (z, at, some) =
            let r = least.reached (place R v) z at some in
            let long = leads-length (graph_of R).steps r.source.place (place R v) r.path r.leads in
            let adds = r.adds in
            let zero_from = number-is r.i r.source r.is_source in
            let z_is : z ≡ pos (length r.path - 1) = omega (arith, ints, adds, zero_from) in
            let begins : corner_of R r.source.place ≡ from = ap (corner_of R) (place-is r.i r.source r.is_source) ∙ corner_of-place R is_grid from corner in
            let ends = corner_of-place R is_grid v on in
            let path : List Corner = map (corner_of R) r.path in
            let directed : IsDirectedPath R (corner_of R r.source.place) (corner_of R (place R v)) path = leads-directed R is_grid r.source.place (place R v) r.path r.leads in
            let here : IsDirectedPath R from v path = subst (λ (w : Corner). IsDirectedPath R from w path) ends (subst (λ (w : Corner). IsDirectedPath R w (corner_of R (place R v)) path) begins directed) in (
              length r.path - 1,
              at ∙ ap (λ (y : ℤ). Some y) z_is,
              record {
                path = path;
                leads = here;
                steps = omega (arith, length-map r.path (corner_of R), long);
                least = λ other d. shortest z at r.path z_is long other d;
              },
            )
          where
            shortest : (z : ℤ) → slice_get numbers (place R v) ≡ Some z → (p : List ℕ) → z ≡ pos (length p - 1) → 1 ≤ length p
                → (other : List Corner) → IsDirectedPath R from v other → length (map (corner_of R) p) ≤ length other
            shortest z at p z_is long other d =
                let leads = directed-leads R is_grid from v other d in
                let other_length = length-map other (place R) in
                let other_long = leads-length (graph_of R).steps (place R from) (place R v) (map (place R) other) leads in
                let (n, there, numbered, small) = least.least (place R v) (pos (length (map (place R) other) - 1))
                (record {
                  i = 0;
                  source = s;
                  is_source = refl;
                  path = map (place R) other;
                  leads = subst (λ (q : ℕ). Leads (graph_of R).steps q (place R v) (map (place R) other)) (sym is_place) leads;
                  adds = omega (arith, ints, is_zero);
                }) in
                let same : n ≡ z = cc (there, at) in
                omega (arith, ints, same, small, z_is, long, other_length, other_long, length-map p (corner_of R))

    pub are-distances : AreDistances R from numbers
    are-distances = record { is_grid = is_grid; at = distance }
