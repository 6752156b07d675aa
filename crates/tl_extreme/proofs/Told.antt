-- What a search over the corners of a region tells.
use Rattle.std.proofs.Common.{◌≡◌, ℕ, Vec, Global, ◌^◌, Bool, false, List, Some, sym, ◌∙◌, ap, subst, arith, ℤ, pos, neg_ℤ, ◌≤ℤ◌}
use Rattle.std.specs.Prelude.{slice_get}
use Rattle.std.proofs.lemmas.Int.{ints}
use Rattle.tl_definitions.specs.declared.Corner.{Corner}
use Rattle.tl_definitions.specs.Lattice.{Side}
use Rattle.tl_definitions.specs.Accepted.{IsCircuit}
use Rattle.tl_definitions.specs.Heights.{height, AreLawful}
use Rattle.tl_closing.proofs.Stated.{circuit-corner}
use Rattle.tl_grid.specs.Grid.{IsGrid}
use Rattle.tl_definitions.specs.Region.{Region}
use Rattle.tl_search.specs.declared.spreading.Source.{Source}
use Rattle.tl_search.specs.declared.spreading.Outcome.{Outcome}
use Rattle.tl_search.specs.declared.spreading.Outcome.TheVariants.{Filled, Undercut}
use Rattle.tl_search.specs.Spreading.{AreSources, IsSpread, IsUndercut}
use Rattle.tl_extreme.specs.CornerGraph.{corner_of, graph_of, run_of}
use Rattle.tl_extreme.specs.Sources.{AreFromCircuit, IsSourceAt, turned_by}
use Rattle.tl_extreme.specs.Undercuts.{IsUndercutOf}
use Rattle.tl_extreme.proofs.AllNumbered.{numbers-low}
use Rattle.tl_extreme.proofs.CornerPlaces.{corner_of-place, run-step}
use Rattle.tl_extreme.proofs.Leading.{climbs-along}
use Rattle.tl_extreme.proofs.SpreadHeights.{AreFromSearch, turned-climbs}

pub record IsSearched (R : Region) (walk : List Side) (negated : Bool) (outcome : Outcome) : Type 0 where
  pub sources : List Source
  pub from : AreFromCircuit R walk negated sources
  pub are : AreSources (run_of negated R) sources
  pub spread : IsSpread (run_of negated R) sources outcome

-- where the sources are known by another name
pub searched : (R : Region) (walk : List Side) (negated : Bool) (made given : List Source) (outcome : Outcome) → given ≡ made
    → AreFromCircuit R walk negated made → AreSources (run_of negated R) made → IsSpread (run_of negated R) given outcome → IsSearched R walk negated outcome
searched R walk negated made given outcome same from are spread =
    record {
      sources = made;
      from = from;
      are = are;
      spread = subst (λ (xs : List Source). IsSpread (run_of negated R) xs outcome) same spread;
    }

module _ (R : Region) (walk : List Side) (negated : Bool) (outcome : Outcome) (s : IsSearched R walk negated outcome) where
  pub filled : (numbers : Vec ℤ Global) → outcome ≡ Filled numbers → AreFromSearch R walk negated s.sources numbers.items
  filled numbers is = record { from = s.from; are = s.are; least = subst (IsSpread (run_of negated R) s.sources) is s.spread }

  pub filled-low : (numbers : Vec ℤ Global) → outcome ≡ Filled numbers → (i : ℕ) (z : ℤ) → slice_get numbers.items i ≡ Some z → neg_ℤ (pos (2 ^ 30)) ≤ℤ z
  filled-low numbers is = numbers-low (run_of negated R) s.sources numbers.items s.are (subst (IsSpread (run_of negated R) s.sources) is s.spread)

pub undercut : (R : Region) (walk : List Side) (outcome : Outcome) → IsSearched R walk false outcome → (path : Vec ℕ Global) → outcome ≡ Undercut path → IsUndercutOf R walk path.items
undercut R walk outcome s path is = (s.sources, s.from, subst (IsSpread (graph_of R) s.sources) is s.spread)

-- where there are lawful heights no source is undercut
module _ (R : Region) (is_grid : IsGrid R) (walk : List Side) (circuit : IsCircuit R walk) (negated : Bool) (others : List ℤ) (lawful : AreLawful R others) where
  abbrev lawful_at : ℕ → ℤ
  lawful_at p = turned_by negated (height R others (corner_of R p))

  source-height : (sources : List Source) → AreFromCircuit R walk negated sources → (i : ℕ) (s : Source) → slice_get sources i ≡ Some s → lawful_at s.place ≡ s.number
  source-height sources from i s at = go (from.from_place i s at)
    where
      go : (k : ℕ) × IsSourceAt R walk negated k s → lawful_at s.place ≡ s.number
      go (k, (v, here, is_place, is_number)) =
          let corner : corner_of R s.place ≡ v = ap (corner_of R) is_place ∙ corner_of-place R is_grid v (circuit-corner R walk k v is_grid.placed circuit here) in
          ap (λ (w : Corner). turned_by negated (height R others w)) corner ∙ ap (turned_by negated) (lawful.boundary walk k v circuit here) ∙ sym is_number

  pub lawful-undercut : (outcome : Outcome) → IsSearched R walk negated outcome → (path : Vec ℕ Global) → outcome ≡ Undercut path → ⊥
  lawful-undercut outcome s path is =
      let u : IsUndercut (run_of negated R) s.sources path.items = subst (IsSpread (run_of negated R) s.sources) is s.spread in
      let climbs = climbs-along (run_of negated R).steps lawful_at (λ p q step. turned-climbs R others lawful negated (corner_of R p) (corner_of R q) (run-step R is_grid negated p q step)) u.from.place u.to.place path.items u.leads in
      let low = source-height s.sources s.from u.i u.from u.is_from in
      let high = source-height s.sources s.from u.j u.to u.is_to in
      let steep = u.too_steep in
      omega (arith, ints, climbs, low, high, steep)
