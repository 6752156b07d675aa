-- The corners of the circuit as sources of a search.
use Rattle.std.proofs.Common.{◌≡◌, ℕ, zero, suc, ◌<◌, ◌≤◌, Bool, true, false, List, [], ◌∷◌, map, length, Some, refl, sym, ◌∙◌, ap, subst, arith, ℤ, ◌-ℤ◌, ◌≤ℤ◌}
use Rattle.std.specs.Prelude.{slice_get}
use Rattle.std.proofs.lemmas.Int.{ints}
use Rattle.std.proofs.lemmas.List.{length-map}
use Rattle.std.proofs.lemmas.Option.{slice_get_within}
use Rattle.tl_lists.proofs.Members.{In, slice_get-In}
use Rattle.tl_lists.proofs.Distinct.{Distinct, Distinct-from}
use Rattle.tl_definitions.specs.declared.Corner.{Corner}
use Rattle.tl_definitions.specs.Lattice.{corner_eq, Side}
use Rattle.tl_definitions.specs.Region.{Region, is_corner_of}
use Rattle.tl_definitions.specs.Accepted.{IsCircuit, circuit_corners}
use Rattle.tl_definitions.specs.Obstruction.{prefix, IsGap}
use Rattle.tl_definitions.proofs.Corners.{corner_eq-refl}
use Rattle.tl_closing.proofs.Stated.{circuit-corner}
use Rattle.tl_grid.specs.Grid.{IsGrid}
use Rattle.tl_search.specs.declared.spreading.Source.{Source}
use Rattle.tl_search.specs.Spreading.{AreSources, IsUndercut}
use Rattle.tl_extreme.specs.Paths.{IsDirectedPath}
use Rattle.tl_extreme.specs.CornerGraph.{place, corner_of, graph_of, run_of}
use Rattle.tl_extreme.specs.Sources.{turned_by, IsSourceAt, IsSmall, AreFromCircuit}
use Rattle.tl_extreme.specs.Undercuts.{AreEndsAt, HasEndsOn, IsUndercutOf}
use Rattle.tl_extreme.proofs.CornerPlaces.{corner_of-place}
use Rattle.tl_extreme.proofs.MappedPaths.{leads-directed}

-- no element stands at two places
distinct-place : {A : Type 0} (xs : List A) → Distinct xs → (i j : ℕ) (x : A) → slice_get xs i ≡ Some x → slice_get xs j ≡ Some x → i ≡ j
distinct-place [] once i j x e f = cc e
distinct-place (y ∷ ys) once zero zero x e f = refl
distinct-place (y ∷ ys) once zero (suc j) x e f =
    let same : y ≡ x = cc e in absurd (once.0 (subst (λ z. In z ys) (sym same) (slice_get-In ys j x f)))
distinct-place (y ∷ ys) once (suc i) zero x e f =
    let same : y ≡ x = cc f in absurd (once.0 (subst (λ z. In z ys) (sym same) (slice_get-In ys i x e)))
distinct-place (y ∷ ys) once (suc i) (suc j) x e f = ap suc (distinct-place ys once.1 i j x e f)

module _ (R : Region) (is_grid : IsGrid R) (walk : List Side) (circuit : IsCircuit R walk) where
  on_circuit : (k : ℕ) (v : Corner) → slice_get (circuit_corners walk) k ≡ Some v → is_corner_of R v ≡ true
  on_circuit k v e = circuit-corner R walk k v is_grid.placed circuit e

  -- a corner stands at one place of the circuit
  circuit-place : (k l : ℕ) (v : Corner) → slice_get (circuit_corners walk) k ≡ Some v → slice_get (circuit_corners walk) l ≡ Some v → k ≡ l
  circuit-place = distinct-place (circuit_corners walk) (Distinct-from corner_eq corner_eq-refl (circuit_corners walk) circuit.once)

  within : (k : ℕ) (v : Corner) → slice_get (circuit_corners walk) k ≡ Some v → k < length walk
  within k v e = let inside = slice_get_within (circuit_corners walk) k v e in omega (arith, inside, length-map walk (λ (s : Side). s.from))

  corner-of-source : (k : ℕ) (u : Corner) (s : Source) → slice_get (circuit_corners walk) k ≡ Some u → s.place ≡ place R u → corner_of R s.place ≡ u
  corner-of-source k u s here is_place = ap (corner_of R) is_place ∙ corner_of-place R is_grid u (on_circuit k u here)

  module _ (negated : Bool) (sources : List Source) (from : AreFromCircuit R walk negated sources) where
    is_place-at : (i : ℕ) (s : Source) → slice_get sources i ≡ Some s → is_corner_of R (corner_of R s.place) ≡ true
    is_place-at i s e = go (from.from_place i s e)
      where
        go : (k : ℕ) × IsSourceAt R walk negated k s → is_corner_of R (corner_of R s.place) ≡ true
        go (k, (u, here, is_place, is_number)) = ap (is_corner_of R) (corner-of-source k u s here is_place) ∙ on_circuit k u here

    one-number : (i j : ℕ) (s t : Source) → slice_get sources i ≡ Some s → slice_get sources j ≡ Some t → s.place ≡ t.place → s.number ≡ t.number
    one-number i j s t e f same = go (from.from_place i s e) (from.from_place j t f)
      where
        go : (k : ℕ) × IsSourceAt R walk negated k s → (l : ℕ) × IsSourceAt R walk negated l t → s.number ≡ t.number
        go (k, (u, here, is_place, is_number)) (l, (v, there, is_place_there, is_number_there)) =
            let corners : u ≡ v = sym (corner-of-source k u s here is_place) ∙ ap (corner_of R) same ∙ corner-of-source l v t there is_place_there in
            let places = circuit-place k l v (subst (λ (w : Corner). slice_get (circuit_corners walk) k ≡ Some w) corners here) there in
            is_number ∙ ap (λ (n : ℕ). turned_by negated (prefix walk n)) places ∙ sym is_number_there

    pub circuit-sources : ((i j : ℕ) (s t : Source) → i ≤ j → slice_get sources i ≡ Some s → slice_get sources j ≡ Some t → s.number ≤ℤ t.number)
        → ((i : ℕ) (s : Source) → slice_get sources i ≡ Some s → IsSmall s)
        → AreSources (run_of negated R) sources
    circuit-sources ordered small = go negated refl
      where
        place_is : (t : Bool) (p : ℕ) → (run_of t R).is_place p ≡ is_corner_of R (corner_of R p)
        place_is false p = refl
        place_is true p = refl

        go : (t : Bool) → negated ≡ t → AreSources (run_of negated R) sources
        go t is =
            record {
              places = λ i s e. place_is negated s.place ∙ is_place-at i s e;
              one_number = one-number;
              in_order = ordered;
              low = λ i s e. (small i s e).0;
              high = λ i s e. (small i s e).1;
            }

  -- ---- an undercut is a gap

  module _ (path : List ℕ) (undercut : IsUndercutOf R walk path) where
    abbrev u : IsUndercut (graph_of R) undercut.0 path
    u = undercut.2

    abbrev corners : List Corner
    corners = map (corner_of R) path

    directed : IsDirectedPath R (corner_of R u.from.place) (corner_of R u.to.place) corners
    directed = leads-directed R is_grid u.from.place u.to.place path u.leads

    at_from : (k : ℕ) × IsSourceAt R walk false k u.from
    at_from = undercut.1.from_place u.i u.from u.is_from

    at_to : (k : ℕ) × IsSourceAt R walk false k u.to
    at_to = undercut.1.from_place u.j u.to u.is_to

    ends-by : (a : (k : ℕ) × IsSourceAt R walk false k u.from) (b : (k : ℕ) × IsSourceAt R walk false k u.to) → AreEndsAt walk corners a.0 b.0
    ends-by (k, (v, here, is_place, is_number)) (l, (w, there, is_place_there, is_number_there)) =
        record {
          k_on_circuit = within k v here;
          l_on_circuit = within l w there;
          begins = directed.begins ∙ ap (λ (x : Corner). Some x) (corner-of-source k v u.from here is_place) ∙ sym here;
          ends = directed.ends ∙ ap (λ (x : Corner). Some x) (corner-of-source l w u.to there is_place_there) ∙ sym there;
        }

    pub undercut-ends : HasEndsOn walk corners
    undercut-ends = (at_from.0, at_to.0, ends-by at_from at_to)

    pub undercut-gap : (rise : ℤ) → ((k l : ℕ) → AreEndsAt walk corners k l → rise ≡ prefix walk l -ℤ prefix walk k) → IsGap R rise corners
    undercut-gap rise is = go at_from at_to
      where
        go : (k : ℕ) × IsSourceAt R walk false k u.from → (k : ℕ) × IsSourceAt R walk false k u.to → IsGap R rise corners
        go (k, (v, here, is_place, is_number)) (l, (w, there, is_place_there, is_number_there)) =
            let ends = ends-by (k, (v, here, is_place, is_number)) (l, (w, there, is_place_there, is_number_there)) in
            let difference = is k l ends in
            let steep = u.too_steep in
            record {
              walk = walk;
              circuit = circuit;
              k = k;
              l = l;
              k_on_circuit = ends.k_on_circuit;
              l_on_circuit = ends.l_on_circuit;
              begins = ends.begins;
              ends = ends.ends;
              directed = directed.directed;
              difference = difference;
              too_steep = omega (arith, ints, steep, difference, is_number, is_number_there, length-map path (corner_of R));
            }
