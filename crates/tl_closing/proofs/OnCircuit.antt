-- The corners of a circuit are corners of the region: those that are no inner corners.
use Rattle.std.proofs.Common.{◌≡◌, ℕ, ◌⊎◌, inl, inr, true, not, List, Some, sym, ◌∙◌, ap, subst}
use Rattle.std.specs.Prelude.{slice_get}
use Rattle.std.specs.List.{list_any}
use Rattle.std.proofs.lemmas.Bool.{false_from_ne_true}
use Rattle.tl_definitions.specs.declared.Corner.{Corner}
use Rattle.tl_definitions.specs.Lattice.{corner_eq, Side}
use Rattle.tl_definitions.specs.Region.{Region, is_corner_of, is_inner}
use Rattle.tl_definitions.specs.Accepted.{IsPlaced, IsCircuit, circuit_corners}
use Rattle.tl_lists.proofs.Members.{In, In-map, In-map_parts, slice_get-In}
use Rattle.tl_definitions.proofs.Walks.{corner-In, In-corner}
use Rattle.tl_closing.proofs.Edges.{Distinct-cells}
use Rattle.tl_closing.proofs.Circuit.{walk-boundary, boundary-walk}
use Rattle.tl_closing.proofs.Start.{boundary-corner}
use Rattle.tl_closing.proofs.Ring.{BeginsAt, inner-or-boundary, inner-off_boundary}

pub circuit-corner : (R : Region) (walk : List Side) (k : ℕ) (v : Corner) → IsPlaced R → IsCircuit R walk → slice_get (circuit_corners walk) k ≡ Some v
    → is_corner_of R v ≡ true
circuit-corner R walk k v placed circuit e = go (In-map_parts (λ (s : Side). s.from) v walk (slice_get-In (circuit_corners walk) k v e))
  where
    go : (s : Side) × In s walk × (v ≡ s.from) → is_corner_of R v ≡ true
    go (s, i, same) =
        subst (λ (u : Corner). is_corner_of R u ≡ true) (sym same)
        (boundary-corner R s (walk-boundary R (Distinct-cells R placed) walk circuit s i))

module _ (R : Region) (placed : IsPlaced R) (walk : List Side) (circuit : IsCircuit R walk) (v : Corner) where
  inner-off : is_inner R v ≡ true → list_any (corner_eq v) (circuit_corners walk) ≡ true → ⊥
  inner-off inner on = go (In-map_parts (λ (s : Side). s.from) v walk (corner-In v (circuit_corners walk) on))
    where
      go : (s : Side) × In s walk × (v ≡ s.from) → ⊥
      go (s, i, same) = inner-off_boundary R v inner s (walk-boundary R (Distinct-cells R placed) walk circuit s i) (sym same)

  begins-on : BeginsAt R v → list_any (corner_eq v) (circuit_corners walk) ≡ true
  begins-on (s, i, from) =
      In-corner v (circuit_corners walk)
      (subst (λ (u : Corner). In u (circuit_corners walk)) from (In-map (λ (s : Side). s.from) s walk (boundary-walk R (Distinct-cells R placed) walk circuit s i)))

  pub on_circuit-inner : is_corner_of R v ≡ true → list_any (corner_eq v) (circuit_corners walk) ≡ not (is_inner R v)
  on_circuit-inner e = go (inner-or-boundary R v e)
    where
      go : BeginsAt R v ⊎ (is_inner R v ≡ true) → list_any (corner_eq v) (circuit_corners walk) ≡ not (is_inner R v)
      go (inl begins) = begins-on begins ∙ ap not (sym (false_from_ne_true (is_inner R v) (λ inner. inner-off inner (begins-on begins))))
      go (inr inner) = false_from_ne_true _ (λ on. inner-off inner on) ∙ ap not (sym inner)
