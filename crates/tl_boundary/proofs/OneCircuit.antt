-- A region without pinches has one circuit at most.
use Rattle.std.proofs.Common.{◌≡◌, inl, inr, List, [], ◌∷◌, ◌++◌, map, refl, sym, ◌∙◌, ap, subst}
use Rattle.tl_definitions.specs.declared.Corner.{Corner}
use Rattle.tl_definitions.specs.Lattice.{Side}
use Rattle.tl_definitions.specs.Region.{Region, boundary}
use Rattle.tl_definitions.specs.Accepted.{Accepted, IsCircuit, circuit_corners}
use Rattle.tl_lists.proofs.Members.{In}
use Rattle.tl_definitions.proofs.NextCorner.{one_side_from}
use Rattle.tl_definitions.proofs.Walks.{IsFreeOfPinches, distinct-tail}
use Rattle.tl_definitions.proofs.Circuits.{no_pinch-sides}
use Rattle.tl_closing.proofs.Stated.{Distinct-cells, walk-boundary, boundary-walk, first-one}

-- Sides of the boundary, each going on where the one before ends, and the last to a corner.
record GoesOn (R : Region) (end : Corner) (s : Side) (ss : List Side) : Type 0 where
  here : In s (boundary R)
  rest : (t : Side) → In t ss → In t (boundary R)
  linked : map (λ t. t.to) (s ∷ ss) ≡ circuit_corners ss ++ end ∷ []
  once : In end (circuit_corners ss) → ⊥

ends-here : (R : Region) (end : Corner) (s : Side) → GoesOn R end s [] → s.to ≡ end
ends-here R end s g = cc (g.linked)

goes-there : (R : Region) (end : Corner) (s t : Side) (ss : List Side) → GoesOn R end s (t ∷ ss) → s.to ≡ t.from
goes-there R end s t ss g = cc (g.linked)

goes_on-rest : (R : Region) (end : Corner) (s t : Side) (ss : List Side) → GoesOn R end s (t ∷ ss) → GoesOn R end t ss
goes_on-rest R end s t ss g = record {
  here = g.rest t (inl refl);
  rest = λ u i. g.rest u (inr i);
  linked = cc (g.linked);
  once = λ i. g.once (inr i);
}

-- two that begin at one corner are the same
same-first : (R : Region) → IsFreeOfPinches R → (end : Corner) (s t : Side) (ss ts : List Side) → GoesOn R end s ss → GoesOn R end t ts → s.from ≡ t.from → s ≡ t
same-first R free end s t ss ts g h e = one_side_from R s t (free s g.here).0 g.here h.here (sym e)

same-sides : (R : Region) → IsFreeOfPinches R → (end : Corner) (s t : Side) (ss ts : List Side) → GoesOn R end s ss → GoesOn R end t ts → s.from ≡ t.from → s ∷ ss ≡ t ∷ ts
same-sides R free end s t [] [] g h e = ap (λ (u : Side). u ∷ []) (same-first R free end s t [] [] g h e)
same-sides R free end s t [] (u ∷ us) g h e =
    let to : s.to ≡ t.to = ap (λ (v : Side). v.to) (same-first R free end s t [] (u ∷ us) g h e) in
    absurd (h.once (inl (sym (ends-here R end s g) ∙ (to ∙ goes-there R end t u us h))))
same-sides R free end s t (u ∷ us) [] g h e =
    let to : s.to ≡ t.to = ap (λ (v : Side). v.to) (same-first R free end s t (u ∷ us) [] g h e) in
    absurd (g.once (inl (sym (ends-here R end t h) ∙ (sym to ∙ goes-there R end s u us g))))
same-sides R free end s t (u ∷ us) (w ∷ ws) g h e =
    let first : s ≡ t = same-first R free end s t (u ∷ us) (w ∷ ws) g h e in
    let next : u.from ≡ w.from = sym (goes-there R end s u us g) ∙ (ap (λ (v : Side). v.to) first ∙ goes-there R end t w ws h) in
    ap (λ (v : Side). v ∷ (u ∷ us)) first
    ∙ ap (λ (l : List Side). t ∷ l) (same-sides R free end u w us ws (goes_on-rest R end s u us g) (goes_on-rest R end t w ws h) next)

-- all circuits of an accepted region are the same
pub one_circuit : (R : Region) (walk other : List Side) → Accepted R → IsCircuit R walk → IsCircuit R other → other ≡ walk
one_circuit R [] [] accepted c d = refl
one_circuit R (s ∷ ss) [] accepted c d = absurd (boundary-walk R (Distinct-cells R accepted.placed) [] d s (walk-boundary R (Distinct-cells R accepted.placed) (s ∷ ss) c s (inl refl)))
one_circuit R [] (t ∷ ts) accepted c d = absurd (boundary-walk R (Distinct-cells R accepted.placed) [] c t (walk-boundary R (Distinct-cells R accepted.placed) (t ∷ ts) d t (inl refl)))
one_circuit R (s ∷ ss) (t ∷ ts) accepted c d =
    same-sides R (no_pinch-sides R accepted.placed accepted.no_pinch) s.from t s ts ss (subst (λ (v : Corner). GoesOn R v t ts) (sym first) (goes_on t ts d)) (goes_on s ss c) (sym first)
  where
    first : s.from ≡ t.from
    first = first-one R (Distinct-cells R accepted.placed) s t ss ts c d

    goes_on : (u : Side) (us : List Side) → IsCircuit R (u ∷ us) → GoesOn R u.from u us
    goes_on u us e = record {
      here = walk-boundary R (Distinct-cells R accepted.placed) (u ∷ us) e u (inl refl);
      rest = λ v i. walk-boundary R (Distinct-cells R accepted.placed) (u ∷ us) e v (inr i);
      linked = e.closed;
      once = (distinct-tail u.from (circuit_corners us) e.once).0;
    }
