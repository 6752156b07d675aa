use Rattle.std.proofs.Common.{arith, ◌<◌, [], ◌∷◌, length, ◌≡◌, List, inl, refl}
use Rattle.tl_definitions.specs.declared.Cell.{Cell}
use Rattle.tl_definitions.specs.Lattice.{Side}
use Rattle.tl_definitions.specs.Region.{boundary}
use Rattle.tl_lists.proofs.Members.{In}
use Rattle.tl_definitions.proofs.InnerNumbers.{inner-at}
use Rattle.tl_closing.proofs.Edges.{Distinct-cells}
use Rattle.tl_closing.proofs.Circuit.{boundary-walk}
use Rattle.tl_closing.proofs.Start.{boundary-some}
use Rattle.tl_closing.proofs.InnerSteps.{inner-of_region}
use Rattle.tl_closing.proofs.OnCircuit.{circuit-corner, on_circuit-inner}
use Rattle.tl_closing.proofs.corners_of_the_region.Goals as goal

pub returns-clause-on_circuit : goal.returns-clause-on_circuit
returns-clause-on_circuit c R walk k v placed circuit e = circuit-corner R walk k v placed circuit e

pub returns-clause-inner : goal.returns-clause-inner
returns-clause-inner c R i v e = inner-of_region R v (inner-at R v i e)

pub returns-clause-some : goal.returns-clause-some
returns-clause-some c R walk accepted circuit = with_cells R.cells accepted.nonempty (λ a i. boundary-some R a i)
  where
    filled : (ss : List Side) (s : Side) → In s ss → 0 < length ss
    filled [] s i = absurd i
    filled (t ∷ ts) s i = omega arith

    with_cells : (cells : List Cell) → (cells ≡ [] → ⊥) → ((a : Cell) → In a cells → (s : Side) × In s (boundary R)) → 0 < length walk
    with_cells [] filled_up f = absurd (filled_up refl)
    with_cells (a ∷ cells) filled_up f =
        let (s, i) = f a (inl refl) in
        filled walk s (boundary-walk R (Distinct-cells R accepted.placed) walk circuit s i)

pub returns-clause-inner_or_on_circuit : goal.returns-clause-inner_or_on_circuit
returns-clause-inner_or_on_circuit c R walk v placed circuit of_region = on_circuit-inner R placed walk circuit v of_region
