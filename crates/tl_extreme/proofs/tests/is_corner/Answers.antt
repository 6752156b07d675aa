use Rattle.std.proofs.Common.{◌≡◌, ◌⊎◌, inl, inr, true, false, List, sym, ◌∙◌, ap, subst}
use Rattle.std.specs.Prelude.{is_some, position}
use Rattle.std.specs.List.{list_any}
use Rattle.std.proofs.lemmas.Bool.{cases_Bool, false≢true}
use Rattle.tl_lists.proofs.Positions.{position-at, position-missing}
use Rattle.tl_definitions.specs.declared.Corner.{Corner}
use Rattle.tl_definitions.specs.Lattice.{corner_eq, Side}
use Rattle.tl_definitions.specs.Region.{Region, is_corner_of}
use Rattle.tl_definitions.specs.Accepted.{IsPlaced, IsCircuit, circuit_corners}
use Rattle.tl_definitions.proofs.Corners.{corner_eq-same}
use Rattle.tl_closing.proofs.Stated.{circuit-corner, inner-of_region}
use Rattle.tl_extreme.proofs.tests.is_corner.Goals as goal

-- a corner that has a place on the circuit is one of the region
placed-corner : (R : Region) (walk : List Side) (v : Corner) → IsPlaced R → IsCircuit R walk → is_some (position (corner_eq v) (circuit_corners walk)) ≡ true → is_corner_of R v ≡ true
placed-corner R walk v placed circuit some = go (cases_Bool (list_any (corner_eq v) (circuit_corners walk)))
  where
    go : (list_any (corner_eq v) (circuit_corners walk) ≡ true) ⊎ (list_any (corner_eq v) (circuit_corners walk) ≡ false) → is_corner_of R v ≡ true
    go (inl on) =
        let (u, at, same) = position-at (corner_eq v) (circuit_corners walk) on in
        subst (λ (w : Corner). is_corner_of R w ≡ true) (sym (corner_eq-same v u same)) (circuit-corner R walk _ u placed circuit at)
    go (inr off) = absurd (false≢true (sym (ap is_some (position-missing (corner_eq v) (circuit_corners walk) off)) ∙ some))

pub returns-then-is_some : goal.returns-then-is_some
returns-then-is_some c some = placed-corner c.args.region.now c.args.circuit.now c.args.corner c.rows.ensures.is_grid.placed c.requires (sym (ap is_some c.place_of.ensures) ∙ sym c.is_some.ensures ∙ some)

pub returns-else-is_some : goal.returns-else-is_some
returns-else-is_some c inner = inner-of_region c.args.region.now c.args.corner (sym c.is_inner.ensures ∙ inner)
