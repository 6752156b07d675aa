-- Numbers that rise by the climbs of a tiling are its heights.
use Rattle.std.proofs.Common.{◌≡◌, List, Some, sym, ◌∙◌, ap, subst, ℤ, pos, ◌+ℤ◌}
use Rattle.std.specs.Prelude.{slice_get}
use Rattle.tl_definitions.specs.declared.Cell.{Cell}
use Rattle.tl_definitions.specs.declared.Corner.{Corner}
use Rattle.tl_definitions.specs.declared.Tile.{Tile}
use Rattle.tl_definitions.specs.Lattice.{Side}
use Rattle.tl_definitions.specs.Region.{Region}
use Rattle.tl_definitions.specs.Accepted.{Accepted, IsCircuit, circuit_corners}
use Rattle.tl_definitions.specs.Heights.{height, climb, AreHeights, AreHeightsOf}
use Rattle.tl_lists.proofs.Members.{In, Each, Each-at}
use Rattle.tl_closing.specs.Closing.{steps_round}
use Rattle.tl_closing.proofs.Stated.{Step, edges, In-edges, is_step-parts, numbers_of, numbers_of-heights, Start, start-of}

pub heights-by : (R : Region) (accepted : Accepted R) (walk : List Side) (v : Corner) → IsCircuit R walk → slice_get (circuit_corners walk) 0 ≡ Some v
    → (A : List Tile) (numbers : List ℤ) → numbers_of R (height R numbers) ≡ numbers → height R numbers v ≡ pos 0
    → Each (λ e. height R numbers e.1 ≡ height R numbers e.0 +ℤ climb R A e.0 e.1) (edges R) → AreHeights R A numbers
heights-by R accepted walk v circuit first A numbers listed zero each = record {
  heights = subst (AreHeightsOf R) listed (numbers_of-heights R (height R numbers));
  start = λ other w c e. ap (height R numbers) (start.only other w c e ∙ sym (start.only walk v circuit first)) ∙ zero;
  along = λ u w e. go u w (is_step-parts R u w e);
}
  where
    start : Start R
    start = start-of R accepted

    go : (u w : Corner) → (a : Cell) × In a R.cells × In (u, w) (steps_round R.kind a) → height R numbers w ≡ height R numbers u +ℤ climb R A u w
    go u w (a, i, j) =
        Each-at (λ (e : Step). height R numbers e.1 ≡ height R numbers e.0 +ℤ climb R A e.0 e.1) (u, w) (edges R) each (In-edges R accepted.placed a (u, w) i j)
