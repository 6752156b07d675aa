use Rattle.std.proofs.Common.{w32, ◌≡◌, ◌+◌, ◌*◌, List, length, set, sym, ◌∙◌, ap, subst, arith, ℕ, ℤ, pos, ◌+ℤ◌}
use mir.Val.{to_z, of_z}
use Rattle.std.specs.Prelude.{slice_get}
use Rattle.std.proofs.lemmas.List.{get_or_read, length-set}
use Rattle.tl_definitions.specs.Lattice.{cell_width}
use Rattle.tl_definitions.specs.Region.{Region, inner_corners}
use Rattle.tl_definitions.specs.Accepted.{Accepted, circuit_corners}
use Rattle.tl_definitions.specs.Heights.{height, height_count, AreHeights}
use Rattle.tl_grid.specs.Grid.{IsGrid}
use Rattle.tl_closing.proofs.Stated.{fill-range, has-heights, heights-lawful, left_corner}
use Rattle.tl_height.proofs.FillLemmas.{InRange, sum-fits, sum-is}
use Rattle.tl_height.proofs.FilledNumbers.{AreFilled, ArePrefixes, IsNext, boundary-filled, filled-heights, is_next, more-filled}
use Rattle.tl_height.proofs.filling.fill.Goals as goal
use Rattle.tl_height.proofs.filling.fill.Goals.{After-inner-corner, After-rise_from_left, After-loop-i}

pub loop-i-init : goal.loop-i-init
loop-i-init c =
    let prefixes : ArePrefixes c.region-region.result.now c.args.circuit.now (length (circuit_corners c.args.circuit.now)) c.in_ok-numbers.numbers.items = record {
      count = c.in_ok-numbers.ensures.count;
      on = λ k v h e. c.in_ok-numbers.ensures.boundary k v e;
      off = c.in_ok-numbers.ensures.elsewhere;
    } in
    record {
      count = c.in_ok-numbers.ensures.count ∙ ap height_count c.region-region.ensures.region;
      filled =
          boundary-filled c.args.tiling.now.region c.args.tiling.now.tiles (subst Accepted c.region-region.ensures.region c.boundary_numbers.ensures.accepted) c.region-region.ensures.tiling
          c.args.circuit.now c.requires (length (circuit_corners c.args.circuit.now)) (omega arith) c.in_ok-numbers.numbers.items
          (subst (λ (R : Region). ArePrefixes R c.args.circuit.now (length (circuit_corners c.args.circuit.now)) c.in_ok-numbers.numbers.items) c.region-region.ensures.region prefixes);
    }

next : (c : After-inner-corner) → IsNext c.args.tiling.now.region c.args.tiling.now.tiles c.loop-i.i c.inner-corner.result c.loop-i.numbers.items (c.columns.result + 2) c.cell_width-back.result
next c =
    let same = c.region-region.ensures.region in
    is_next c.args.tiling.now.region c.args.tiling.now.tiles (subst Accepted same c.boundary_numbers.ensures.accepted) c.region-region.ensures.tiling (subst IsGrid same c.columns.ensures.is_grid)
    c.loop-i.i c.inner-corner.result (ap (λ (R : Region). slice_get (inner_corners R) c.loop-i.i) (sym same) ∙ c.inner-corner.ensures) c.loop-i.numbers.items c.loop-i.invariant.count
    (c.columns.result + 2) c.cell_width-back.result (ap (λ (n : ℕ). n + 2) c.columns.ensures.columns ∙ ap (λ (R : Region). R.columns + 2) same)
    (c.cell_width-back.ensures ∙ ap cell_width c.kind.ensures ∙ ap (λ (R : Region). cell_width R.kind) same)

pub overflow_add-place : goal.overflow_add-place
overflow_add-place c = let n = next (goal.at.overflow_add-place c).After-inner-corner in omega (arith, n.below, n.few)

pub overflow_sub-place : goal.overflow_sub-place
overflow_sub-place c = (next (goal.at.overflow_sub-place c).After-inner-corner).left

pub index-requires : goal.index-requires
index-requires c = let n = next (goal.at.index-requires c).After-inner-corner in omega (arith, n.left_below, c.loop-i.numbers.ok.0)

pub index_mut-requires : goal.index_mut-requires
index_mut-requires c = let n = next (goal.at.index_mut-requires c).After-inner-corner in omega (arith, n.below, c.loop-i.numbers.ok.0)

pub rise_from_left-requires : goal.rise_from_left-requires
rise_from_left-requires c = (next (goal.at.rise_from_left-requires c).After-inner-corner).inner

-- the two numbers that are added, and their sum
record Adds (a b z : ℤ) : Type 0 where
  first : InRange a
  sum : InRange z
  added : z ≡ a +ℤ b

adds : (c : After-rise_from_left) (numbers : List ℤ) → AreHeights c.args.tiling.now.region c.args.tiling.now.tiles numbers
    → Adds c.index.result.now c.rise_from_left.result (height c.args.tiling.now.region numbers c.inner-corner.result)
adds c numbers h =
    let R = c.args.tiling.now.region in
    let A = c.args.tiling.now.tiles in
    let same = c.region-region.ensures.region in
    let is_grid = subst IsGrid same c.columns.ensures.is_grid in
    let here = next (goal.at.overflow_add-index c).After-inner-corner in
    let read = get_or_read c.loop-i.numbers.items _ c.index.result.now here.left_below c.index.ensures (pos 0) ∙ here.read numbers h (c.loop-i.invariant.filled numbers h) in
    let range = fill-range R A numbers (subst Accepted same c.boundary_numbers.ensures.accepted) c.region-region.ensures.tiling h is_grid.rows_within is_grid.columns_within in
    record {
      first = subst InRange (sym read) (range (left_corner R.kind c.inner-corner.result) (omega (arith, here.column)));
      sum = range c.inner-corner.result here.column;
      added = c.rise_from_left.ensures.rise numbers h ∙ ap (λ (z : ℤ). z +ℤ c.rise_from_left.result) (sym read);
    }

pub overflow_add-index : goal.overflow_add-index
overflow_add-index c =
    let (numbers, h, one) =
    has-heights c.args.tiling.now.region c.args.tiling.now.tiles (subst Accepted c.region-region.ensures.region c.boundary_numbers.ensures.accepted) c.region-region.ensures.tiling in
    let s = adds c numbers h in
    sum-fits c.index.result.now c.rise_from_left.result _ s.first c.rise_from_left.ensures.low c.rise_from_left.ensures.high s.sum s.added

pub loop-i-preserved : goal.loop-i-preserved
loop-i-preserved c =
    let R = c.args.tiling.now.region in
    let v = c.inner-corner.result in
    let same = c.region-region.ensures.region in
    let here = (goal.at.loop-i-preserved c).After-rise_from_left in
    let z = to_z w32 (of_z w32 (to_z w32 (of_z w32 c.index.result.now) +ℤ to_z w32 (of_z w32 c.rise_from_left.result))) in
    let at : v.r * (c.columns.result + 2) + v.x ≡ v.r * (R.columns + 2) + v.x = ap (λ (n : ℕ). v.r * (n + 2) + v.x) (c.columns.ensures.columns ∙ ap (λ (S : Region). S.columns) same) in
    let value : (numbers : List ℤ) → AreHeights R c.args.tiling.now.tiles numbers → z ≡ height R numbers v = λ numbers h.
    let s = adds here numbers h in
    sum-is c.index.result.now c.rise_from_left.result (height R numbers v) s.first c.rise_from_left.ensures.low c.rise_from_left.ensures.high s.sum s.added in
    record {
      count = length-set c.loop-i.numbers.items (v.r * (c.columns.result + 2) + v.x) z ∙ c.loop-i.invariant.count;
      filled = λ numbers h.
          subst (λ (n : ℕ). AreFilled R (c.loop-i.i + 1) (set c.loop-i.numbers.items n z) numbers) (sym at)
          (more-filled R c.args.tiling.now.tiles (subst Accepted same c.boundary_numbers.ensures.accepted) c.region-region.ensures.tiling (subst IsGrid same c.columns.ensures.is_grid)
          c.loop-i.i v (ap (λ (S : Region). slice_get (inner_corners S) c.loop-i.i) (sym same) ∙ c.inner-corner.ensures) c.loop-i.numbers.items c.loop-i.invariant.count
          numbers (c.loop-i.invariant.filled numbers h) z (value numbers h));
    }

heights : (c : After-loop-i) → AreHeights c.args.tiling.now.region c.args.tiling.now.tiles c.loop-i.numbers.items
heights c =
    let same = c.region-region.ensures.region in
    filled-heights c.args.tiling.now.region c.args.tiling.now.tiles (subst Accepted same c.boundary_numbers.ensures.accepted) c.region-region.ensures.tiling c.loop-i.i
    (omega (arith, c.loop-i-test.false, c.inner_count-i-end.ensures.count, ap (λ (R : Region). length (inner_corners R)) same)) c.loop-i.numbers.items c.loop-i.invariant.count c.loop-i.invariant.filled

pub returns-clause-heights : goal.returns-clause-heights
returns-clause-heights c = heights c

pub returns-clause-lawful : goal.returns-clause-lawful
returns-clause-lawful c =
    heights-lawful c.args.tiling.now.region c.args.tiling.now.tiles c.loop-i.numbers.items (subst Accepted c.region-region.ensures.region c.boundary_numbers.ensures.accepted) c.region-region.ensures.tiling (heights c)
