use Rattle.std.proofs.Common.{w32, ◌≡◌, ◌+◌, ◌-◌, ◌*◌, ℕ, List, get_or, set, sym, ◌∙◌, ap, subst, arith, ℤ, pos, ◌+ℤ◌}
use mir.Val.{to_z, of_z}
use Rattle.std.proofs.lemmas.List.{length-set}
use Rattle.tl_definitions.specs.declared.Kind.{Kind}
use Rattle.tl_definitions.specs.Lattice.{cell_width}
use Rattle.tl_definitions.specs.Heights.{height}
use Rattle.tl_closing.proofs.Stated.{heights-within_limits, inner-of_region, left_corner}
use Rattle.tl_layout.specs.Layouts.{size_of, Stands}
use Rattle.tl_pack.specs.Packs.{AreHeld, strings_of}
use Rattle.tl_pack.proofs.Filled.{AreFilled, IsNext, boundary-filled, filled-heights, is_next, more-filled}
use Rattle.tl_pack.proofs.Left.{left-within, told-in}
use Rattle.tl_pack.proofs.Sums.{Adds, IsSmall, sum-fits, sum-is}
use Rattle.tl_pack.proofs.unpacking.unpack.Goals as goal
use Rattle.tl_pack.proofs.unpacking.unpack.Goals.{After-inner-corner, After-rise_from_left-climb}

pub loop-i-init : goal.loop-i-init
loop-i-init c = record {
  count = c.requires.lawful.heights.count;
  filled = λ heights held. boundary-filled c.args.region.now c.rows.ensures.accepted c.args.numbers.now heights c.requires.lawful held.lawful;
}

next : (c : After-inner-corner) → IsNext c.args.region.now c.loop-i.i c.inner-corner.result c.loop-i.numbers (c.columns.result + 2) c.cell_width-back.result
next c =
    is_next c.args.region.now c.rows.ensures.accepted c.columns.ensures.is_grid c.loop-i.i c.inner-corner.result c.inner-corner.ensures c.loop-i.numbers c.loop-i.invariant.count
    (c.columns.result + 2) c.cell_width-back.result (ap (λ (n : ℕ). n + 2) c.columns.ensures.columns) (c.cell_width-back.ensures ∙ ap cell_width c.kind.ensures)

pub overflow_add-place : goal.overflow_add-place
overflow_add-place c = let n = next (goal.at.overflow_add-place c).After-inner-corner in omega (arith, n.below, n.few)

pub rise_from_left-climb-requires-clause-row : goal.rise_from_left-climb-requires-clause-row
rise_from_left-climb-requires-clause-row c = let n = next (goal.at.rise_from_left-climb-requires-clause-row c).After-inner-corner in omega (arith, n.row, c.columns.ensures.is_grid.rows_within)

pub rise_from_left-climb-requires-clause-place : goal.rise_from_left-climb-requires-clause-place
rise_from_left-climb-requires-clause-place c = let n = next (goal.at.rise_from_left-climb-requires-clause-place c).After-inner-corner in omega (arith, n.column, c.columns.ensures.is_grid.columns_within)

pub rise_from_left-climb-requires-clause-stands : goal.rise_from_left-climb-requires-clause-stands
rise_from_left-climb-requires-clause-stands c =
    subst (λ (k : Kind). Stands k c.args.layout.now.first c.args.layout.now.height (size_of c.args.layout.now) c.inner-corner.result) (sym c.requires.layout.kind)
    (c.requires.layout.stands c.inner-corner.result (next (goal.at.rise_from_left-climb-requires-clause-stands c).After-inner-corner).inner)

adds : (c : After-rise_from_left-climb) (heights : List ℤ)
    → AreHeld c.args.region.now c.args.layout.now (strings_of c.args.first.now c.args.second.now c.args.third.now) c.args.shift heights
    → (n : IsNext c.args.region.now c.loop-i.i c.inner-corner.result c.loop-i.numbers (c.columns.result + 2) c.cell_width-back.result)
    → Adds (get_or c.loop-i.numbers (c.inner-corner.result.r * (c.columns.result + 2) + c.inner-corner.result.x - c.cell_width-back.result) (pos 0)) c.rise_from_left-climb.result (height c.args.region.now heights c.inner-corner.result)
adds c heights held n =
    let R = c.args.region.now in
    let v = c.inner-corner.result in
    let grid = c.columns.ensures.is_grid in
    let left = left-within R v n.inner in
    let of_region = inner-of_region R v n.inner in
    let read = n.read heights (c.loop-i.invariant.filled heights held) in
    let near = heights-within_limits R heights (left_corner R.kind v) c.rows.ensures.accepted held.lawful grid.rows_within grid.columns_within left.1 in
    let here = heights-within_limits R heights v c.rows.ensures.accepted held.lawful grid.rows_within grid.columns_within of_region in
    record {
      first = subst IsSmall (sym read) (record { low = near.0; high = near.1 });
      low = c.rise_from_left-climb.ensures.low;
      high = c.rise_from_left-climb.ensures.high;
      sum = record { low = here.0; high = here.1 };
      added =
          told-in R c.args.layout.now (strings_of c.args.first.now c.args.second.now c.args.third.now) c.args.shift heights v c.requires.layout held c.requires.shift n.inner of_region left.1
          ∙ (λ i. sym read i +ℤ sym c.rise_from_left-climb.ensures.rise i);
    }

pub overflow_sub-numbers : goal.overflow_sub-numbers
overflow_sub-numbers c = (next (goal.at.overflow_sub-numbers c).After-inner-corner).left

pub offset_bounds-numbers-place : goal.offset_bounds-numbers-place
offset_bounds-numbers-place c = let n = next (goal.at.offset_bounds-numbers-place c).After-inner-corner in omega (arith, n.left_below, n.few)

pub slice_copy_out-numbers : goal.slice_copy_out-numbers
slice_copy_out-numbers c = (next (goal.at.slice_copy_out-numbers c).After-inner-corner).left_below

pub offset_bounds-numbers-place-in-loop-i : goal.offset_bounds-numbers-place-in-loop-i
offset_bounds-numbers-place-in-loop-i c = let n = next (goal.at.offset_bounds-numbers-place-in-loop-i c).After-inner-corner in omega (arith, n.below, n.few)

pub bounds-numbers-place : goal.bounds-numbers-place
bounds-numbers-place c = (next (goal.at.bounds-numbers-place c).After-inner-corner).below

pub overflow_add-numbers : goal.overflow_add-numbers
overflow_add-numbers c =
    let (heights, held) = c.requires.held in
    sum-fits _ c.rise_from_left-climb.result _ (adds (goal.at.overflow_add-numbers c).After-rise_from_left-climb heights held (next (goal.at.overflow_add-numbers c).After-inner-corner))

pub loop-i-preserved : goal.loop-i-preserved
loop-i-preserved c =
    let R = c.args.region.now in
    let v = c.inner-corner.result in
    let here = (goal.at.loop-i-preserved c).After-rise_from_left-climb in
    let n = next (goal.at.loop-i-preserved c).After-inner-corner in
    let old = get_or c.loop-i.numbers (v.r * (c.columns.result + 2) + v.x - c.cell_width-back.result) (pos 0) in
    let z = to_z w32 (of_z w32 (to_z w32 (of_z w32 old) +ℤ to_z w32 (of_z w32 c.rise_from_left-climb.result))) in
    let at : v.r * (c.columns.result + 2) + v.x ≡ v.r * (R.columns + 2) + v.x = ap (λ (n : ℕ). v.r * (n + 2) + v.x) c.columns.ensures.columns in
    record {
      count = length-set c.loop-i.numbers (v.r * (c.columns.result + 2) + v.x) z ∙ c.loop-i.invariant.count;
      filled = λ heights held.
          subst (λ (p : ℕ). AreFilled R (c.loop-i.i + 1) heights (set c.loop-i.numbers p z)) (sym at)
          (more-filled R c.rows.ensures.accepted c.columns.ensures.is_grid c.loop-i.i v c.inner-corner.ensures c.loop-i.numbers c.loop-i.invariant.count
          heights (c.loop-i.invariant.filled heights held) z (sum-is old c.rise_from_left-climb.result (height R heights v) (adds here heights held n)));
    }

pub returns : goal.returns
returns c heights held =
    filled-heights c.args.region.now c.rows.ensures.accepted c.loop-i.i (omega (arith, c.loop-i-test.false, c.inner_count-i-end.ensures.count)) c.loop-i.numbers heights
    c.loop-i.invariant.count held.lawful (c.loop-i.invariant.filled heights held)
