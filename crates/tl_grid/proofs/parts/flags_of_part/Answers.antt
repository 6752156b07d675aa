use Rattle.std.proofs.Common.{ℕ, ◌*◌, ap, ◌∙◌, refl, arith}
use Rattle.std.proofs.lemmas.List.{nil_from_length}
use Rattle.tl_grid.proofs.FloodLemmas.{flood_start, flood_more, flood_over, flood-has, first-has, none_set}
use Rattle.tl_grid.proofs.parts.flags_of_part.Goals as goal

pub loop-cell-init : goal.loop-cell-init
loop-cell-init c =
    let none = none_set c.args.grid.now _ c.in_ok-vec.field-0.items (ap (λ (n : ℕ). n * c.columns.result) c.rows.ensures.rows ∙ ap (λ (n : ℕ). c.args.grid.now.rows * n) c.columns.ensures.columns) (c.in_ok-vec.ensures.items_if_clones_equal (λ y e. e)) in
    (c.cell.result, c.cell.ensures, flood_start c.args.grid.now c.cell.result _ c.reach.new.self (first-has c.args.grid.now c.cell.result c.cell.ensures) none.0 none.1 c.new.ensures.items c.in_ok-reach.ensures)

pub spread-requires-clause-inside : goal.spread-requires-clause-inside
spread-requires-clause-inside c =
    flood-has c.args.grid.now c.loop-cell.invariant.0 c.in-Some.cell c.loop-cell.flood c.pop.new.self.items c.loop-cell.invariant.2 c.in-Some.ensures.items

pub loop-cell-preserved : goal.loop-cell-preserved
loop-cell-preserved c = (
  c.loop-cell.invariant.0,
  c.loop-cell.invariant.1,
  flood_more c.args.grid.now c.loop-cell.invariant.0 c.in-Some.cell c.loop-cell.flood _ c.spread.new.self c.loop-cell.invariant.2 refl c.in-Some.ensures.items c.in_ok-spread.ensures,
)

pub returns : goal.returns
returns c =
    flood_over c.args.grid.now c.loop-cell.invariant.0 c.loop-cell.flood c.loop-cell.invariant.1
    (nil_from_length c.loop-cell.flood.waiting.items (omega (arith, c.in_default.ensures.cases.0, c.loop-cell.flood.waiting.ok.0))) c.loop-cell.invariant.2
