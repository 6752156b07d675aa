use Rattle.std.proofs.Common.{◌≡◌, ◌&&◌, Bool, true, false, sym, ◌∙◌, ap}
use Rattle.std.specs.List.{list_any}
use Rattle.tl_definitions.specs.Lattice.{is_corner}
use Rattle.tl_definitions.specs.Darts.{darts, is_step_by}
use Rattle.tl_definitions.proofs.StepDarts.{is_step-darts}
use Rattle.tl_grid.proofs.rings.is_step.Goals as goal

pub returns-then-is_corner : goal.returns-then-is_corner
returns-then-is_corner c =
    let R = c.args.grid.now in
    let corner : is_corner R.kind c.args.from ≡ true = cc in
    c.is_step_by_some.ensures
    ∙ sym (is_step-darts R c.args.from c.args.to ∙ ap (λ (t : Bool). t && list_any (is_step_by R c.args.from c.args.to) (darts R.kind)) corner)

pub returns-else-is_corner : goal.returns-else-is_corner
returns-else-is_corner c =
    let R = c.args.grid.now in
    let none : is_corner R.kind c.args.from ≡ false = cc in
    c.if-is_corner.false
    ∙ sym (is_step-darts R c.args.from c.args.to ∙ ap (λ (t : Bool). t && list_any (is_step_by R c.args.from c.args.to) (darts R.kind)) none)
