use Rattle.std.proofs.Common.{◌≡◌, ◌<◌, List, length, Some, refl, subst, arith, ap, sym, ◌∙◌}
use Rattle.std.specs.Prelude.{slice_get}
use Rattle.std.proofs.lemmas.List.{length-map}
use Rattle.std.proofs.lemmas.Option.{slice_get_read}
use Rattle.tl_definitions.specs.declared.Corner.{Corner}
use Rattle.tl_definitions.specs.Lattice.{Side}
use Rattle.tl_definitions.specs.Accepted.{circuit_corners}
use Rattle.tl_grid.specs.Sides.{side_by}
use Rattle.tl_boundary.proofs.SideLemmas.{corner-at}
use Rattle.tl_boundary.proofs.circuit_type.Circuit.corner.Goals as goal

pub returns : goal.returns
returns c =
    let steps = c.self.inside.steps.items in
    let within : c.args.k < length steps = omega (arith, c.requires, ap length c.self.view_is, length-map steps (side_by c.self.inside.kind)) in
    subst (λ (l : List Side). slice_get (circuit_corners l) c.args.k ≡ Some c.start.result) c.self.view_is
    (corner-at c.self.inside.kind steps c.args.k _ (slice_get_read steps (length steps) c.args.k _ refl within c.index.ensures)
    ∙ sym (ap (λ (v : Corner). Some v) c.start.ensures))
