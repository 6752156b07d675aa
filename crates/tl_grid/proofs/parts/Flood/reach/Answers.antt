use Rattle.std.proofs.Common.{ap, sym, ◌∙◌, true, false, arith, ◌<◌, length, ℕ, get_or}
use Rattle.std.specs.Prelude.{slice_set}
use Rattle.std.proofs.lemmas.List.{get_or_read}
use Rattle.tl_grid.proofs.FloodLemmas.{reaches_new}
use Rattle.tl_grid.proofs.parts.Flood.reach.Goals as goal

pub returns-in_ok-push : goal.returns-in_ok-push
returns-in_ok-push c =
    let room : c.place-place.result < length c.args.self.now.reached.items = omega (arith, c.place-place.ensures.within, c.requires) in
    reaches_new c.args.grid.now c.args.cell c.args.self.now _ c.place-place.ensures.is_grid (sym c.has.ensures ∙ c.if-has.true) c.requires
    (ap (λ (n : ℕ). get_or c.args.self.now.reached.items n false) (sym c.place-place.ensures.place)
    ∙ sym (get_or_read c.args.self.now.reached.items c.place-place.result c.index.result.now room c.index.ensures false) ∙ c.if-not-index.true)
    (ap (λ (n : ℕ). slice_set c.args.self.now.reached.items n true) c.place-place.ensures.place)
    c.in_ok-push.ensures.items
