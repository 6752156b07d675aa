use Rattle.std.proofs.Common.{◌≡◌, ◌≢◌, List, ℕ, true, None, sym, ◌∙◌, ap, subst}
use Rattle.tl_definitions.specs.Region.{has}
use Rattle.tl_definitions.specs.Tiling.{Tiled}
use Rattle.tl_tiling.specs.Letters.{partner_in}
use Rattle.tl_tiling.proofs.DrawLemmas.{letters-partner, has_partner}
use Rattle.tl_tiling.proofs.tiling.Tiling.partner.Goals as goal

pub partner_in-requires-clause-named : goal.partner_in-requires-clause-named
partner_in-requires-clause-named c =
    subst (λ (l : List ℕ). partner_in c.self.inside.region.now l c.args.cell ≢ None) (sym c.as_slice.ensures.value)
    (has_partner c.self.inside.region.now c.self.inside.letters.items c.args.cell c.self.invariant.1 (subst (λ (t : Tiled). has t.region c.args.cell ≡ true) (sym c.self.view_is) c.requires))

pub returns : goal.returns
returns c =
    rw (← c.self.view_is)
    (letters-partner c.self.inside.region.now c.self.inside.letters.items c.args.cell c.self.invariant.0 c.self.invariant.1
    (subst (λ (t : Tiled). has t.region c.args.cell ≡ true) (sym c.self.view_is) c.requires)
    ∙ sym (ap (λ (l : List ℕ). partner_in c.self.inside.region.now l c.args.cell) c.as_slice.ensures.value) ∙ c.partner_in.ensures)
