use Rattle.std.proofs.Common.{List, subst, sym, ◌∙◌, ℤ, rules, w64}
use mir.Val.{SFits, to_z, of_z}
use Rattle.std.proofs.lemmas.Int.{to_z-of_z}
use Rattle.tl_definitions.specs.declared.Corner.{Corner}
use Rattle.tl_definitions.specs.Obstruction.{IsGap}
use Rattle.tl_extreme.specs.Undercuts.{AreEndsAt, HasEndsOn}
use Rattle.tl_extreme.proofs.CircuitSources.{undercut-ends, undercut-gap}
use Rattle.tl_extreme.proofs.verdicts.gap.Goals as goal

pub rise_along-rise-requires-clause-ends : goal.rise_along-rise-requires-clause-ends
rise_along-rise-requires-clause-ends c =
    subst (λ (p : List Corner). HasEndsOn c.args.circuit.now p) (sym (c.as_slice.ensures.value ∙ c.in_ok-path.ensures))
    (undercut-ends c.args.graph.now c.requires.is_grid c.args.circuit.now c.requires.circuit c.args.path.now c.requires.undercut)

pub returns : goal.returns
returns c =
    let walk = c.args.circuit.now in
    let fits : SFits w64 c.rise_along-rise.result = search rules in
    let z : ℤ = to_z w64 (of_z w64 c.rise_along-rise.result) in (
      subst (λ (p : List Corner). IsGap c.args.graph.now z p) (sym c.in_ok-path.ensures)
          (undercut-gap c.args.graph.now c.requires.is_grid walk c.requires.circuit c.args.path.now c.requires.undercut z
          (λ k l ends. to_z-of_z w64 c.rise_along-rise.result fits
          ∙ c.rise_along-rise.ensures k l (subst (λ (p : List Corner). AreEndsAt walk p k l) (sym (c.as_slice.ensures.value ∙ c.in_ok-path.ensures)) ends))),
      tt,
    )
