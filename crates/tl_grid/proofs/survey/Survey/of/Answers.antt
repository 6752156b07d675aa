use Rattle.std.proofs.Common.{◌≡◌, ◌+◌, ℕ, subst, arith}
use Rattle.tl_definitions.specs.declared.Kind.{Kind}
use Rattle.tl_definitions.specs.Region.{corners_before}
use Rattle.tl_grid.specs.Patterns.{AreAllFacts}
use Rattle.tl_grid.specs.Survey.{IsSurveyAmong}
use Rattle.tl_grid.proofs.SurveyLemmas.{among-all}
use Rattle.tl_grid.proofs.survey.Survey.of.Goals as goal

pub see_row-requires-clause-table : goal.see_row-requires-clause-table
see_row-requires-clause-table c = subst (λ (k : Kind). AreAllFacts k c.new-table.result.all) c.kind.ensures.kind c.new-table.ensures

pub returns-clause-survey : goal.returns-clause-survey
returns-clause-survey c =
    let R = c.args.grid.now in
    let end : c.loop-r.r ≡ R.rows + 1 = omega (arith, c.loop-r-test.false, c.loop-r.auto.r-end, c.rows-r-end.ensures.rows) in
    among-all R c.loop-r.survey (subst (λ (r : ℕ). IsSurveyAmong R (corners_before (R.columns + 2) r 0) c.loop-r.survey) end c.loop-r.invariant)
