use Rattle.std.proofs.Common.{◌+◌, ◌%◌, ◌∙◌, ap, sym, subst, refl, arith, ℕ}
use Rattle.tl_definitions.specs.declared.Kind.{Kind}
use Rattle.tl_grid.specs.Patterns.{facts_by, AreAllFacts}
use Rattle.tl_grid.proofs.PatternLemmas.{facts-none}
use Rattle.tl_grid.proofs.SurveyLemmas.{among-none}
use Rattle.tl_grid.proofs.survey.Survey.see_ring.Goals as goal

pub at-facts-requires-clause-table : goal.at-facts-requires-clause-table
at-facts-requires-clause-table c = subst (λ (k : Kind). AreAllFacts k c.args.table.now.all) (sym c.kind.ensures.kind) c.requires.table

pub returns-then-pattern-eq0 : goal.returns-then-pattern-eq0
returns-then-pattern-eq0 c =
    let R = c.args.grid.now in
    let parity : ℕ = (c.args.corner.r + c.args.corner.x) % 2 in
    record {
      seen =
          among-none R c.args.corner.r c.args.corner.x c.args.self.now _
          (sym c.requires.facts ∙ ap (facts_by R.kind parity) c.if-pattern-eq0.true ∙ facts-none R.kind parity (omega arith))
          c.requires.seen refl c.in_ok-push.ensures.items;
    }
