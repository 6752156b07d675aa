use Rattle.std.proofs.Common.{◌≡◌, ◌+◌, length, ap, sym, subst, arith, ℕ}
use Rattle.tl_definitions.specs.Lattice.{corner}
use Rattle.tl_definitions.specs.Region.{corners_before}
use Rattle.tl_definitions.proofs.CornerRows.{before-row}
use Rattle.tl_grid.specs.Survey.{IsSurveyAmong}
use Rattle.tl_grid.proofs.PatternLemmas.{pattern-flags, pattern-before, pattern-facts, length-above, length-row}
use Rattle.tl_grid.proofs.survey.Survey.see_row.Goals as goal

pub bounds-above-x : goal.bounds-above-x
bounds-above-x c =
    omega (arith, c.loop-x-test.true, c.columns-x-end.ensures.columns, ap length c.row_above-above.ensures, length-above c.args.grid.now c.args.r)

pub bounds-below-x : goal.bounds-below-x
bounds-below-x c =
    omega (arith, c.loop-x-test.true, c.columns-x-end.ensures.columns, ap length c.row-below.ensures.row, length-row c.args.grid.now c.args.r)

pub see_ring-requires-clause-pattern : goal.see_ring-requires-clause-pattern
see_ring-requires-clause-pattern c =
    let here = pattern-flags c.args.grid.now c.args.r c.loop-x.x c.loop-x.pattern c.next_pattern-pattern.result c.row_above-above.result.now c.row-below.result.now
    c.next_pattern-pattern.ensures.next (omega (arith, c.loop-x-test.true, c.columns-x-end.ensures.columns)) c.loop-x.invariant.before c.row_above-above.ensures
    c.row-below.ensures.row in
    here.small

pub see_ring-requires-clause-facts : goal.see_ring-requires-clause-facts
see_ring-requires-clause-facts c =
    let here = pattern-flags c.args.grid.now c.args.r c.loop-x.x c.loop-x.pattern c.next_pattern-pattern.result c.row_above-above.result.now c.row-below.result.now
    c.next_pattern-pattern.ensures.next (omega (arith, c.loop-x-test.true, c.columns-x-end.ensures.columns)) c.loop-x.invariant.before c.row_above-above.ensures
    c.row-below.ensures.row in
    pattern-facts c.args.grid.now (corner c.args.r c.loop-x.x) c.next_pattern-pattern.result here

pub loop-x-preserved : goal.loop-x-preserved
loop-x-preserved c =
    let here = pattern-flags c.args.grid.now c.args.r c.loop-x.x c.loop-x.pattern c.next_pattern-pattern.result c.row_above-above.result.now c.row-below.result.now
    c.next_pattern-pattern.ensures.next (omega (arith, c.loop-x-test.true, c.columns-x-end.ensures.columns)) c.loop-x.invariant.before c.row_above-above.ensures
    c.row-below.ensures.row in
    record {
      before = pattern-before c.args.grid.now c.args.r c.loop-x.x c.next_pattern-pattern.result here;
      seen = c.in_ok-see_ring.ensures.seen;
    }

pub returns-clause-seen : goal.returns-clause-seen
returns-clause-seen c =
    let R = c.args.grid.now in
    let end : c.loop-x.x ≡ R.columns + 2 = omega (arith, c.loop-x-test.false, c.loop-x.auto.x-end, c.columns-x-end.ensures.columns) in
    subst (λ l. IsSurveyAmong R l c.loop-x.self) (sym (before-row (R.columns + 2) c.args.r))
    (subst (λ (x : ℕ). IsSurveyAmong R (corners_before (R.columns + 2) c.args.r x) c.loop-x.self) end c.loop-x.invariant.seen)
