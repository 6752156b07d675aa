use Rattle.std.proofs.Common.{◌≡◌, ◌<◌, true, sym, ◌∙◌, arith, below_more}
use Rattle.tl_definitions.specs.Lattice.{cell}
use Rattle.tl_tiling.specs.Letters.{is_settled}
use Rattle.tl_tiling.proofs.MatchLemmas.{unsettled-first, all-settled}
use Rattle.tl_tiling.proofs.matching.first_unmatched.Goals as goal

pub returns-then-not-is_settled-clause-first : goal.returns-then-not-is_settled-clause-first
returns-then-not-is_settled-clause-first c =
    sym (unsettled-first c.args.region.now c.args.letters.now c.requires c.loop-r.r c.loop-c.c c.rows-r-end.ensures.is_grid
    (omega (arith, c.loop-r-test.true, c.rows-r-end.ensures.rows)) (omega (arith, c.loop-c-test.true, c.columns-c-end.ensures.columns))
    c.loop-r.invariant c.loop-c.invariant (sym c.is_settled.ensures ∙ c.if-not-is_settled.true))

pub loop-c-preserved : goal.loop-c-preserved
loop-c-preserved c = below_more _ _ c.loop-c.invariant (sym c.is_settled.ensures ∙ c.if-not-is_settled.false)

pub loop-r-preserved : goal.loop-r-preserved
loop-r-preserved c = λ i k h l. below_more (λ i. k < c.args.region.now.columns → is_settled c.args.region.now c.args.letters.now (cell i k) ≡ true) c.loop-r.r (λ i h. c.loop-r.invariant i k h)
    (λ w. c.loop-c.invariant k (omega (arith, w, c.loop-c-test.false, c.columns-c-end.ensures.columns))) i h l

pub returns-clause-first : goal.returns-clause-first
returns-clause-first c =
    sym (all-settled c.args.region.now c.args.letters.now c.requires c.rows-r-end.ensures.is_grid
    (λ i k h l. c.loop-r.invariant i k (omega (arith, h, c.loop-r-test.false, c.rows-r-end.ensures.rows)) l))
