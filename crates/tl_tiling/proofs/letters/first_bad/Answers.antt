use Rattle.std.proofs.Common.{inl, inr, arith}
use Rattle.std.proofs.lemmas.Bool.{cases_lt}
use Rattle.tl_definitions.specs.Lattice.{cell}
use Rattle.tl_grid.proofs.GridLemmas.{has-outside}
use Rattle.tl_tiling.proofs.LineLemmas.{allowed-outside, blank-past}
use Rattle.tl_tiling.proofs.letters.first_bad.Goals as goal

pub returns : goal.returns
returns c = λ k.
    elim (cases_lt k c.loop-c.c) [
      | inl l ↦ c.loop-c.invariant k l
      | inr l ↦
          allowed-outside c.args.region.now c.args.line.now (cell c.args.r k)
          (has-outside c.args.region.now (cell c.args.r k) c.columns.ensures.is_grid (λ w. omega (arith, w.1, l, c.loop-c-test.false, c.max-c-end.ensures, c.columns.ensures.columns)))
          (blank-past c.args.line.now k (omega (arith, l, c.loop-c-test.false, c.max-c-end.ensures)))
    ]
