use Rattle.std.proofs.Common.{inl, inr, arith}
use Rattle.std.proofs.lemmas.Bool.{cases_lt}
use Rattle.tl_definitions.specs.Lattice.{cell}
use Rattle.tl_grid.proofs.GridLemmas.{has-outside}
use Rattle.tl_tiling.proofs.letters.is_empty.Goals as goal

pub returns : goal.returns
returns c = λ e k h.
    elim (cases_lt k c.args.region.now.columns) [
      | inl l ↦ c.loop-c.invariant e k h (omega (arith, l, c.loop-c-test.false, c.flags_of-flags.ensures.len))
      | inr l ↦ has-outside c.args.region.now (cell c.args.r k) c.flags_of-flags.ensures.is_grid (λ w. omega (arith, l, w.1))
    ]
