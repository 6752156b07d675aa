use Rattle.std.proofs.Common.{inl, inr, length, arith}
use Rattle.std.proofs.lemmas.Bool.{cases_lt}
use Rattle.tl_definitions.specs.Lattice.{cell}
use Rattle.tl_grid.proofs.GridLemmas.{has-outside}
use Rattle.tl_tiling.proofs.LineLemmas.{allowed-outside, blank-past}
use Rattle.tl_tiling.proofs.letters.are_allowed.Goals as goal

pub returns-then-r-rows : goal.returns-then-r-rows
returns-then-r-rows c = λ e k.
    allowed-outside c.args.region.now c.args.line.now (cell c.args.r k)
    (has-outside c.args.region.now (cell c.args.r k) c.rows.ensures.is_grid (λ w. omega (arith, w.0, c.if-r-rows.true, c.rows.ensures.rows)))
    (c.are_blank.ensures e k (omega arith))

pub returns-then-are_allowed_in_both : goal.returns-then-are_allowed_in_both
returns-then-are_allowed_in_both c = λ e k.
    let R = c.args.region.now in
    let line = c.args.line.now in
    elim (cases_lt k R.columns) [
      | inl l ↦ elim (cases_lt k (length line)) [
        | inl m ↦ c.are_allowed_in_both.ensures c.if-are_allowed_in_both.true k m l
        | inr m ↦ allowed-outside R line (cell c.args.r k) (c.is_empty.ensures e k m) (blank-past line k m)
      ]
      | inr l ↦
          allowed-outside R line (cell c.args.r k) (has-outside R (cell c.args.r k) c.columns.ensures.is_grid (λ w. omega (arith, w.1, l)))
          (c.are_blank-2.ensures c.if-not-are_blank.false k (omega (arith, l, c.columns.ensures.columns)))
    ]
