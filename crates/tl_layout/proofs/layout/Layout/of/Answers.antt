use Rattle.std.proofs.Common.{◌+◌, ℕ, ap, arith}
use Rattle.tl_layout.proofs.Stood.{columns-small-by, layout-of}
use Rattle.tl_layout.proofs.layout.Layout.of.Goals as goal

pub columns_of-first-requires-clause-columns : goal.columns_of-first-requires-clause-columns
columns_of-first-requires-clause-columns c =
    columns-small-by c.args.region.now c.kind-kind.result c.columns-width.result c.inner_places.result.now c.columns-width.ensures.is_grid c.kind-kind.ensures c.columns-width.ensures.columns
    c.inner_places.ensures.places

pub returns : goal.returns
returns c =
    layout-of c.args.region.now _ c.columns_of-first.result.last c.inner_places.result.now c.columns-width.ensures.is_grid c.kind-kind.ensures
    (ap (λ (n : ℕ). n + 2) c.columns-width.ensures.columns) (ap (λ (n : ℕ). n + 4) c.rows.ensures.rows) (omega (arith, c.saturating_sub.ensures)) c.inner_places.ensures.places
    c.columns_of-first.ensures.between
