use Rattle.std.proofs.Common.{◌≡◌, ◌+◌, ◌∙◌, map, take, length, ap, sym, arith, ℕ, Bool}
use mathlib.Core.List.{map-map}
use Rattle.std.proofs.lemmas.List.{length-take, length-map}
use Rattle.std.proofs.lemmas.List.FromFn.{take-map-range_with_len, length-map-range_with_len}
use Rattle.tl_definitions.specs.Lattice.{cell}
use Rattle.tl_definitions.specs.Region.{Region, has, row_part}
use Rattle.tl_lists.specs.Lists.{upto}
use Rattle.tl_region.proofs.region.Region.row.Goals as goal

pub slice_bounds-result-end : goal.slice_bounds-result-end
slice_bounds-result-end c =
    let R = c.self.inside.grid in
    let long : length c.row.result.now ≡ R.columns + 2 =
    ap length c.row.ensures.row ∙ length-map (row_part c.args.r 0 (R.columns + 2)) (has R) ∙ length-map-range_with_len (λ x. cell c.args.r x) 0 (R.columns + 2) in
    omega (arith, length-take c.columns.result c.row.result.now, long, c.columns.ensures.columns)

pub returns-clause-row : goal.returns-clause-row
returns-clause-row c =
    let R = c.self.inside.grid in
    let f : ℕ → Bool = λ x. has R (cell c.args.r x) in
    (λ i. take (c.columns.ensures.columns i) (c.row.ensures.row i))
    ∙ ap (take R.columns) (map-map (has R) (λ x. cell c.args.r x) (upto (R.columns + 2)))
    ∙ take-map-range_with_len f 0 (R.columns + 2) R.columns (omega arith)
    ∙ sym (map-map (has R) (λ x. cell c.args.r x) (upto R.columns))
    ∙ ap (λ (S : Region). map (has S) (row_part c.args.r 0 S.columns)) c.self.view_is
