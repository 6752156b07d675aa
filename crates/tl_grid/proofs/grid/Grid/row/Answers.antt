use Rattle.std.proofs.Common.{◌≡◌, ◌+◌, ◌-◌, ◌*◌, ◌<◌, map, take, drop, subst, sym, ap, ◌∙◌, ℕ, List, Bool, arith}
use Rattle.tl_definitions.specs.Region.{Region, has, row_part}
use Rattle.tl_grid.proofs.GridLemmas.{row-flags}
use Rattle.tl_grid.proofs.grid.Grid.row.Goals as goal

pub returns-clause-row : goal.returns-clause-row
returns-clause-row c =
    let s = c.self.inside in
    let width = c.width-width.result in
    let R = c.args.self.now in
    let columns : s.columns + 2 ≡ width = ap (λ (S : Region). S.columns + 2) c.self.view_is ∙ sym c.width-width.ensures.width in
    let rows : c.args.r < s.rows + 1 = omega (arith, c.requires, ap (λ (S : Region). S.rows) c.self.view_is) in
    let size : c.args.r * width + width - c.args.r * width ≡ width = omega arith in
    ap (λ (n : ℕ). take n (drop (c.args.r * width) c.deref.result.now)) size
    ∙ ap (λ (l : List Bool). take width (drop (c.args.r * width) l)) c.deref.ensures.value
    ∙ subst (λ (n : ℕ). take n (drop (c.args.r * n) s.inside.items) ≡ map (has R) (row_part c.args.r 0 n)) columns
    (subst (λ (S : Region). take (s.columns + 2) (drop (c.args.r * (s.columns + 2)) s.inside.items) ≡ map (has S) (row_part c.args.r 0 (s.columns + 2))) c.self.view_is
    (row-flags (s.rows + 1) (s.columns + 2) c.args.r s.cells.items s.inside.items c.self.invariant.1 rows))
    ∙ ap (λ (n : ℕ). map (has R) (row_part c.args.r 0 n)) c.width-width.ensures.width
