use Rattle.std.proofs.Common.{ℕ, ◌+◌, ◌*◌, ◌<◌, ◌≤◌, arith}
use Rattle.std.specs.Prelude.{◌^◌}
use Rattle.std.proofs.Math.Nat.{mul-le-mul}
use Rattle.tl_definitions.specs.declared.TheConstants.{SIDE_LIMIT}
use Rattle.tl_run.proofs.sample.size_of_drawings.Goals as goal

-- so many rows for each of so many samples; and so many columns for each row
rows-fit : (count rows : ℕ) → count < 2 ^ 32 → rows ≤ SIDE_LIMIT → count * rows ≤ 2 ^ 32 * SIDE_LIMIT
rows-fit count rows few within = let most : count ≤ 2 ^ 32 = omega (arith, few) in mul-le-mul most within

columns-fit : (count rows width : ℕ) → count < 2 ^ 32 → rows ≤ SIDE_LIMIT → width ≤ SIDE_LIMIT + 1 → count * rows * width ≤ 2 ^ 32 * SIDE_LIMIT * (SIDE_LIMIT + 1)
columns-fit count rows width few within wide = mul-le-mul (rows-fit count rows few within) wide

pub overflow_mul-result : goal.overflow_mul-result
overflow_mul-result c =
    let most : c.from.result * c.from-2.result ≤ 2 ^ 32 * SIDE_LIMIT = rows-fit c.from.result c.from-2.result (omega arith) (omega (arith, c.rows.ensures.is_grid.rows_within)) in
    omega (arith, most)

pub overflow_mul-result-2 : goal.overflow_mul-result-2
overflow_mul-result-2 c =
    let most : c.from.result * c.from-2.result * (c.from-width.result + 1) ≤ 2 ^ 32 * SIDE_LIMIT * (SIDE_LIMIT + 1) =
    columns-fit c.from.result c.from-2.result (c.from-width.result + 1) (omega arith) (omega (arith, c.rows.ensures.is_grid.rows_within)) (omega (arith, c.columns.ensures.is_grid.columns_within)) in
    omega (arith, most)
