-- A region within the limits has few inner corners.
use Rattle.std.proofs.Common.{◌≡◌, ℕ, ◌+◌, ◌*◌, ◌≤◌, Bool, List, length, ap, arith}
use Rattle.std.specs.Prelude.{filter}
use Rattle.std.proofs.lemmas.List.Sums.{count_by-le-length, length-filter}
use Rattle.std.proofs.Math.Nat.{mul-le-mul}
use Rattle.tl_definitions.specs.declared.TheConstants.{SIDE_LIMIT}
use Rattle.tl_definitions.specs.Limits.{most_corners}
use Rattle.tl_definitions.specs.Region.{Region, corner_rows, inner_corners, is_inner}
use Rattle.tl_definitions.proofs.CornerRows.{length-corner_rows}
use Rattle.tl_definitions.proofs.InnerNumbers.{inner_corners-rows}

length-filter_le : {A : Type 0} (p : A → Bool) (xs : List A) → length (filter p xs) ≤ length xs
length-filter_le p xs = omega (arith, length-filter p xs, count_by-le-length p xs)

pub inner-few : (R : Region) → R.rows ≤ SIDE_LIMIT → R.columns ≤ SIDE_LIMIT → length (inner_corners R) ≤ most_corners
inner-few R rows columns =
    let product : (R.rows + 1) * (R.columns + 2) ≤ (SIDE_LIMIT + 1) * (SIDE_LIMIT + 2) =
    mul-le-mul {n₁ = R.rows + 1} {m₁ = R.columns + 2} {n₂ = SIDE_LIMIT + 1} {m₂ = SIDE_LIMIT + 2} (omega (arith, rows)) (omega (arith, columns)) in
    let shorter : length (filter (is_inner R) (corner_rows (R.columns + 2) (R.rows + 1))) ≤ length (corner_rows (R.columns + 2) (R.rows + 1)) =
    length-filter_le (is_inner R) (corner_rows (R.columns + 2) (R.rows + 1)) in
    omega (arith, ap length (inner_corners-rows R), shorter, length-corner_rows (R.columns + 2) (R.rows + 1), product)
