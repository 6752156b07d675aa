use Rattle.std.proofs.Common.{◌≡◌, ◌+◌, ◌*◌, ℕ, ap, arith}
use Rattle.std.proofs.lemmas.Nat.{mul-add-lt}
use Rattle.std.proofs.Math.Nat.{mul_comm}
use Rattle.tl_grid.proofs.grid.Grid.corner_place.Goals as goal

pub returns-clause-within : goal.returns-clause-within
returns-clause-within c =
    let R = c.args.self.now in
    let start : c.args.corner.r * c.width.result ≡ c.args.corner.r * (R.columns + 2) = ap (λ (n : ℕ). c.args.corner.r * n) c.width.ensures.width in
    omega (arith, start, mul-add-lt c.args.corner.r (R.columns + 2) c.args.corner.x (R.rows + 1) c.requires.row c.requires.column, mul_comm (R.columns + 2) (R.rows + 1))
