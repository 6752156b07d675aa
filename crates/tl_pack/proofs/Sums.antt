-- Sums of numbers in 32 bits.
use Rattle.std.proofs.Common.{w32, ◌≡◌, arith, ℤ, pos, negsuc, ◌+ℤ◌, neg_ℤ, ◌≤ℤ◌}
use mir.Val.{SFits, to_z, of_z}
use Rattle.std.proofs.lemmas.Int.{ints}
use Rattle.tl_definitions.specs.Limits.{most_height}

-- a height of a region within the limits
pub record IsSmall (z : ℤ) : Type 0 where
  pub low : neg_ℤ (pos most_height) ≤ℤ z
  pub high : z ≤ℤ pos most_height

-- the sum of two numbers, where it and the first are heights and the second is a rise
pub record Adds (a b z : ℤ) : Type 0 where
  pub first : IsSmall a
  pub low : negsuc 3 ≤ℤ b
  pub high : b ≤ℤ pos 3
  pub sum : IsSmall z
  pub added : z ≡ a +ℤ b

pub sum-fits : (a b z : ℤ) → Adds a b z → SFits w32 (to_z w32 (of_z w32 a) +ℤ to_z w32 (of_z w32 b))
sum-fits a b z s = omega (arith, ints, s.first.low, s.first.high, s.low, s.high, s.sum.low, s.sum.high, s.added)

pub sum-is : (a b z : ℤ) → Adds a b z → to_z w32 (of_z w32 (to_z w32 (of_z w32 a) +ℤ to_z w32 (of_z w32 b))) ≡ z
sum-is a b z s = omega (arith, ints, s.first.low, s.first.high, s.low, s.high, s.sum.low, s.sum.high, s.added)
