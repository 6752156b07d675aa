-- The numbers of heights after the steps at a class, after a sweep, and after the sweeps of several times.
use Rattle.std.specs.Prelude.{◌≡◌, ℕ, zero, suc, ◌+◌, ◌<◌, Bool, if◌then◌else◌, List, map, fold, position, Option, Some, None, ℤ}
use Rattle.tl_definitions.specs.declared.Corner.{Corner}
use Rattle.tl_definitions.specs.Lattice.{classes, corner_eq}
use Rattle.tl_definitions.specs.Region.{Region, corner_rows, inner_corners}
use Rattle.tl_definitions.specs.Heights.{height, AreLawful}
use Rattle.tl_lists.specs.Lists.{upto}
use Rattle.tl_lawful.specs.Order.{LieBelow}
use Rattle.tl_steps.specs.Stepping.{is_of_class, stepped_height}
use Rattle.tl_chain.specs.Chain.{ChainMeaning}
use Rattle.tl_height.specs.HeightFunction.{HeightFunction}

-- the number of an inner corner, in raster order from 0
abbrev pub number_of : Region → Corner → Option ℕ
number_of R v = position (corner_eq v) (inner_corners R)

-- the height after the steps at a class, at a corner that has this number or none: at an inner corner of the class what its
-- bit puts there, and elsewhere the old height
abbrev pub height_numbered : Region → (ℕ → Bool) → ℕ → List ℤ → Corner → Option ℕ → ℤ
height_numbered R bits k numbers v None = height R numbers v
height_numbered R bits k numbers v (Some i) = if is_of_class R k v then stepped_height R numbers v (bits i) else height R numbers v

abbrev pub height_after : Region → (ℕ → Bool) → ℕ → List ℤ → Corner → ℤ
height_after R bits k numbers v = height_numbered R bits k numbers v (number_of R v)

-- the numbers after the steps at a class
abbrev pub class_swept : Region → (ℕ → Bool) → ℕ → List ℤ → List ℤ
class_swept R bits k numbers = map (height_after R bits k numbers) (corner_rows (R.columns + 2) (R.rows + 1))

-- the numbers after a sweep: class 0 first, then class 1, and on the triangular lattice class 2
abbrev pub swept : Region → (ℕ → Bool) → List ℤ → List ℤ
swept R bits numbers = fold (λ h k. class_swept R bits k h) numbers (upto (classes R.kind))

-- The numbers after the sweeps of the times -T, -(T - 1), .., -1, in that order. `bits t i` is the bit of inner corner i at
-- time -t.
abbrev pub carried_numbers : Region → (ℕ → ℕ → Bool) → ℕ → List ℤ → List ℤ
carried_numbers R bits zero numbers = numbers
carried_numbers R bits (suc t) numbers = carried_numbers R bits t (swept R (bits (suc t)) numbers)

-- the bits of so many inner corners are the same
abbrev pub AgreeWithin : ℕ → (ℕ → Bool) → (ℕ → Bool) → Type 0
AgreeWithin n bits others = (i : ℕ) → i < n → bits i ≡ others i

-- The chain of the tilings of one region, by their heights, with these ends and bits.
abbrev pub tilings : HeightFunction → HeightFunction → (ℕ → ℕ → Bool) → ChainMeaning HeightFunction
tilings low high bits = record {
  belongs = λ s. s.region ≡ low.region;
  lawful = λ s. (s.region ≡ low.region) × AreLawful low.region s.numbers;
  below = λ s t. LieBelow low.region s.numbers t.numbers;
  low = low;
  high = high;
  carried = λ s from. record { region = s.region; numbers = carried_numbers low.region bits from s.numbers };
}
