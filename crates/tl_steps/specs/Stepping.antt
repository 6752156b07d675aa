-- The heights of a tiling after a step at a corner, and after steps at corners of one class.
use Rattle.std.specs.Prelude.{◌≡◌, ℕ, Bool, ◌&&◌, ◌==◌, List, [], ◌∷◌, map, fold, slice_get, Some, ℤ, pos, ◌+ℤ◌, ◌-ℤ◌, IsTrue, IsFalse, if◌then◌else◌}
use Rattle.std.specs.List.{All, list_all, list_any}
use Rattle.tl_definitions.specs.declared.Corner.{Corner}
use Rattle.tl_definitions.specs.Lattice.{class_of, corner_eq, steps_in, steps_out}
use Rattle.tl_definitions.specs.Region.{Region, is_corner_of, is_inner, inner_corners}
use Rattle.tl_definitions.specs.Heights.{height, AreHeightsOf}
use Rattle.tl_lists.specs.Lists.{present}
use Rattle.tl_lawful.specs.Order.{greater, lesser}

-- the least of some numbers, and the greatest; 0 of none
abbrev pub least : List ℤ → ℤ
least [] = pos 0
least (z ∷ zs) = fold lesser z zs

abbrev pub greatest : List ℤ → ℤ
greatest [] = pos 0
greatest (z ∷ zs) = fold greater z zs

-- The greatest lawful height at a corner, while the others stay: one more than the least from which a step comes. And the
-- least: one less than the greatest to which a step goes.
abbrev pub highest_at : Region → List ℤ → Corner → ℤ
highest_at R numbers v = least (map (height R numbers) (present (steps_in R.kind v))) +ℤ pos 1

abbrev pub lowest_at : Region → List ℤ → Corner → ℤ
lowest_at R numbers v = greatest (map (height R numbers) (present (steps_out R.kind v))) -ℤ pos 1

-- the height that a step with this bit puts at a corner
abbrev pub stepped_height : Region → List ℤ → Corner → Bool → ℤ
stepped_height R numbers v bit = if bit then highest_at R numbers v else lowest_at R numbers v

-- the others are the same at each corner of the region but one
abbrev pub AgreeBut : Region → List ℤ → List ℤ → Corner → Type 0
AgreeBut R numbers others v = (w : Corner) → IsTrue (is_corner_of R w) → IsFalse (corner_eq w v) → height R others w ≡ height R numbers w

-- the others are the numbers after the step at one corner
pub record AreStepped (R : Region) (numbers others : List ℤ) (v : Corner) (bit : Bool) : Type 0 where
  pub heights : AreHeightsOf R others
  pub here : height R others v ≡ stepped_height R numbers v bit
  pub elsewhere : AgreeBut R numbers others v

-- The others are the numbers after the steps at some of the inner corners, each from the old numbers and with the bit of
-- its own number among all inner corners.
pub record AreSwept (R : Region) (numbers others : List ℤ) (bits : ℕ → Bool) (some : Corner → Bool) : Type 0 where
  pub heights : AreHeightsOf R others
  pub stepped : (i : ℕ) (v : Corner) → slice_get (inner_corners R) i ≡ Some v → IsTrue (some v) → height R others v ≡ stepped_height R numbers v (bits i)
  pub kept : (w : Corner) → IsTrue (is_corner_of R w) → IsFalse (is_inner R w && some w) → height R others w ≡ height R numbers w

-- whether a corner is of a class
abbrev pub is_of_class : Region → ℕ → Corner → Bool
is_of_class R k v = class_of R.kind v == k

-- inner corners of one class, each with its number among all inner corners
pub record AreChosenOf (R : Region) (k : ℕ) (chosen : List (ℕ × Corner)) : Type 0 where
  pub numbered : All (λ p. slice_get (inner_corners R) p.0 ≡ Some p.1) chosen
  pub of_class : IsTrue (list_all (λ p. is_of_class R k p.1) chosen)

-- whether a corner is one of them
abbrev pub is_among : List (ℕ × Corner) → Corner → Bool
is_among chosen v = list_any (λ p. corner_eq v p.1) chosen
