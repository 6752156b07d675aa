-- Marks: one bit for each corner. They tell along which steps the heights of a tiling fall, and so what a step does.
use Rattle.std.specs.Prelude.{◌+◌, ◌*◌, ◌%◌, Bool, true, false, not, ◌==◌, nat_lt, if◌then◌else◌, List, ℤ, pos, ◌-ℤ◌, int_le}
use Rattle.std.specs.List.{list_all}
use Rattle.std.specs.Int.{int_rem_euclid}
use Rattle.tl_definitions.specs.declared.Kind.{Kind}
use Rattle.tl_definitions.specs.declared.Kind.TheVariants.{Square, Triangle}
use Rattle.tl_definitions.specs.declared.Corner.{Corner}
use Rattle.tl_definitions.specs.Lattice.{class_of, rise, steps_in, steps_out}
use Rattle.tl_definitions.specs.Region.{Region}
use Rattle.tl_definitions.specs.Heights.{height}
use Rattle.tl_lists.specs.Lists.{present}

-- The heights of one tiling of the whole lattice. On the triangular lattice they are 0, 2 and 1 at the corners of the
-- classes 0, 1 and 2.
abbrev pub base : Kind → Corner → ℤ
base Square v = pos ((v.r + v.x) % 2) -ℤ pos (2 * v.x)
base Triangle v = pos ((2 * v.x) % 3)

-- Whether the base falls along a directed step. On the square lattice these are the steps to the right, each to a corner of
-- class 0 from the one at its left. On the triangular lattice they are the steps from class 1, which all lead to class 0.
abbrev pub is_turned : Kind → Corner → Corner → Bool
is_turned Square u v = nat_lt u.x v.x
is_turned Triangle u v = class_of Triangle u == 1

-- Whether a whole number lies in the upper half modulo twice the rise of a flip: whether it is odd after it is divided by the
-- rise and rounded down.
abbrev pub is_upper_half : Kind → ℤ → Bool
is_upper_half k z = int_le (pos (rise k)) (int_rem_euclid z (pos (2 * rise k)))

-- The mark of a corner: whether its height is an odd number of rises over the base, rounded down. What is cut off is the
-- same at all corners.
abbrev pub mark : Region → List ℤ → Corner → Bool
mark R numbers v = is_upper_half R.kind (height R numbers v -ℤ base R.kind v)

-- exactly one of the two
abbrev pub xor : Bool → Bool → Bool
xor true b = not b
xor false b = b

-- Whether a directed step is crossed, so that the heights fall along it, by the marks of its two ends.
abbrev pub is_crossed_by : Kind → (Corner → Bool) → Corner → Corner → Bool
is_crossed_by k marks u v = xor (xor (marks u) (marks v)) (is_turned k u v)

abbrev pub crossed_by_marks : Region → List ℤ → Corner → Corner → Bool
crossed_by_marks R numbers u v = is_crossed_by R.kind (mark R numbers) u v

-- whether all steps to a corner are crossed, and whether all steps from it are
abbrev pub crossed_to : Kind → (Corner → Bool) → Corner → Bool
crossed_to k marks v = list_all (λ u. is_crossed_by k marks u v) (present (steps_in k v))

abbrev pub crossed_from : Kind → (Corner → Bool) → Corner → Bool
crossed_from k marks v = list_all (λ w. is_crossed_by k marks v w) (present (steps_out k v))

-- The mark that a step with this bit puts at a corner. It changes it where the bit is 1 and all steps to the corner are
-- crossed, and where the bit is 0 and all steps from it are.
abbrev pub stepped_mark : Kind → (Corner → Bool) → Corner → Bool → Bool
stepped_mark k marks v bit = xor (marks v) (if bit then crossed_to k marks v else crossed_from k marks v)
