-- The order of heights, and the greatest and the least of two.
use Rattle.std.specs.Prelude.{◌≡◌, List, ℤ, ◌≤ℤ◌, int_le, IsTrue, if◌then◌else◌}
use Rattle.tl_definitions.specs.declared.Corner.{Corner}
use Rattle.tl_definitions.specs.Region.{Region, is_corner_of}
use Rattle.tl_definitions.specs.Heights.{height, AreLawful}

-- at each corner of the region no higher
abbrev pub LieBelow : Region → List ℤ → List ℤ → Type 0
LieBelow R numbers others = (v : Corner) → IsTrue (is_corner_of R v) → height R numbers v ≤ℤ height R others v

-- the greatest lawful heights: every lawful heights lie below them; and the least
abbrev pub AreGreatest : Region → List ℤ → Type 0
AreGreatest R numbers = AreLawful R numbers × ((others : List ℤ) → AreLawful R others → LieBelow R others numbers)

abbrev pub AreLeast : Region → List ℤ → Type 0
AreLeast R numbers = AreLawful R numbers × ((others : List ℤ) → AreLawful R others → LieBelow R numbers others)

abbrev pub greater : ℤ → ℤ → ℤ
greater y z = if int_le y z then z else y

abbrev pub lesser : ℤ → ℤ → ℤ
lesser y z = if int_le y z then y else z

-- at each corner of the region the greater of two heights; or the lesser
abbrev pub AreGreaterOf : Region → List ℤ → List ℤ → List ℤ → Type 0
AreGreaterOf R a b most = (v : Corner) → IsTrue (is_corner_of R v) → height R most v ≡ greater (height R a v) (height R b v)

abbrev pub AreLesserOf : Region → List ℤ → List ℤ → List ℤ → Type 0
AreLesserOf R a b least = (v : Corner) → IsTrue (is_corner_of R v) → height R least v ≡ lesser (height R a v) (height R b v)
