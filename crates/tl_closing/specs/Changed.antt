-- Heights of which one is changed.
use Rattle.std.specs.Prelude.{◌≡◌, List, ℤ, ◌+ℤ◌, IsTrue, IsFalse}
use Rattle.tl_definitions.specs.declared.Corner.{Corner}
use Rattle.tl_definitions.specs.Lattice.{corner_eq}
use Rattle.tl_definitions.specs.Region.{Region, is_corner_of}
use Rattle.tl_definitions.specs.Heights.{height, AreHeightsOf}

-- the others are the numbers with so much more at one corner
pub record IsChangedAt (R : Region) (numbers others : List ℤ) (v : Corner) (more : ℤ) : Type 0 where
  pub heights : AreHeightsOf R others
  pub here : height R others v ≡ height R numbers v +ℤ more
  pub elsewhere : (w : Corner) → IsTrue (is_corner_of R w) → IsFalse (corner_eq w v) → height R others w ≡ height R numbers w
