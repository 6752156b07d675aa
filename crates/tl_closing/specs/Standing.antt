-- Along which steps at a corner the heights fall.
use Rattle.std.specs.Prelude.{Bool, List, ℤ, int_lt}
use Rattle.std.specs.List.{list_all}
use Rattle.tl_definitions.specs.declared.Corner.{Corner}
use Rattle.tl_definitions.specs.Lattice.{steps_out, steps_in}
use Rattle.tl_definitions.specs.Region.{Region}
use Rattle.tl_lists.specs.Lists.{present}
use Rattle.tl_definitions.specs.Heights.{height}

-- the heights fall along every step from the corner
abbrev pub falls_from : Region → List ℤ → Corner → Bool
falls_from R numbers v = list_all (λ w. int_lt (height R numbers w) (height R numbers v)) (present (steps_out R.kind v))

-- the heights fall along every step to the corner
abbrev pub falls_to : Region → List ℤ → Corner → Bool
falls_to R numbers v = list_all (λ u. int_lt (height R numbers v) (height R numbers u)) (present (steps_in R.kind v))
