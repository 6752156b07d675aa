use Rattle.std.proofs.Common.{sym, subst, List, ℤ}
use Rattle.tl_packing.specs.Packing.{HoldsBits}
use Rattle.tl_courses.specs.Courses.{after, steps_of}
use Rattle.tl_courses.proofs.Counted.{counted-all}
use Rattle.tl_courses.proofs.Held.{all-held}
use Rattle.tl_courses.proofs.classes_in_turn.Goals as goal

pub returns : goal.returns
returns g R bits c shift numbers is lawful either holds =
    subst (λ (h : List ℤ). HoldsBits R c.layout.first h (after c (steps_of c)) shift) (counted-all R bits c.layout.kind (sym is.of_region.kind) c.from numbers)
    (all-held R bits c is shift either numbers lawful holds)
