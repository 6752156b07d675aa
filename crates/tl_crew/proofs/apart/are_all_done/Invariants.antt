use Rattle.std.specs.Prelude.{◌≡◌, All}
use Rattle.tl_courses.specs.Courses.{steps_of}
use Rattle.tl_crew.proofs.Begun.{HoldBefore}
use Rattle.tl_crew.proofs.apart.are_all_done.Given as goal

abbrev pub invariant-loop-j : goal.invariant-loop-j
invariant-loop-j g l = HoldBefore (λ hand. All (λ band. band.done ≡ steps_of (g.S.Sweeping.course l.stretch)) hand.share.bands.items) l.hands l.j
