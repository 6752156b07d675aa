use Rattle.std.proofs.Common.{◌≡◌, ℕ, ◌+◌, suc, arith, subst}
use Rattle.tl_courses.specs.Courses.{AreRowsAfter}
use Rattle.tl_courses.proofs.Rows.{rows-after}
use Rattle.tl_courses.proofs.rows_apart.Goals as goal

pub returns : goal.returns
returns g R bits c p first end coins old new is above below has before steps =
    let e : suc p ≡ p + 1 = omega arith in
    subst (λ (n : ℕ). AreRowsAfter c n first end new) e (rows-after R bits c is p first end above below coins has old new before steps)
