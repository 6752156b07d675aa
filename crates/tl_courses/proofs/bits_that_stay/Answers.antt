use Rattle.std.proofs.Common.{◌≡◌, ℕ, ◌+◌, suc, arith, subst}
use Rattle.tl_courses.specs.Courses.{after}
use Rattle.tl_courses.proofs.Rows.{after-not_free, after-other_class, after-past}
use Rattle.tl_courses.proofs.bits_that_stay.Goals as goal

pub returns : goal.returns
returns g = record {
  not_free = after-not_free;
  past = after-past;
  other_class = λ c p class row slot other.
      let e : suc p ≡ p + 1 = omega arith in
      subst (λ (n : ℕ). after c n class row slot ≡ after c p class row slot) e (after-other_class c p class row slot other);
}
