-- One number put at a corner: the heights after the step there.
use Rattle.std.proofs.Common.{◌≡◌, ◌+◌, ◌*◌, Bool, true, List, [], ◌∷◌, sym, ◌∙◌, ap, subst, arith, ℤ, ◌+ℤ◌, ◌-ℤ◌}
use Rattle.std.proofs.lemmas.Int.{ints}
use Rattle.tl_definitions.specs.declared.Corner.{Corner}
use Rattle.tl_definitions.specs.Region.{Region, is_corner_of}
use Rattle.tl_definitions.specs.Accepted.{IsPlaced}
use Rattle.tl_definitions.specs.Heights.{height, AreHeightsOf}
use Rattle.tl_lists.specs.Lists.{put_at}
use Rattle.tl_closing.specs.Changed.{IsChangedAt}
use Rattle.tl_closing.proofs.Stated.{put-changed}
use Rattle.tl_steps.specs.Stepping.{AreStepped, stepped_height}

pub put-stepped : (R : Region) (numbers : List ℤ) (v : Corner) (bit : Bool) → IsPlaced R → AreHeightsOf R numbers → is_corner_of R v ≡ true
    → AreStepped R numbers (put_at (v.r * (R.columns + 2) + v.x) (stepped_height R numbers v bit ∷ []) numbers) v bit
put-stepped R numbers v bit placed heights of_region =
    subst (λ (z : ℤ). AreStepped R numbers (put_at (v.r * (R.columns + 2) + v.x) (z ∷ []) numbers) v bit) (back (height R numbers v) (stepped_height R numbers v bit))
    (record { heights = changed.heights; here = changed.here ∙ back (height R numbers v) (stepped_height R numbers v bit); elsewhere = changed.elsewhere })
  where
    more : ℤ
    more = stepped_height R numbers v bit -ℤ height R numbers v

    changed : IsChangedAt R numbers (put_at (v.r * (R.columns + 2) + v.x) ((height R numbers v +ℤ more) ∷ []) numbers) v more
    changed = put-changed R numbers v more placed heights of_region

    back : (y z : ℤ) → y +ℤ (z -ℤ y) ≡ z
    back y z = omega (arith, ints)
