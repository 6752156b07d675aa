-- One number set in the place of a corner's height.
use Rattle.std.proofs.Common.{◌≡◌, ℕ, ◌+◌, ◌*◌, true, List, sym, ◌∙◌, subst, ℤ, ◌+ℤ◌}
use Rattle.std.proofs.Math.ListN.{set}
use Rattle.tl_definitions.specs.declared.Corner.{Corner}
use Rattle.tl_definitions.specs.Region.{Region, is_corner_of}
use Rattle.tl_definitions.specs.Accepted.{IsPlaced}
use Rattle.tl_definitions.specs.Heights.{height, AreHeightsOf}
use Rattle.tl_lists.proofs.Puts.{put_at-one}
use Rattle.tl_closing.specs.Changed.{IsChangedAt}
use Rattle.tl_closing.proofs.Stated.{place-within, put-changed}

pub set-changed : (R : Region) (numbers : List ℤ) (v : Corner) (more z : ℤ) (columns : ℕ) → IsPlaced R → AreHeightsOf R numbers → is_corner_of R v ≡ true
    → columns ≡ R.columns → z ≡ height R numbers v +ℤ more → IsChangedAt R numbers (set numbers (v.r * (columns + 2) + v.x) z) v more
set-changed R numbers v more z columns placed heights of_region wide e =
    subst (λ (others : List ℤ). IsChangedAt R numbers others v more)
    (put_at-one (v.r * (R.columns + 2) + v.x) (height R numbers v +ℤ more) numbers (place-within R numbers v placed heights of_region)
    ∙ (λ i. set numbers (v.r * (sym wide i + 2) + v.x) (sym e i)))
    (put-changed R numbers v more placed heights of_region)
