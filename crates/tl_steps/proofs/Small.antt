-- The height that a step puts is a lawful one, so it is within the limits of lawful heights.
use Rattle.std.proofs.Common.{neg_ℤ, ◌≡◌, ◌≤◌, Bool, true, List, subst, ℤ, pos, ◌≤ℤ◌}
use Rattle.tl_definitions.specs.declared.Corner.{Corner}
use Rattle.tl_definitions.specs.declared.TheConstants.{SIDE_LIMIT}
use Rattle.tl_definitions.specs.Limits.{most_height}
use Rattle.tl_definitions.specs.Region.{Region, is_inner}
use Rattle.tl_definitions.specs.Accepted.{Accepted}
use Rattle.tl_definitions.specs.Heights.{AreLawful}
use Rattle.tl_closing.proofs.Stated.{heights-within_limits, inner-of_region}
use Rattle.tl_steps.specs.Stepping.{AreStepped, stepped_height}
use Rattle.tl_steps.proofs.Chosen.{has-stepped}
use Rattle.tl_steps.proofs.Lawful.{stepped-lawful}

pub stepped-within_limits : (R : Region) (numbers : List ℤ) (v : Corner) (bit : Bool) → Accepted R → R.rows ≤ SIDE_LIMIT → R.columns ≤ SIDE_LIMIT → AreLawful R numbers
    → is_inner R v ≡ true → (neg_ℤ (pos most_height) ≤ℤ stepped_height R numbers v bit) × (stepped_height R numbers v bit ≤ℤ pos most_height)
stepped-within_limits R numbers v bit accepted rows columns lawful inner = go (has-stepped R numbers v bit accepted.placed lawful.heights (inner-of_region R v inner))
  where
    go : (others : List ℤ) × AreStepped R numbers others v bit → (neg_ℤ (pos most_height) ≤ℤ stepped_height R numbers v bit) × (stepped_height R numbers v bit ≤ℤ pos most_height)
    go (others, stepped) =
        subst (λ (h : ℤ). (neg_ℤ (pos most_height) ≤ℤ h) × (h ≤ℤ pos most_height)) stepped.here
        (heights-within_limits R others v accepted (stepped-lawful R numbers others accepted lawful v bit inner stepped) rows columns (inner-of_region R v inner))
