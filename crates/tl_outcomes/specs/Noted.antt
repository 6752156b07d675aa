-- What is noted of a sample.
use Rattle.std.specs.Prelude.{◌≡◌, ℕ, ◌+◌, ◌*◌, Bool, true, false, List, ◌++◌, length, Some, None}
use Rattle.std.specs.Coded.{Unit-prop}
use Rattle.std.proofs.Math.Nat.{ℕ_set}
use Rattle.tl_definitions.specs.Region.{Region}
use Rattle.tl_outcomes.specs.declared.noted.Noted.{Noted}
use Rattle.tl_outcomes.specs.declared.noted.Noted.TheVariants.{Drawing, Rank}
use Rattle.tl_text.specs.SampleLine.{sample_line}

-- whether the rank is noted, in the place of the drawing
abbrev pub is_rank : Noted → Bool
is_rank (Drawing letters) = false
is_rank (Rank rank) = true

-- the head line of the sample of a number with this start, and the drawing where that is noted
abbrev pub noted_text : ℕ → ℕ → Noted → List ℕ
noted_text n T (Drawing letters) = sample_line n (Some T) None ++ letters.items
noted_text n T (Rank rank) = sample_line n (Some T) (Some rank)

-- a drawing has the letters and the line ends of the region
abbrev pub HasRoom : Region → Noted → Type 0
HasRoom R (Drawing letters) = length letters.items ≡ R.rows * (R.columns + 1)
HasRoom R (Rank rank) = Unit {0}

-- which has one proof at most
pub HasRoom-prop : (R : Region) (noted : Noted) → IsProp (HasRoom R noted)
HasRoom-prop R (Drawing letters) = ℕ_set _ _
HasRoom-prop R (Rank rank) = Unit-prop
