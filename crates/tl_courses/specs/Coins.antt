-- The coins of a region by slots.
use Rattle.std.specs.Prelude.{ℕ, ◌-◌, Bool, false, ◌&&◌, ◌||◌, Option, Some, None}
use Rattle.std.specs.List.{list_any}
use Rattle.tl_definitions.specs.Region.{Region, inner_corners}
use Rattle.tl_layout.specs.Slots.{is_at}
use Rattle.tl_coupling.specs.Carried.{number_of}

-- the bit of a number, where there is one
abbrev pub bit_numbered : (ℕ → Bool) → Option ℕ → Bool
bit_numbered bits None = false
bit_numbered bits (Some i) = bits i

-- The coin of a slot: the bit of the inner corner of the class whose low slot it is, or is the one before it.
abbrev pub coin_of : Region → ℕ → (ℕ → Bool) → ℕ → ℕ → ℕ → Bool
coin_of R first bits k row slot =
    list_any (λ v. (is_at R.kind first k row slot v || is_at R.kind first k row (slot - 1) v) && bit_numbered bits (number_of R v)) (inner_corners R)
