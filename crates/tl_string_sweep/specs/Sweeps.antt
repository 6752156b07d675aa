-- Sweeps of both ends of a pair of tilings, and the slots at which strings are left as they are.
use Rattle.std.specs.Prelude.{ℕ, ◌+◌, ◌<◌, ◌≤◌, Bool, List, length, ℤ, IsTrue}
use Rattle.tl_definitions.specs.Region.{Region}
use Rattle.tl_definitions.specs.Accepted.{Accepted}
use Rattle.tl_strings.specs.Strings.{string_bit, word_place}
use Rattle.tl_layout.specs.declared.layout.Layout.{Layout}
use Rattle.tl_layout.specs.Layouts.{IsLayoutOf}
use Rattle.tl_packing.specs.Packing.{HasCoins}
use Rattle.tl_packed.specs.declared.strings.Strings.{Strings}
use Rattle.tl_packed.specs.Packs.{HoldEnds}
use Rattle.tl_coupling.specs.Carried.{swept}
use Rattle.tl_string_sweep.specs.declared.slots.Slots.{Slots}
use Rattle.tl_string_sweep.specs.Slots.{AreSlots}

-- No slot of the first words or of the last is free: free slots stand in rows of inner corners.
pub record AreInside (height : ℕ) (free : List ℕ) : Type 0 where
  pub behind : (row slot : ℕ) → row < height → 1 ≤ slot
      → IsTrue (string_bit height free row slot) → height + 2 ≤ word_place height row slot
  pub each : (row slot : ℕ) → row < height → 1 ≤ slot
      → IsTrue (string_bit height free row slot) → word_place height row slot + height + 3 < length free

-- Where the old strings hold the marks of both ends of a pair, the new ones hold those after a sweep of both.
abbrev pub AreSweptBoth : Layout → Slots → List ℕ → Strings → Strings → Type 0
AreSweptBoth l slots coins old new = (R : Region) (bits : ℕ → Bool) (low high : List ℤ) → Accepted R → IsLayoutOf R l
    → AreSlots R l slots → HasCoins R l.height l.first bits coins
    → HoldEnds R l old low high → HoldEnds R l new (swept R bits low) (swept R bits high)
