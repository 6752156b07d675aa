-- The slots that a sweep steps at.
use Rattle.std.specs.Prelude.{ℕ, ◌<◌}
use Rattle.tl_definitions.specs.Lattice.{classes}
use Rattle.tl_definitions.specs.Region.{Region}
use Rattle.tl_layout.specs.declared.layout.Layout.{Layout}
use Rattle.tl_layout.specs.Slots.{AreFree}
use Rattle.tl_packed.specs.declared.strings.Strings.{Strings}
use Rattle.tl_packed.specs.OfClasses.{AreLows, AreOfLayout, of_class}
use Rattle.tl_string_sweep.specs.declared.slots.Slots.{Slots}

-- Of each class the slots of its inner corners, and the free ones: these, and of each the slot after it.
pub record AreSlots (R : Region) (l : Layout) (slots : Slots) : Type 0 where
  pub lows : AreLows R l slots.lows
  pub free_size : AreOfLayout l slots.free
  pub free : (class : ℕ) → class < classes R.kind → AreFree l.height (of_class slots.lows class) (of_class slots.free class)

-- the free slots of each of the three strings
pub record AreFreeOf (height : ℕ) (lows free : Strings) : Type 0 where
  pub first : AreFree height lows.first.items free.first.items
  pub second : AreFree height lows.second.items free.second.items
  pub third : AreFree height lows.third.items free.third.items
