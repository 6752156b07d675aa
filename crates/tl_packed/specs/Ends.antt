-- Strings of both ends of a pair, joined and parted.
use Rattle.std.specs.Prelude.{◌≡◌, ℕ, ◌+◌, ◌-◌, ◌<◌, ◌≤◌, ◌||◌, if◌then◌else◌}
use Rattle.tl_definitions.specs.Lattice.{classes}
use Rattle.tl_strings.specs.Strings.{string_bit, word_place}
use Rattle.tl_layout.specs.declared.layout.Layout.{Layout}
use Rattle.tl_layout.specs.Layouts.{size_of}
use Rattle.tl_packed.specs.declared.strings.Strings.{Strings}
use Rattle.tl_packed.specs.OfClasses.{AreOfLayout, of_class}

-- The bits are those of both ends, the high ones each one slot on.
pub record AreJoined (l : Layout) (low high both : Strings) : Type 0 where
  pub size : AreOfLayout l both
  pub bits : (class row slot : ℕ) → class < classes l.kind → 1 ≤ slot → word_place l.height row slot < size_of l
      → string_bit l.height (of_class both class) row slot
      ≡ (string_bit l.height (of_class low class) row slot || string_bit l.height (of_class high class) row (slot - 1))

-- Where `lows` has a bit, the new bit is that of `both`, so many slots on as the shift tells. The other bits are kept.
pub record AreParted (l : Layout) (shift : ℕ) (both lows old new : Strings) : Type 0 where
  pub size : AreOfLayout l new
  pub bits : (class row slot : ℕ) → class < classes l.kind → word_place l.height row slot < size_of l
      → string_bit l.height (of_class new class) row slot
      ≡ (if string_bit l.height (of_class lows class) row slot
      then string_bit l.height (of_class both class) row (slot + shift)
      else string_bit l.height (of_class old class) row slot)
