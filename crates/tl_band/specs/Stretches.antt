-- The course of a stretch.
use Rattle.std.specs.Prelude.{ℕ, Bool}
use Rattle.tl_definitions.specs.Region.{Region}
use Rattle.tl_layout.specs.declared.layout.Layout.{Layout}
use Rattle.tl_packed.specs.declared.strings.Strings.{Strings}
use Rattle.tl_string_sweep.specs.declared.slots.Slots.{Slots}
use Rattle.tl_courses.specs.Coins.{coin_of}
use Rattle.tl_courses.specs.Courses.{Course}

-- the coins are the bits of the inner corners, by time and number
abbrev pub course_by : Region → Layout → Slots → Strings → (ℕ → ℕ → Bool) → ℕ → Course
course_by R l slots start bits from = record {
  layout = l;
  slots = slots;
  start = start;
  from = from;
  coin = λ time class. coin_of R l.first (bits time) class;
}
