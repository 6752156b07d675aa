-- The strings of all classes.
use Rattle.std.specs.Prelude.{◌≡◌, ℕ, ◌<◌, List, length}
use Rattle.tl_definitions.specs.declared.Kind.{Kind}
use Rattle.tl_definitions.specs.declared.Kind.TheVariants.{Square, Triangle}
use Rattle.tl_definitions.specs.Lattice.{classes}
use Rattle.tl_definitions.specs.Region.{Region}
use Rattle.tl_pack.specs.Packs.{strings_of}
use Rattle.tl_layout.specs.declared.layout.Layout.{Layout}
use Rattle.tl_layout.specs.Layouts.{size_of}
use Rattle.tl_layout.specs.Slots.{AreSlotsOf}
use Rattle.tl_packed.specs.declared.strings.Strings.{Strings}

-- the string of a class
abbrev pub of_class : Strings → ℕ → List ℕ
of_class s class = strings_of s.first.items s.second.items s.third.items class

-- the number of words of the third string
abbrev pub third_size : Kind → ℕ → ℕ
third_size Square size = 0
third_size Triangle size = size

-- There are as many words of each class as the layout has.
pub record AreOfLayout (l : Layout) (s : Strings) : Type 0 where
  pub first : length s.first.items ≡ size_of l
  pub second : length s.second.items ≡ size_of l
  pub third : length s.third.items ≡ third_size l.kind (size_of l)

-- the words of the others
abbrev pub AreCopies : Strings → Strings → Type 0
AreCopies s others =
    (s.first.items ≡ others.first.items) × (s.second.items ≡ others.second.items) × (s.third.items ≡ others.third.items)

-- The bits of each class are those of the slots of its inner corners.
pub record AreLows (R : Region) (l : Layout) (lows : Strings) : Type 0 where
  pub size : AreOfLayout l lows
  pub each : (class : ℕ) → class < classes R.kind → AreSlotsOf R l class (of_class lows class)
