-- What one thread makes of strings of bits, class after class. Whatever sweeps the rows apart has to come to the same.
use Rattle.std.specs.Prelude.{◌≡◌, ℕ, zero, suc, ◌+◌, ◌-◌, ◌*◌, ◌/◌, ◌%◌, ◌<◌, ◌≤◌, ◌≢◌, Bool, ◌==◌, if◌then◌else◌, List, slice_get, Some}
use Rattle.tl_definitions.specs.declared.Corner.{Corner}
use Rattle.tl_definitions.specs.declared.Kind.{Kind}
use Rattle.tl_definitions.specs.declared.Kind.TheVariants.{Square, Triangle}
use Rattle.tl_definitions.specs.Lattice.{classes}
use Rattle.tl_definitions.specs.Region.{Region, inner_corners}
use Rattle.tl_definitions.specs.Accepted.{Accepted}
use Rattle.tl_strings.specs.Strings.{row_of, slot_of, string_bit}
use Rattle.tl_strings.specs.Steps.{square_bit, triangle_bit}
use Rattle.tl_layout.specs.declared.layout.Layout.{Layout}
use Rattle.tl_layout.specs.Layouts.{IsLayoutOf}
use Rattle.tl_packing.specs.Packing.{AreSteppedSquaresIn, AreSteppedTrianglesIn, HasCoinBits}
use Rattle.tl_packed.specs.declared.strings.Strings.{Strings}
use Rattle.tl_packed.specs.OfClasses.{AreOfLayout, of_class}
use Rattle.tl_string_sweep.specs.declared.slots.Slots.{Slots}
use Rattle.tl_string_sweep.specs.Slots.{AreSlots}
use Rattle.tl_string_sweep.specs.Sweeps.{AreInside}

-- the bits of strings, by class, row and slot
abbrev pub bits_of : ℕ → Strings → ℕ → ℕ → ℕ → Bool
bits_of height strings class = string_bit height (of_class strings class)

-- What the sweeps of a stretch go by: the slots that are free, the strings of both ends at the time -from, which is that of the
-- first sweep, and the coin of each slot, by time, class, row and slot.
pub record Course : Type 0 where
  pub layout : Layout
  pub slots : Slots
  pub start : Strings
  pub from : ℕ
  pub coin : ℕ → ℕ → ℕ → ℕ → Bool

-- ---- steps

-- The bit of a slot after a step at its class, by these bits of all classes.
abbrev pub stepped : Kind → ℕ → (ℕ → ℕ → Bool) → (ℕ → ℕ → Bool) → (ℕ → ℕ → ℕ → Bool) → ℕ → ℕ → Bool
stepped Square k coin free bits row slot =
    square_bit (k == 1) (bits k row slot) (bits ((k + 1) % 2) row (slot - 1)) (bits ((k + 1) % 2) row (slot + 1))
    (bits ((k + 1) % 2) (row - 1) slot) (bits ((k + 1) % 2) (row + 1) slot) (coin row slot) (free row slot)
stepped Triangle k coin free bits row slot =
    triangle_bit k (bits k row slot)
    (bits ((k + 1) % 3) row (slot - 1)) (bits ((k + 1) % 3) (row - 1) slot) (bits ((k + 1) % 3) (row + 1) (slot + 1))
    (bits ((k + 2) % 3) row (slot + 1)) (bits ((k + 2) % 3) (row - 1) (slot - 1)) (bits ((k + 2) % 3) (row + 1) slot)
    (coin row slot) (free row slot)

-- the bits after the steps at all slots of class k
abbrev pub class_stepped : Kind → ℕ → (ℕ → ℕ → Bool) → (ℕ → ℕ → Bool) → (ℕ → ℕ → ℕ → Bool) → ℕ → ℕ → ℕ → Bool
class_stepped kind k coin free bits class row slot = if class == k then stepped kind k coin free bits row slot else bits class row slot

-- ---- classes in turn

-- the class that is swept after p others, and the time to whose sweep it belongs
abbrev pub class_at : Kind → ℕ → ℕ
class_at kind p = p % classes kind

abbrev pub time_at : Kind → ℕ → ℕ → ℕ
time_at kind from p = from - p / classes kind

-- the bits after the first p classes
abbrev pub after : Course → ℕ → ℕ → ℕ → ℕ → Bool
after c zero = bits_of c.layout.height c.start
after c (suc p) =
    class_stepped c.layout.kind (class_at c.layout.kind p) (c.coin (time_at c.layout.kind c.from p) (class_at c.layout.kind p))
    (bits_of c.layout.height c.slots.free (class_at c.layout.kind p)) (after c p)

-- how many classes are swept in all
abbrev pub steps_of : Course → ℕ
steps_of c = c.from * classes c.layout.kind

-- The course is that of a region, with these bits for its inner corners by time and number.
pub record IsCourseOf (R : Region) (bits : ℕ → ℕ → Bool) (c : Course) : Type 0 where
  pub accepted : Accepted R
  pub of_region : IsLayoutOf R c.layout
  pub are_slots : AreSlots R c.layout c.slots
  pub size : AreOfLayout c.layout c.start
  pub coins : (time class : ℕ) → class < classes R.kind → HasCoinBits R c.layout.first class (bits time) (c.coin time class)

-- ---- rows that are swept apart

-- The strings have the bits after p classes, in the rows from the first to before the end.
abbrev pub AreRowsAfter : Course → ℕ → ℕ → ℕ → Strings → Type 0
AreRowsAfter c p first end strings = (class row slot : ℕ) → class < classes c.layout.kind → first ≤ row → row < end
    → bits_of c.layout.height strings class row slot ≡ after c p class row slot

-- The bit of each inner corner in these rows, by its number, is at its low slot.
abbrev pub HasCoinsIn : Region → ℕ → ℕ → ℕ → ℕ → (ℕ → Bool) → List ℕ → Type 0
HasCoinsIn R height column first end bits coins = (i : ℕ) (v : Corner) → slice_get (inner_corners R) i ≡ Some v → first ≤ row_of v → row_of v < end
    → string_bit height coins (row_of v) (slot_of R.kind column v) ≡ bits i

-- The strings of a class after its steps in these rows, by those of all classes before.
pub record AreRowsStepped (l : Layout) (slots : Slots) (k first end : ℕ) (coins : List ℕ) (old new : Strings) : Type 0 where
  pub others : (class : ℕ) → class < 3 → class ≢ k → of_class new class ≡ of_class old class
  pub squares : l.kind ≡ Square → AreInside l.height (of_class slots.free k)
      → AreSteppedSquaresIn l.height first end (of_class old ((k + 1) % 2)) coins (of_class slots.lows k) (of_class slots.free k) (k == 1)
      (of_class old k) (of_class new k)
  pub triangles : l.kind ≡ Triangle → AreInside l.height (of_class slots.free k)
      → AreSteppedTrianglesIn l.height first end k (of_class old ((k + 1) % 3)) (of_class old ((k + 2) % 3)) coins
      (of_class slots.lows k) (of_class slots.free k) (of_class old k) (of_class new k)
