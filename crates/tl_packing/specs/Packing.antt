-- A tiling in strings of bits: where the marks of its corners stand, the fixed strings of a class, and the class's step.
use Rattle.std.specs.Prelude.{◌≡◌, ℕ, ◌+◌, ◌-◌, ◌%◌, ◌<◌, ◌≤◌, ◌≢◌, Bool, ◌||◌, List, slice_get, Some, ℤ, IsTrue}
use Rattle.tl_definitions.specs.declared.Kind.TheVariants.{Square, Triangle}
use Rattle.tl_definitions.specs.declared.Corner.{Corner}
use Rattle.tl_definitions.specs.Lattice.{class_of, corner}
use Rattle.tl_definitions.specs.Region.{Region, inner_corners, is_corner_of, is_inner}
use Rattle.tl_steps.specs.Stepping.{is_of_class}
use Rattle.tl_marks.specs.Marks.{mark}
use Rattle.tl_strings.specs.Strings.{column, row_of, slot_of, string_bit}
use Rattle.tl_strings.specs.Steps.{coin_bit, square_bit, triangle_bit}

-- ---- where marks stand

-- How many rows of words a strip has, and the first column that is used. The rows 0 to R.rows of corners stand below a first
-- row of words, and no inner corner stands before the first column.
pub record IsFrame (R : Region) (height first : ℕ) : Type 0 where
  pub rows : R.rows + 2 ≤ height
  pub columns : (v : Corner) → IsTrue (is_inner R v) → first ≤ column R.kind v

-- A corner is at most one column behind some inner corner. Corners further on are beside none.
abbrev pub IsReached : Region → Corner → Type 0
IsReached R v = (w : Corner) × IsTrue (is_inner R w) × (column R.kind v ≤ column R.kind w + 1)

-- Bits of slots, by class and row, hold the mark of each corner at its slot: for the low end of a pair of tilings with the
-- shift 0, and for the high end one slot further, with the shift 1. Corners more than a column before the first, or behind the last
-- inner corner, are beside none, and need no mark.
abbrev pub HoldsBits : Region → ℕ → List ℤ → (ℕ → ℕ → ℕ → Bool) → ℕ → Type 0
HoldsBits R first numbers bits shift = (v : Corner) → IsTrue (is_corner_of R v) → first ≤ column R.kind v + 1 → IsReached R v
    → bits (class_of R.kind v) (row_of v) (slot_of R.kind first v + shift) ≡ mark R numbers v

-- the same of the bits of strings of words, one for each class
abbrev pub HoldsMarks : Region → ℕ → ℕ → List ℤ → (ℕ → List ℕ) → ℕ → Type 0
HoldsMarks R height first numbers strings shift = HoldsBits R first numbers (λ class. string_bit height (strings class)) shift

-- both ends of a pair in the same strings
pub record HoldsBoth (R : Region) (height first : ℕ) (low high : List ℤ) (strings : ℕ → List ℕ) : Type 0 where
  pub low_end : HoldsMarks R height first low strings 0
  pub high_end : HoldsMarks R height first high strings 1

-- A corner of the region, of this class, has this row and this slot.
pub record StandsAt (R : Region) (first class row slot : ℕ) (v : Corner) : Type 0 where
  pub of_region : IsTrue (is_corner_of R v)
  pub not_before : first ≤ column R.kind v + 1
  pub reached : IsReached R v
  pub of_class : class_of R.kind v ≡ class
  pub row_is : row_of v ≡ row
  pub slot_is : slot_of R.kind first v ≡ slot

-- The corners beside a corner of the square lattice, all of the other class.
pub record AreBesideSquare (R : Region) (first : ℕ) (v : Corner) : Type 0 where
  pub west : StandsAt R first ((class_of Square v + 1) % 2) (row_of v) (slot_of Square first v - 1) (corner v.r (v.x - 1))
  pub east : StandsAt R first ((class_of Square v + 1) % 2) (row_of v) (slot_of Square first v + 1) (corner v.r (v.x + 1))
  pub north : StandsAt R first ((class_of Square v + 1) % 2) (row_of v - 1) (slot_of Square first v) (corner (v.r - 1) v.x)
  pub south : StandsAt R first ((class_of Square v + 1) % 2) (row_of v + 1) (slot_of Square first v) (corner (v.r + 1) v.x)

-- The corners beside a corner of the triangular lattice: steps come from three of the next class, and lead to three of the
-- class after that.
pub record AreBesideTriangle (R : Region) (first : ℕ) (v : Corner) : Type 0 where
  pub west : StandsAt R first ((class_of Triangle v + 1) % 3) (row_of v) (slot_of Triangle first v - 1) (corner v.r (v.x - 2))
  pub north_east : StandsAt R first ((class_of Triangle v + 1) % 3) (row_of v - 1) (slot_of Triangle first v) (corner (v.r - 1) (v.x + 1))
  pub south_east : StandsAt R first ((class_of Triangle v + 1) % 3) (row_of v + 1) (slot_of Triangle first v + 1) (corner (v.r + 1) (v.x + 1))
  pub east : StandsAt R first ((class_of Triangle v + 2) % 3) (row_of v) (slot_of Triangle first v + 1) (corner v.r (v.x + 2))
  pub north_west : StandsAt R first ((class_of Triangle v + 2) % 3) (row_of v - 1) (slot_of Triangle first v - 1) (corner (v.r - 1) (v.x - 1))
  pub south_west : StandsAt R first ((class_of Triangle v + 2) % 3) (row_of v + 1) (slot_of Triangle first v) (corner (v.r + 1) (v.x - 1))

-- ---- the fixed strings of a class, and the coins of a time

-- The low slots of a class are those of its inner corners. A row past the last of a strip would begin the next strip, so only
-- rows within the height are told.
pub record AreLowSlots (R : Region) (height first k : ℕ) (lows : List ℕ) : Type 0 where
  pub has : (v : Corner) → IsTrue (is_inner R v) → IsTrue (is_of_class R k v)
      → IsTrue (string_bit height lows (row_of v) (slot_of R.kind first v))
  pub only : (row slot : ℕ) → row < height → IsTrue (string_bit height lows row slot)
      → (v : Corner) × IsTrue (is_inner R v) × IsTrue (is_of_class R k v) × (row_of v ≡ row) × (slot_of R.kind first v ≡ slot)

-- A step may change the low slots and those after them.
abbrev pub AreFreeSlots : ℕ → List ℕ → List ℕ → Type 0
AreFreeSlots height lows free = (row slot : ℕ) → row < height → 1 ≤ slot
    → string_bit height free row slot ≡ (string_bit height lows row slot || string_bit height lows row (slot - 1))

-- the bit of each inner corner, by its number, at its low slot
abbrev pub HasCoins : Region → ℕ → ℕ → (ℕ → Bool) → List ℕ → Type 0
HasCoins R height first bits coins = (i : ℕ) (v : Corner) → slice_get (inner_corners R) i ≡ Some v
    → string_bit height coins (row_of v) (slot_of R.kind first v) ≡ bits i

-- the same of the coins of one class, at the low slot and at the one after it
abbrev pub HasCoinBits : Region → ℕ → ℕ → (ℕ → Bool) → (ℕ → ℕ → Bool) → Type 0
HasCoinBits R first k bits coin = (i shift : ℕ) (v : Corner) → slice_get (inner_corners R) i ≡ Some v → IsTrue (is_of_class R k v) → shift ≤ 1
    → coin (row_of v) (slot_of R.kind first v + shift) ≡ bits i

-- ---- a step at all slots of a class

-- No bits but those of one class have changed.
abbrev pub AreSameBitsBut : ℕ → (ℕ → ℕ → ℕ → Bool) → (ℕ → ℕ → ℕ → Bool) → Type 0
AreSameBitsBut k bits new = (class row slot : ℕ) → class ≢ k → new class row slot ≡ bits class row slot

-- The same of strings.
abbrev pub AreSameBut : ℕ → (ℕ → List ℕ) → (ℕ → List ℕ) → Type 0
AreSameBut k strings new = (class : ℕ) → class ≢ k → new class ≡ strings class

-- In the rows from the first to before the end, the new bits of a class are the old ones after a step, by those of the other
-- class. The slots of the first strip are kept.
pub record AreSteppedSquareBits (from end : ℕ) (is_odd : Bool) (others coin free old new : ℕ → ℕ → Bool) : Type 0 where
  pub stepped : (row slot : ℕ) → from ≤ row → row < end → 64 ≤ slot
      → new row slot
      ≡ square_bit is_odd (old row slot) (others row (slot - 1)) (others row (slot + 1)) (others (row - 1) slot) (others (row + 1) slot)
      (coin row slot) (free row slot)
  pub kept : (row slot : ℕ) → from ≤ row → row < end → slot < 64 → new row slot ≡ old row slot

-- The same on the triangular lattice, by the bits of the class after it, from which edges come, and of the one after that, to
-- which they lead.
pub record AreSteppedTriangleBits (from end class : ℕ) (next last coin free old new : ℕ → ℕ → Bool) : Type 0 where
  pub stepped : (row slot : ℕ) → from ≤ row → row < end → 64 ≤ slot
      → new row slot
      ≡ triangle_bit class (old row slot) (next row (slot - 1)) (next (row - 1) slot) (next (row + 1) (slot + 1))
      (last row (slot + 1)) (last (row - 1) (slot - 1)) (last (row + 1) slot) (coin row slot) (free row slot)
  pub kept : (row slot : ℕ) → from ≤ row → row < end → slot < 64 → new row slot ≡ old row slot

-- the same of strings of words
abbrev pub AreSteppedSquaresIn : ℕ → ℕ → ℕ → List ℕ → List ℕ → List ℕ → List ℕ → Bool → List ℕ → List ℕ → Type 0
AreSteppedSquaresIn height from end others coins lows free is_odd old new =
    AreSteppedSquareBits from end is_odd (string_bit height others) (coin_bit height coins lows) (string_bit height free)
    (string_bit height old) (string_bit height new)

abbrev pub AreSteppedTrianglesIn : ℕ → ℕ → ℕ → ℕ → List ℕ → List ℕ → List ℕ → List ℕ → List ℕ → List ℕ → List ℕ → Type 0
AreSteppedTrianglesIn height from end class next last coins lows free old new =
    AreSteppedTriangleBits from end class (string_bit height next) (string_bit height last) (coin_bit height coins lows) (string_bit height free)
    (string_bit height old) (string_bit height new)

-- and in all rows but the first
abbrev pub AreSteppedSquares : ℕ → List ℕ → List ℕ → List ℕ → List ℕ → Bool → List ℕ → List ℕ → Type 0
AreSteppedSquares height others coins lows free is_odd old new = AreSteppedSquaresIn height 1 height others coins lows free is_odd old new

abbrev pub AreSteppedTriangles : ℕ → ℕ → List ℕ → List ℕ → List ℕ → List ℕ → List ℕ → List ℕ → List ℕ → Type 0
AreSteppedTriangles height class next last coins lows free old new = AreSteppedTrianglesIn height 1 height class next last coins lows free old new
