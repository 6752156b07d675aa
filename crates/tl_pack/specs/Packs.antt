-- Marks of corners in strings of bits: what bits are set where heights are packed, and what bits tell of the heights.
use Rattle.std.specs.Prelude.{◌≡◌, ℕ, ◌+◌, ◌-◌, ◌%◌, ◌<◌, ◌≤◌, Bool, false, ◌&&◌, ◌==◌, nat_lt, if◌then◌else◌, List, length, slice_index_or, ℤ, pos, negsuc, neg_ℤ, ◌-ℤ◌, IsTrue}
use Rattle.tl_definitions.specs.declared.Kind.{Kind}
use Rattle.tl_definitions.specs.declared.Kind.TheVariants.{Square, Triangle}
use Rattle.tl_definitions.specs.declared.Corner.{Corner}
use Rattle.tl_definitions.specs.Lattice.{class_of, classes, is_corner, rise}
use Rattle.tl_definitions.specs.Region.{Region, is_corner_of}
use Rattle.tl_definitions.specs.Heights.{AreLawful}
use Rattle.tl_marks.specs.Marks.{base, is_upper_half, mark, xor}
use Rattle.tl_strings.specs.Strings.{column, row_of, slot_of, string_bit, word_place}
use Rattle.tl_packing.specs.Packing.{IsReached}
use Rattle.tl_layout.specs.declared.layout.Layout.{Layout}
use Rattle.tl_layout.specs.Layouts.{corner_by, row_by, size_of, slot_by}

-- the strings of the classes 0, 1 and 2
abbrev pub strings_of : List ℕ → List ℕ → List ℕ → ℕ → List ℕ
strings_of first second third class = if class == 0 then first else (if class == 1 then second else third)

-- there are as many words of each class as the layout has
abbrev pub AreOfSize : Layout → List ℕ → List ℕ → List ℕ → Type 0
AreOfSize l first second third =
    (length first ≡ size_of l) × (length second ≡ size_of l) × (l.kind ≡ Triangle → length third ≡ size_of l)

-- Lawful heights whose marks the strings hold, each so many slots on as the shift tells, where the slot is in the strings.
-- Corners more than a column before the first, or behind the last inner corner, may have no slot.
pub record AreHeld (R : Region) (l : Layout) (strings : ℕ → List ℕ) (shift : ℕ) (numbers : List ℤ) : Type 0 where
  pub lawful : AreLawful R numbers
  pub marks : (v : Corner) → IsTrue (is_corner_of R v) → l.first ≤ column R.kind v + 1 → IsReached R v
      → word_place l.height (row_of v) (slot_of R.kind l.first v + shift) < size_of l
      → string_bit l.height (strings (class_of R.kind v)) (row_of v) (slot_of R.kind l.first v + shift) ≡ mark R numbers v

-- the marks of the corners of one class, where their slots are in the strings
abbrev pub HoldsClass : Region → Layout → List ℤ → ℕ → List ℕ → Type 0
HoldsClass R l numbers class words = (v : Corner) → IsTrue (is_corner_of R v) → class_of R.kind v ≡ class
    → l.first ≤ column R.kind v + 1 → word_place l.height (row_of v) (slot_of R.kind l.first v) < size_of l
    → string_bit l.height words (row_of v) (slot_of R.kind l.first v) ≡ mark R numbers v

-- ---- heights packed

-- Whether it is a corner of the lattice, of this class and no more than a column before the first, whose slot is in the strings.
abbrev pub is_in_strings : Layout → ℕ → Corner → Bool
is_in_strings l class v =
    is_corner l.kind v
    && (class_of l.kind v == class
    && (nat_lt l.first (column l.kind v + 2) && nat_lt (word_place l.height (row_of v) (slot_of l.kind l.first v)) (size_of l)))

-- and whether this height of it has the mark 1
abbrev pub is_set_by : Layout → ℕ → Corner → ℤ → Bool
is_set_by l class v z = is_in_strings l class v && is_upper_half l.kind (z -ℤ base l.kind v)

-- the same of the corner at a place, by the number there
abbrev pub is_set_at : Layout → ℕ → List ℤ → ℕ → Bool
is_set_at l class numbers p = is_set_by l class (corner_by l.width p) (slice_index_or numbers p (pos 0))

-- A place of this row and this slot, with a set bit.
pub record IsSetAt (l : Layout) (class : ℕ) (numbers : List ℤ) (i row slot p : ℕ) : Type 0 where
  pub below : p < i
  pub is_set : IsTrue (is_set_at l class numbers p)
  pub row_is : row_by l p ≡ row
  pub slot_is : slot_by l p ≡ slot

-- The bits of the places below i are set, and no others.
pub record ArePacked (l : Layout) (class : ℕ) (numbers : List ℤ) (i : ℕ) (words : List ℕ) : Type 0 where
  pub size : length words ≡ size_of l
  pub all : (p : ℕ) → p < i → IsTrue (is_set_at l class numbers p) → IsTrue (string_bit l.height words (row_by l p) (slot_by l p))
  pub only : (row slot : ℕ) → row < l.height → IsTrue (string_bit l.height words row slot) → (p : ℕ) × IsSetAt l class numbers i row slot p

-- A corner of the lattice, of this class, has this row and this slot.
pub record HasSlot (k : Kind) (first class row slot : ℕ) (v : Corner) : Type 0 where
  pub is_one : IsTrue (is_corner k v)
  pub of_class : class_of k v ≡ class
  pub not_before : first ≤ column k v + 1
  pub row_is : row_of v ≡ row
  pub slot_is : slot_of k first v ≡ slot

-- ---- a corner and its left neighbour

-- the class of the left neighbour
abbrev pub left_class : Kind → Corner → ℕ
left_class k v = (class_of k v + 1) % classes k

-- whether the directed step between them leads to the left
abbrev pub leads_left : Kind → Corner → Bool
leads_left Square v = class_of Square v == 1
leads_left Triangle v = false

-- how much heights climb along this step, by the marks of the corner and of its neighbour
abbrev pub climb_by : Kind → Corner → Bool → Bool → ℤ
climb_by k v here left = if xor (xor here left) (class_of k v == 0) then negsuc (rise k - 2) else pos 1

-- the height of the corner less that of its neighbour
abbrev pub rise_by : Kind → Corner → Bool → Bool → ℤ
rise_by k v here left = if leads_left k v then neg_ℤ (climb_by k v here left) else climb_by k v here left

-- the same, by the bits in the strings
abbrev pub rise_in : Layout → (ℕ → List ℕ) → ℕ → Corner → ℤ
rise_in l strings shift v =
    rise_by l.kind v
    (string_bit l.height (strings (class_of l.kind v)) (row_of v) (slot_of l.kind l.first v + shift))
    (string_bit l.height (strings (left_class l.kind v)) (row_of v) (slot_of l.kind l.first v + shift - 1))
