-- Where the inner corners of a region stand in strings of bits.
use Rattle.std.specs.Prelude.{◌≡◌, ℕ, ◌+◌, ◌*◌, ◌/◌, ◌%◌, ◌<◌, ◌≤◌, IsTrue}
use Rattle.tl_definitions.specs.declared.Kind.{Kind}
use Rattle.tl_definitions.specs.declared.Corner.{Corner}
use Rattle.tl_definitions.specs.Lattice.{corner}
use Rattle.tl_definitions.specs.Region.{Region, is_inner}
use Rattle.tl_definitions.specs.Accepted.{IsPlaced}
use Rattle.tl_strings.specs.Strings.{column, row_of, slot_of, word_place}
use Rattle.tl_layout.specs.declared.layout.Layout.{Layout}

-- the number of words of the strings
abbrev pub size_of : Layout → ℕ
size_of l = l.strips * l.height

-- A corner that isn't left of the first column. Its slot and the slot after it, and the words beside theirs, are in
-- strings of so many words.
pub record Stands (k : Kind) (first height size : ℕ) (v : Corner) : Type 0 where
  pub column : first ≤ column k v
  pub slot : 64 ≤ slot_of k first v
  pub row : row_of v + 1 < height
  pub inside : word_place height (row_of v) (slot_of k first v + 1) + height + 1 < size

-- each inner corner of the region stands in strings laid out so
pub record IsLayoutOf (R : Region) (l : Layout) : Type 0 where
  pub placed : IsPlaced R
  pub kind : l.kind ≡ R.kind
  pub width : l.width ≡ R.columns + 2
  pub height : l.height ≡ R.rows + 4
  pub stands : (v : Corner) → IsTrue (is_inner R v) → Stands R.kind l.first l.height (size_of l) v

-- ---- by places among all corner places of rows of a width

abbrev pub corner_by : ℕ → ℕ → Corner
corner_by width place = corner (place / width) (place % width)

abbrev pub row_by : Layout → ℕ → ℕ
row_by l place = row_of (corner_by l.width place)

abbrev pub slot_by : Layout → ℕ → ℕ
slot_by l place = slot_of l.kind l.first (corner_by l.width place)

-- the place of the word, and the bit of it
abbrev pub word_by : Layout → ℕ → ℕ
word_by l place = word_place l.height (row_by l place) (slot_by l place)

abbrev pub bit_by : Layout → ℕ → ℕ
bit_by l place = slot_by l place % 64

abbrev pub StandsBy : Layout → ℕ → Type 0
StandsBy l place = Stands l.kind l.first l.height (size_of l) (corner_by l.width place)

-- the column of the corner at a place lies between these
pub record IsBetween (k : Kind) (width first last place : ℕ) : Type 0 where
  pub from : first ≤ column k (corner_by width place)
  pub to : column k (corner_by width place) ≤ last
