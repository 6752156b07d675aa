-- Random bits in the slots of the inner corners, laid out piece by piece.
use Rattle.std.specs.Prelude.{◌≡◌, ℕ, ◌+◌, ◌*◌, ◌/◌, ◌%◌, ◌<◌, Bool, ◌==◌, List, length, slice_get, slice_index, Some}
use Rattle.std.specs.Int.{bit_at}
use Rattle.std.specs.List.{All, Contains}
use Rattle.tl_definitions.specs.declared.Corner.{Corner}
use Rattle.tl_definitions.specs.Region.{Region, inner_corners}
use Rattle.tl_grid.specs.Survey.{inner_places}
use Rattle.tl_strings.specs.Strings.{row_of, slot_of, string_bit}
use Rattle.tl_layout.specs.declared.layout.Layout.{Layout}
use Rattle.tl_layout.specs.declared.piece.Piece.{Piece}
use Rattle.tl_layout.specs.declared.piece.Pieces.{Pieces}
use Rattle.tl_layout.specs.Layouts.{bit_by, IsLayoutOf, size_of, word_by}

-- The bit of the inner corner of this number, where the words of a time stand behind four others. Bit 0 of a word is the
-- lowest.
abbrev pub coin : List ℕ → ℕ → Bool
coin raw i = bit_at (slice_index raw (4 + i / 32)) (i % 32) == 1

-- in the slot of each inner corner is the bit of its number
abbrev pub AreLaidOut : Region → Layout → List ℕ → List ℕ → Type 0
AreLaidOut R l raw words =
    (i : ℕ) (v : Corner) → slice_get (inner_corners R) i ≡ Some v
    → string_bit l.height words (row_of v) (slot_of R.kind l.first v) ≡ coin raw i

-- ---- pieces

-- bit n of the words, from the first on
abbrev pub raw_bit : List ℕ → ℕ → ℕ
raw_bit raw n = bit_at (slice_index raw (n / 32)) (n % 32)

-- the number of the raw bit that a piece puts at a bit of its word
abbrev pub source : Piece → ℕ → ℕ
source p x = 32 * p.from + p.shift + x

-- the piece puts a bit at this bit of the word of this place
pub record Puts (word x : ℕ) (p : Piece) : Type 0 where
  pub place : p.place ≡ word
  pub mask : bit_at p.mask x ≡ 1

-- where all that put a bit there put the same one, and one of these pieces does, it is there
pub record ArePut (raw : List ℕ) (all done : List Piece) (words : List ℕ) : Type 0 where
  pub each : (word x bit : ℕ) → x < 64 → All (λ p. Puts word x p → raw_bit raw (source p x) ≡ bit) all
      → (q : Piece) → Contains done q → Puts word x q → bit_at (slice_index words word) x ≡ bit

-- the piece puts the bit of this number of a place, at this bit of its word
pub record Comes (l : Layout) (places : List ℕ) (p : Piece) (x i : ℕ) : Type 0 where
  pub within : i < length places
  pub word : word_by l (slice_index places i) ≡ p.place
  pub bit : bit_by l (slice_index places i) ≡ x
  pub number : source p x ≡ i + 128

-- What a piece puts are bits of the places. It is within the strings, and within the words of a time with the four before
-- them and four behind.
pub record IsPieceOf (l : Layout) (places : List ℕ) (p : Piece) : Type 0 where
  pub within : p.place < size_of l
  pub from : p.from + 2 < (length places + 31) / 32 + 8
  pub comes : (x : ℕ) → x < 64 → bit_at p.mask x ≡ 1 → (i : ℕ) × Comes l places p x i

-- for each of the first places there is a piece that puts its bit
pub record AreShown (l : Layout) (places : List ℕ) (count : ℕ) (pieces : List Piece) : Type 0 where
  pub each : (i : ℕ) → i < count
      → (p : Piece) × Contains pieces p × Puts (word_by l (slice_index places i)) (bit_by l (slice_index places i)) p

-- pieces that put the bits of these places, and no others
pub record ArePiecesAt (l : Layout) (places : List ℕ) (pieces : List Piece) : Type 0 where
  pub each : All (IsPieceOf l places) pieces
  pub shown : AreShown l places (length places) pieces

-- the pieces of the inner corners, with the number of words of a time and that of the words of the strings
pub record ArePiecesOf (R : Region) (l : Layout) (p : Pieces) : Type 0 where
  pub layout : IsLayoutOf R l
  pub at : ArePiecesAt l (inner_places R) p.pieces.items
  pub words : p.words ≡ (length (inner_corners R) + 31) / 32
  pub size : p.size ≡ size_of l
