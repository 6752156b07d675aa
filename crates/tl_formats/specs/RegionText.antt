-- The text of a region: a header, and one line for each row.
use Rattle.std.specs.Prelude.{◌≡◌, ◌≢◌, ℕ, max, Bool, true, not, ◌&&◌, ◌||◌, ◌==◌, nat_lt, if◌then◌else◌, List, [], ◌∷◌, map, length, drop, filter, find, fold, slice_get, slice_index_or, codes, Option, Some, None, Result, Ok, Err, IsFalse, ◌⊎◌}
use Rattle.std.specs.List.{list_any, list_all, starts_with}
use Rattle.tl_definitions.specs.declared.TheConstants.{SIDE_LIMIT}
use Rattle.tl_definitions.specs.declared.Kind.{Kind}
use Rattle.tl_definitions.specs.declared.Kind.TheVariants.{Square, Triangle}
use Rattle.tl_definitions.specs.declared.Cell.{Cell}
use Rattle.tl_definitions.specs.declared.Corner.{Corner}
use Rattle.tl_definitions.specs.Lattice.{Side}
use Rattle.tl_definitions.specs.Region.{Region, places, corner_places}
use Rattle.tl_definitions.specs.Accepted.{is_pinch, IsCircuit, HasEulerOne, Accepted, IsFirstParted, InOnePart}
use Rattle.tl_lists.specs.Lists.{is_byte}

-- The header is the word `square` or `triangle`, after which any number of spaces may stand.
abbrev pub is_header : List ℕ → List ℕ → Bool
is_header word line = starts_with ◌==◌ line word && list_all (λ b. b == 32) (drop (length word) line)

abbrev pub kind_of : List ℕ → Option Kind
kind_of line =
    if is_header (codes "square") line then Some Square
    else (if is_header (codes "triangle") line then Some Triangle else None)

-- the byte at a place of the rows, if there is one
abbrev pub byte_at : List (List ℕ) → Cell → Option ℕ
byte_at rows p = slice_get (slice_index_or rows p.r []) p.c

-- `.`, a space or nothing
abbrev pub is_blank : Option ℕ → Bool
is_blank None = true
is_blank (Some b) = b == 46 || b == 32

-- the greatest number of bytes in a row
abbrev pub longest : List (List ℕ) → ℕ
longest rows = fold max 0 (map length rows)

-- the first place in raster order with a byte other than `#`, `.` and a space
abbrev pub first_bad_byte : List (List ℕ) → Option Cell
first_bad_byte rows =
    find (λ p. not (is_byte 35 (byte_at rows p) || is_blank (byte_at rows p))) (places (length rows) (longest rows))

-- the cells that the `#` of the rows name
abbrev pub region_of : Kind → List (List ℕ) → Region
region_of k rows = record {
  kind = k;
  rows = length rows;
  columns = longest rows;
  cells = filter (λ p. is_byte 35 (byte_at rows p)) (places (length rows) (longest rows));
}

abbrev pub is_too_large : Region → Bool
is_too_large R = nat_lt SIDE_LIMIT R.rows || nat_lt SIDE_LIMIT R.columns

-- why a region is refused
pub data RegionRefusal : Type 0 where
  bad_header : RegionRefusal
  bad_byte : Cell → RegionRefusal
  too_large : RegionRefusal
  empty : RegionRefusal
  parts : Cell → RegionRefusal
  pinch : Corner → RegionRefusal
  hole : RegionRefusal

abbrev pub region_of_rows : Kind → List (List ℕ) → Result Region RegionRefusal
region_of_rows k rows =
    elim (first_bad_byte rows) [
      | Some p ↦ Err (bad_byte p)
      | None ↦ if is_too_large (region_of k rows) then Err too_large else Ok (region_of k rows)
    ]

-- what the lines of a section name, before the rules of an accepted region are asked
abbrev pub region_of_lines : List (List ℕ) → Result Region RegionRefusal
region_of_lines [] = Err bad_header
region_of_lines (l ∷ rows) = elim (kind_of l) [ None ↦ Err bad_header | Some k ↦ region_of_rows k rows ]

-- The first rule of an accepted region that is broken, with its place. The rules of the text are not
-- among them.
abbrev pub BreaksRule : Region → RegionRefusal → Type 0
BreaksRule R empty = R.cells ≡ []
BreaksRule R (parts a) = IsFirstParted R a
BreaksRule R (pinch v) = (R.cells ≢ []) × InOnePart R × (find (is_pinch R) (corner_places R) ≡ Some v)
BreaksRule R hole =
    (R.cells ≢ []) × InOnePart R × IsFalse (list_any (is_pinch R) (corner_places R))
    × ¬ (((walk : List Side) × IsCircuit R walk) × HasEulerOne R)
BreaksRule R _ = ⊥

-- the section is the text of this accepted region; or it is refused, with the first cause in the order
-- of `RegionRefusal`
abbrev pub IsRegionText : List (List ℕ) → Region → Type 0
IsRegionText lines R = (region_of_lines lines ≡ Ok R) × Accepted R

abbrev pub IsRefusedText : List (List ℕ) → RegionRefusal → Type 0
IsRefusedText lines f =
    (region_of_lines lines ≡ Err f) ⊎ ((R : Region) × (region_of_lines lines ≡ Ok R) × BreaksRule R f)
