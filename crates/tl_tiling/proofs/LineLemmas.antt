-- Reading a line of a drawing into the letters of its row.
use Rattle.std.proofs.Common.{◌≡◌, ℕ, ◌+◌, ◌-◌, ◌*◌, ◌<◌, ◌≤◌, ◌⊎◌, inl, inr, Bool, true, false, List, length, map, take, drop, refl, sym, ◌∙◌, ap, arith, Some, get_or}
use Rattle.std.specs.Prelude.{slice_get, if◌then◌else◌}
use Rattle.std.proofs.lemmas.Bool.{cases_lt}
use Rattle.std.proofs.lemmas.List.{places, get_or-map, length-map, get_or-take, get_or-drop}
use Rattle.std.proofs.lemmas.List.FromFn.{length-map-range_with_len, get_or-map-range_with_len}
use Rattle.std.proofs.lemmas.Nat.{mul-add-lt}
use Rattle.std.proofs.lemmas.Option.{slice_get_past, slice_get-get_or}
use Rattle.std.proofs.Math.Nat.{mul_comm, mul-le-mul_right}
use borrow.Rule.Slice.PartMut.{put_mid}
use Rattle.tl_definitions.specs.declared.Cell.{Cell}
use Rattle.tl_definitions.specs.Lattice.{cell}
use Rattle.tl_definitions.specs.Region.{Region, has, row_part}
use Rattle.tl_definitions.specs.Accepted.{IsPlaced}
use Rattle.tl_formats.specs.RegionText.{is_blank}
use Rattle.tl_formats.specs.Drawing.{is_letter}
use Rattle.tl_definitions.proofs.Regions.{has-within}
use Rattle.tl_definitions.proofs.Cells.{cell-same}
use Rattle.tl_lists.proofs.Tests.{nat_cases}
use Rattle.tl_tiling.specs.Letters.{letter_at, is_allowed_in, ReadsLine}

-- the flags of a row
pub flags-length : (R : Region) (r : ℕ) (flags : List Bool) → flags ≡ map (has R) (row_part r 0 R.columns) → length flags ≡ R.columns
flags-length R r flags e = ap length e ∙ length-map (row_part r 0 R.columns) (has R) ∙ length-map-range_with_len (λ c. cell r c) 0 R.columns

pub flags-at : (R : Region) (r c : ℕ) (flags : List Bool) → flags ≡ map (has R) (row_part r 0 R.columns) → c < R.columns → get_or flags c false ≡ has R (cell r c)
flags-at R r c flags e h =
    ap (λ (l : List Bool). get_or l c false) e
    ∙ get_or-map (has R) (row_part r 0 R.columns) c (cell 0 0) false (omega (arith, h, length-map-range_with_len (λ c. cell r c) 0 R.columns))
    ∙ ap (has R) (get_or-map-range_with_len (λ c. cell r c) 0 R.columns c c (cell 0 0) h (omega arith))

-- whether a byte is allowed, by the place's flag
pub allowed-at : (R : Region) (r c : ℕ) (line : List ℕ) (inside : Bool) (byte : ℕ) → inside ≡ has R (cell r c) → slice_get line c ≡ Some byte
    → is_allowed_in R line (cell r c) ≡ (if inside then is_letter (Some byte) else is_blank (Some byte))
allowed-at R r c line inside byte h e = rw (sym h, e) refl

-- where no cell is a blank is allowed, and past the line there are blanks
pub allowed-outside : (R : Region) (line : List ℕ) (a : Cell) → has R a ≡ false → is_blank (slice_get line a.c) ≡ true → is_allowed_in R line a ≡ true
allowed-outside R line a h e = rw h e

pub blank-past : (line : List ℕ) (c : ℕ) → length line ≤ c → is_blank (slice_get line c) ≡ true
blank-past line c h = ap is_blank (slice_get_past line c h)

-- The letters of one row are exchanged for others.
put_row : (old row : List ℕ) (at columns i : ℕ) → length row ≡ columns → at + columns ≤ length old → i < columns → get_or (put_mid at (at + columns - at) old row) (at + i) 0 ≡ get_or row i 0
put_row old row at columns i size room h = search (arith, places)

put_elsewhere : (old row : List ℕ) (at columns i : ℕ) → length row ≡ columns → at + columns ≤ length old → (i < at) ⊎ (at + columns ≤ i) → get_or (put_mid at (at + columns - at) old row) i 0 ≡ get_or old i 0
put_elsewhere old row at columns i size room (inl h) = search (arith, places)
put_elsewhere old row at columns i size room (inr h) = search (arith, places)

-- a row that was read whole
pub reads_line : (R : Region) (r : ℕ) (line old row : List ℕ) → IsPlaced R → r < R.rows → length old ≡ R.rows * R.columns → length row ≡ R.columns
    → ((c : ℕ) → is_allowed_in R line (cell r c) ≡ true)
    → ((c : ℕ) → c < length line → has R (cell r c) ≡ true → get_or row c 0 ≡ get_or line c 0)
    → ((c : ℕ) → has R (cell r c) ≡ false → get_or row c 0 ≡ get_or (take (r * R.columns + R.columns - r * R.columns) (drop (r * R.columns) old)) c 0)
    → ReadsLine R r line old (put_mid (r * R.columns) (r * R.columns + R.columns - r * R.columns) old row)
reads_line R r line old row placed h size width fine put kept = record {
  read = λ a e i.
      let w : (a.r < R.rows) × (a.c < R.columns) = has-within R a placed i in
      read a.c (sym (ap (has R) (here a e)) ∙ i) ∙ ap (λ (b : ℕ). Some b) (sym (at a e w.1));
  kept = λ a i j o. kept_at a i j o (nat_cases a.r r);
}
  where
    here : (a : Cell) → a.r ≡ r → a ≡ cell r a.c
    here a e = cell-same a (cell r a.c) e refl

    room : r * R.columns + R.columns ≤ length old
    room = omega (arith, size, mul-le-mul_right {m = r + 1} {n = R.rows} R.columns (omega (arith, h)))

    at : (a : Cell) → a.r ≡ r → a.c < R.columns → letter_at R (put_mid (r * R.columns) (r * R.columns + R.columns - r * R.columns) old row) a ≡ get_or row a.c 0
    at a e j =
        ap (λ (n : ℕ). get_or (put_mid (r * R.columns) (r * R.columns + R.columns - r * R.columns) old row) (n * R.columns + a.c) 0) e
        ∙ put_row old row (r * R.columns) R.columns a.c width room j

    read : (c : ℕ) → has R (cell r c) ≡ true → slice_get line c ≡ Some (get_or row c 0)
    read c i =
        elim (cases_lt c (length line)) [
          | inl l ↦ slice_get-get_or line c 0 l ∙ ap (λ (b : ℕ). Some b) (sym (put c l i))
          | inr l ↦ let bad : is_allowed_in R line (cell r c) ≡ false = rw (i, slice_get_past line c l) refl in cc (sym bad, fine c)
        ]

    apart : (a : Cell) → a.c < R.columns → ¬ (a.r ≡ r) → (a.r * R.columns + a.c < r * R.columns) ⊎ (r * R.columns + R.columns ≤ a.r * R.columns + a.c)
    apart a j other =
        elim (cases_lt a.r r) [
          | inl l ↦ inl (omega (arith, mul-add-lt a.r R.columns a.c r l j, mul_comm R.columns r))
          | inr l ↦ inr (omega (arith, mul-le-mul_right {m = r + 1} {n = a.r} R.columns (omega (arith, other, l))))
        ]

    kept_at : (a : Cell) → a.r < R.rows → a.c < R.columns → ((a.r ≡ r → ⊥) ⊎ (has R a ≡ false)) → (a.r ≡ r) ⊎ (¬ (a.r ≡ r))
        → letter_at R (put_mid (r * R.columns) (r * R.columns + R.columns - r * R.columns) old row) a ≡ letter_at R old a
    kept_at a i j o (inr other) = put_elsewhere old row (r * R.columns) R.columns (a.r * R.columns + a.c) width room (apart a j other)
    kept_at a i j (inl other) (inl e) = absurd (other e)
    kept_at a i j (inr out) (inl e) =
        at a e j ∙ kept a.c (sym (ap (has R) (here a e)) ∙ out)
        ∙ get_or-take _ (drop (r * R.columns) old) a.c 0 (omega (arith, j)) ∙ get_or-drop (r * R.columns) old a.c 0
        ∙ ap (λ (n : ℕ). get_or old (n * R.columns + a.c) 0) (sym e)
