-- The region and the first bad byte of a text, row by row.
use Rattle.std.proofs.Common.{◌≡◌, ℕ, zero, suc, ◌+◌, ◌≤◌, Bool, false, not, ◌||◌, List, [], ◌∷◌, map, length, Option, Some, None, refl, ◌∙◌, ap, arith, cond, subst, ◌++◌}
use Rattle.std.specs.Prelude.{filter, slice_get, fold, max, slice_index_or, flat_map}
use Rattle.std.specs.List.{range_with_len}
use Rattle.std.proofs.lemmas.Option.{slice_get_past, get_or_from_slice_get}
use Rattle.tl_definitions.specs.declared.Kind.{Kind}
use Rattle.tl_definitions.specs.declared.Cell.{Cell}
use Rattle.tl_definitions.specs.Lattice.{cell}
use Rattle.tl_definitions.specs.Accepted.{IsPlaced}
use Rattle.tl_definitions.specs.Region.{places, row_part}
use Rattle.tl_formats.specs.RegionText.{byte_at, is_blank, longest, first_bad_byte, region_of}
use Rattle.tl_lists.specs.Lists.{is_byte}
use Rattle.tl_formats.specs.Marks.{marks, text_marks, is_hash, is_bad}
use Rattle.tl_definitions.proofs.Raster.{filter-row_cut, filter-places, filter-placed}
use Rattle.tl_lists.proofs.Searches.{find-filter}

-- a test of places that is the test of their bytes
pub filter-row_marks : (p : Cell → Bool) (test : ℕ → Bool) (r c : ℕ) (bs : List ℕ)
    → ((i b : ℕ) → slice_get bs i ≡ Some b → p (cell r (c + i)) ≡ test b) → filter p (row_part r c (length bs)) ≡ marks test r c bs
filter-row_marks p test r c [] same = refl
filter-row_marks p test r c (b ∷ bs) same =
    let here : p (cell r c) ≡ test b = subst (λ (k : ℕ). p (cell r k) ≡ test b) (plus_zero c) (same 0 b refl) in
    let rest = filter-row_marks p test r (c + 1) bs (λ i d e. subst (λ (k : ℕ). p (cell r k) ≡ test d) (plus_one c i) (same (suc i) d e)) in
    ap (λ (t : Bool). cond t (cell r c ∷ filter p (row_part r (c + 1) (length bs))) (filter p (row_part r (c + 1) (length bs)))) here
    ∙ ap (λ (l : List Cell). cond (test b) (cell r c ∷ l) l) rest
  where
    plus_zero : (c : ℕ) → c + 0 ≡ c
    plus_zero c = omega arith

    plus_one : (c i : ℕ) → c + suc i ≡ (c + 1) + i
    plus_one c i = omega arith

pub filter-rows_marks : (p : Cell → Bool) (test : ℕ → Bool) (columns r : ℕ) (ls : List (List ℕ))
    → ((i : ℕ) (l : List ℕ) → slice_get ls i ≡ Some l → filter p (row_part (r + i) 0 columns) ≡ marks test (r + i) 0 l)
    → flat_map (λ r. filter p (row_part r 0 columns)) (range_with_len r (length ls)) ≡ text_marks test r ls
filter-rows_marks p test columns r [] same = refl
filter-rows_marks p test columns r (l ∷ ls) same =
    let here : filter p (row_part r 0 columns) ≡ marks test r 0 l = subst (λ (k : ℕ). filter p (row_part k 0 columns) ≡ marks test k 0 l) (plus_zero r) (same 0 l refl) in
    let rest = filter-rows_marks p test columns (r + 1) ls (λ i m e. subst (λ (k : ℕ). filter p (row_part k 0 columns) ≡ marks test k 0 m) (plus_one r i) (same (suc i) m e)) in
    ap (λ (l : List Cell). l ++ flat_map (λ r. filter p (row_part r 0 columns)) (range_with_len (r + 1) (length ls))) here
    ∙ ap (λ (rest : List Cell). marks test r 0 l ++ rest) rest
  where
    plus_zero : (c : ℕ) → c + 0 ≡ c
    plus_zero c = omega arith

    plus_one : (c i : ℕ) → c + suc i ≡ (c + 1) + i
    plus_one c i = omega arith

-- ---- the longest row

pub fold_max-above : (a : ℕ) (ns : List ℕ) → a ≤ fold max a ns
fold_max-above a [] = omega arith
fold_max-above a (n ∷ ns) = omega (arith, fold_max-above (max a n) ns)

fold_max-length : (a : ℕ) (rows : List (List ℕ)) (i : ℕ) (l : List ℕ) → slice_get rows i ≡ Some l → length l ≤ fold max a (map length rows)
fold_max-length a [] i l e = cc e
fold_max-length a (r ∷ rows) zero l e =
    let same : l ≡ r = cc e in
    omega (arith, ap length same, fold_max-above (max a (length r)) (map length rows))
fold_max-length a (r ∷ rows) (suc i) l e = fold_max-length (max a (length r)) rows i l e

pub length-longest : (rows : List (List ℕ)) (i : ℕ) (l : List ℕ) → slice_get rows i ≡ Some l → length l ≤ longest rows
length-longest rows i l e = fold_max-length 0 rows i l e

-- ---- tests of the byte at a place

-- a test of bytes that fails where there is none, asked of all places
abbrev passes : (Option ℕ → Bool) → List (List ℕ) → Cell → Bool
passes t rows p = t (byte_at rows p)

row_at : (rows : List (List ℕ)) (i : ℕ) (l : List ℕ) → slice_get rows i ≡ Some l → slice_index_or rows i [] ≡ l
row_at rows i l e = get_or_from_slice_get rows i l [] e

zero_add : (n : ℕ) → 0 + n ≡ n
zero_add n = omega arith

-- the places whose bytes pass are the marks of the rows
pub filter-passes : (t : Option ℕ → Bool) (rows : List (List ℕ)) (columns : ℕ) → t None ≡ false
    → ((i : ℕ) (l : List ℕ) → slice_get rows i ≡ Some l → length l ≤ columns)
    → filter (λ p. t (byte_at rows p)) (places (length rows) columns) ≡ text_marks (λ b. t (Some b)) 0 rows
filter-passes t rows columns none short =
    filter-places (λ p. t (byte_at rows p)) (length rows) columns
    ∙ filter-rows_marks (λ p. t (byte_at rows p)) (λ b. t (Some b)) columns 0 rows of_row
  where
    of_row : (i : ℕ) (l : List ℕ) → slice_get rows i ≡ Some l → filter (λ p. t (byte_at rows p)) (row_part (0 + i) 0 columns) ≡ marks (λ b. t (Some b)) (0 + i) 0 l
    of_row i l e =
        let at : slice_index_or rows (0 + i) [] ≡ l = ap (λ (n : ℕ). slice_index_or rows n []) (zero_add i) ∙ row_at rows i l e in
        filter-row_cut (λ p. t (byte_at rows p)) (0 + i) 0 (length l) columns (short i l e)
        (λ k h. ap (λ (row : List ℕ). t (slice_get row k)) at ∙ (ap t (slice_get_past l k (omega (arith, h))) ∙ none))
        ∙ filter-row_marks (λ p. t (byte_at rows p)) (λ b. t (Some b)) (0 + i) 0 l
        (λ j b f. ap (λ (row : List ℕ). t (slice_get row (0 + j))) at ∙ ap (λ (n : ℕ). t (slice_get l n)) (zero_add j) ∙ ap t f)

pub region_of-cells : (k : Kind) (rows : List (List ℕ)) → (region_of k rows).cells ≡ text_marks is_hash 0 rows
region_of-cells k rows = filter-passes (is_byte 35) rows (longest rows) refl (length-longest rows)

pub first_bad_byte-marks : (rows : List (List ℕ)) → first_bad_byte rows ≡ slice_get (text_marks is_bad 0 rows) 0
first_bad_byte-marks rows =
    find-filter (λ p. not (is_byte 35 (byte_at rows p) || is_blank (byte_at rows p))) (places (length rows) (longest rows))
    ∙ ap (λ (l : List Cell). slice_get l 0) (filter-passes (λ o. not (is_byte 35 o || is_blank o)) rows (longest rows) refl (length-longest rows))

-- ---- the cells of a rectangle that pass a test stand in raster order

pub region_of-placed : (k : Kind) (rows : List (List ℕ)) → IsPlaced (region_of k rows)
region_of-placed k rows = filter-placed (λ p. is_byte 35 (byte_at rows p)) (length rows) (longest rows)
