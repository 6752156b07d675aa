-- The flags of a rectangle, and what the cells of a grid are.
use Rattle.std.proofs.Common.{◌≡◌, ◌≢◌, le_refl, ℕ, zero, suc, ◌+◌, ◌*◌, ◌<◌, ◌≤◌, ◌⊎◌, inl, inr, Bool, true, false, ◌||◌, List, [], ◌∷◌, length, map, take, drop, refl, sym, ◌∙◌, ap, arith, get_or, replicate}
use Rattle.std.specs.Prelude.{◌==◌, slice_set, filter, All}
use Rattle.std.specs.List.{list_any}
use Rattle.std.proofs.lemmas.Bool.{false_from_ne_true, or_left, or_right}
use Rattle.std.proofs.lemmas.Nat.{mul-add-lt}
use Rattle.std.proofs.lemmas.List.{get_or-set_same, get_or-set_other, take_more, length-set, length-replicate, same_lists, length-take, length-drop, length-map, get_or-take, get_or-drop, get_or-map, get_or_default}
use Rattle.std.proofs.lemmas.List.FromFn.{length-map-range_with_len, get_or-map-range_with_len}
use Rattle.std.proofs.lemmas.List.Folds.{list_any-append}
use Rattle.std.proofs.lemmas.List.Sums.{length-filter, count_by-le-length}
use Rattle.std.proofs.Math.Nat.{mul_comm, mul-le-mul}
use Rattle.tl_definitions.specs.declared.Cell.{Cell}
use Rattle.tl_definitions.specs.Lattice.{cell, cell_eq}
use Rattle.tl_definitions.specs.Region.{Region, has, places, row_part}
use Rattle.tl_definitions.proofs.Regions.{has-within, same_place, length-places}
use Rattle.tl_definitions.proofs.Cells.{cell_eq-parts, cell_eq-of_parts}
use Rattle.tl_lists.proofs.Tests.{same_test, nat_cases}
use Rattle.tl_definitions.specs.Accepted.{IsPlaced}
use Rattle.tl_grid.specs.Grid.{flag_at, AreFlagsOf, IsGrid}
use Rattle.tl_definitions.specs.Limits.{most_cells}

pub or_true : (b : Bool) → (b || true) ≡ true
or_true true = refl
or_true false = refl

pub or_false : (b : Bool) → (b || false) ≡ b
or_false true = refl
or_false false = refl

list_any-more : {A : Type 0} (p : A → Bool) (xs : List A) (i : ℕ) (d : A) → i < length xs → list_any p (take (i + 1) xs) ≡ (list_any p (take i xs) || p (get_or xs i d))
list_any-more p xs i d h =
    ap (list_any p) (take_more xs i d h) ∙ (list_any-append p (take i xs) (get_or xs i d ∷ []) ∙ ap (λ (b : Bool). list_any p (take i xs) || b) (or_false (p (get_or xs i d))))

-- no flag is set
pub no_flags : (rows columns : ℕ) (flags : List Bool) → flags ≡ replicate (rows * columns) false → AreFlagsOf rows columns [] flags
no_flags rows columns flags e = record {
  size = ap length e ∙ length-replicate (rows * columns) false;
  is_set = λ a h k. ap (λ (l : List Bool). get_or l (a.r * columns + a.c) false) e ∙ get_or-replicate_same (rows * columns) (a.r * columns + a.c);
}
  where
    get_or-replicate_same : (n i : ℕ) → get_or (replicate n false) i false ≡ false
    get_or-replicate_same zero i = refl
    get_or-replicate_same (suc n) zero = refl
    get_or-replicate_same (suc n) (suc i) = get_or-replicate_same n i

-- one flag more is set
pub flags_more : (rows columns : ℕ) (cells : List Cell) (flags : List Bool) (i : ℕ) (x d : Cell) → i < length cells → x ≡ get_or cells i d
    → x.r < rows → x.c < columns → AreFlagsOf rows columns (take i cells) flags
    → AreFlagsOf rows columns (take (i + 1) cells) (slice_set flags (x.r * columns + x.c) true)
flags_more rows columns cells flags i x d h e xr xc f =
    let place = x.r * columns + x.c in
    let within : place < columns * rows = mul-add-lt x.r columns x.c rows xr xc in
    let room : place < length flags = omega (arith, within, f.size, mul_comm columns rows) in
    record {
      size = length-set flags place true ∙ f.size;
      is_set = λ a ar ac. go a ar ac room (nat_cases (a.r * columns + a.c) place);
    }
  where
    more : (a : Cell) → list_any (cell_eq a) (take (i + 1) cells) ≡ (list_any (cell_eq a) (take i cells) || cell_eq a x)
    more a = list_any-more (cell_eq a) cells i d h ∙ ap (λ (y : Cell). list_any (cell_eq a) (take i cells) || cell_eq a y) (sym e)

    go : (a : Cell) → a.r < rows → a.c < columns → x.r * columns + x.c < length flags → (a.r * columns + a.c ≡ x.r * columns + x.c) ⊎ (¬ (a.r * columns + a.c ≡ x.r * columns + x.c))
        → flag_at columns (slice_set flags (x.r * columns + x.c) true) a ≡ list_any (cell_eq a) (take (i + 1) cells)
    go a ar ac room (inl same) =
        let at : (a.r ≡ x.r) × (a.c ≡ x.c) = same_place a x columns ac xc same in
        ap (λ (n : ℕ). get_or (slice_set flags (x.r * columns + x.c) true) n false) same ∙ get_or-set_same flags (x.r * columns + x.c) true false room
        ∙ sym (more a ∙ ap (λ (b : Bool). list_any (cell_eq a) (take i cells) || b) (cell_eq-of_parts a x at.0 at.1) ∙ or_true (list_any (cell_eq a) (take i cells)))
    go a ar ac room (inr other) =
        let differ : cell_eq a x ≡ false = same_test (cell_eq a x) false (λ t. absurd (other (let p : (a.r ≡ x.r) × (a.c ≡ x.c) = cell_eq-parts a x t in place_of p.0 p.1))) (λ t. cc t) in
        get_or-set_other flags (x.r * columns + x.c) (a.r * columns + a.c) true false other ∙ f.is_set a ar ac
        ∙ sym (more a ∙ ap (λ (b : Bool). list_any (cell_eq a) (take i cells) || b) differ ∙ or_false (list_any (cell_eq a) (take i cells)))
      where
        place_of : a.r ≡ x.r → a.c ≡ x.c → a.r * columns + a.c ≡ x.r * columns + x.c
        place_of r c = ap (λ (n : ℕ). n * columns + a.c) r ∙ ap (λ (n : ℕ). x.r * columns + n) c

-- ---- the cells of a grid

-- there are few
pub few_cells : (R : Region) → IsGrid R → length R.cells ≤ most_cells
few_cells R k =
    let count : length R.cells ≤ R.rows * R.columns = few R.cells k.placed in
    omega (arith, count, mul-le-mul k.rows_within k.columns_within)
  where
    few : (cells : List Cell) → cells ≡ filter (has R) (places R.rows R.columns) → length cells ≤ R.rows * R.columns
    few cells e = omega (arith, ap length e, length-filter (has R) (places R.rows R.columns), count_by-le-length (has R) (places R.rows R.columns), length-places R.rows R.columns 0)

-- no place outside the rectangle is in the region
pub has-outside : (R : Region) (a : Cell) → IsGrid R → ¬ ((a.r < R.rows) × (a.c < R.columns)) → has R a ≡ false
has-outside R a k out = false_from_ne_true _ (λ e. out (has-within R a k.placed e))

-- each cell is within the rectangle
pub any-self : (cells : List Cell) (k : ℕ) (d : Cell) → k < length cells → list_any (cell_eq (get_or cells k d)) cells ≡ true
any-self [] k d h = absurd (omega (arith, h))
any-self (c ∷ cs) zero d h = or_left _ _ (cell_eq-of_parts c c refl refl)
any-self (c ∷ cs) (suc k) d h = or_right (cell_eq (get_or cs k d) c) _ (any-self cs k d (omega (arith, h)))

pub cells_within : (R : Region) → IsPlaced R → All (λ a. (a.r < R.rows) × (a.c < R.columns)) R.cells
cells_within R placed k d h = has-within R (get_or R.cells k d) placed (any-self R.cells k d h)

pub not_zero : (n : ℕ) (b : Bool) → b ≡ (n == 0) → b ≡ false → n ≢ 0
not_zero n b e f z = cc (ap (λ (m : ℕ). m == 0) z, e, f)

-- the place of a cell of the region is one of the rectangle's
pub place-within : (R : Region) (a : Cell) → IsGrid R → has R a ≡ true → a.r * R.columns + a.c < R.rows * R.columns
place-within R a k e =
    let p : (a.r < R.rows) × (a.c < R.columns) = has-within R a k.placed e in
    omega (arith, mul-add-lt a.r R.columns a.c R.rows p.0 p.1, mul_comm R.columns R.rows)

-- the flags of a row
pub row-flags : (rows columns r : ℕ) (cells : List Cell) (flags : List Bool) → AreFlagsOf rows columns cells flags → r < rows
    → take columns (drop (r * columns) flags) ≡ map (λ a. list_any (cell_eq a) cells) (row_part r 0 columns)
row-flags rows columns r cells flags f h =
    same_lists (take columns (drop (r * columns) flags)) (map (λ a. list_any (cell_eq a) cells) (row_part r 0 columns)) (long ∙ sym (length-row columns))
    (λ k d i. at k d (omega (arith, i, long)))
  where
    room : r * columns + columns ≤ length flags
    room = omega (arith, mul-le-mul h (le_refl columns), f.size)

    long : length (take columns (drop (r * columns) flags)) ≡ columns
    long = length-take columns (drop (r * columns) flags) ∙ omega (arith, length-drop (r * columns) flags, room)

    length-row : (n : ℕ) → length (map (λ a. list_any (cell_eq a) cells) (row_part r 0 n)) ≡ n
    length-row n = length-map (row_part r 0 n) (λ a. list_any (cell_eq a) cells) ∙ length-map-range_with_len (λ c. cell r c) 0 n

    at : (k : ℕ) (d : Bool) → k < columns → get_or (take columns (drop (r * columns) flags)) k d ≡ get_or (map (λ a. list_any (cell_eq a) cells) (row_part r 0 columns)) k d
    at k d i =
        get_or-take columns (drop (r * columns) flags) k d i ∙ get_or-drop (r * columns) flags k d
        ∙ get_or_default flags (r * columns + k) d false (omega (arith, room, i)) ∙ f.is_set (cell r k) h i
        ∙ sym (get_or-map (λ a. list_any (cell_eq a) cells) (row_part r 0 columns) k (cell r k) d (omega (arith, length-map-range_with_len (λ c. cell r c) 0 columns, i))
        ∙ ap (λ (a : Cell). list_any (cell_eq a) cells) (get_or-map-range_with_len (λ c. cell r c) 0 columns k k (cell r k) i (omega arith)))
