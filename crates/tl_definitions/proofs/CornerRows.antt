-- The corners of rows and columns in raster order: which they are, where each stands, and one more of them.
use Rattle.std.proofs.Common.{◌≡◌, ℕ, zero, suc, ◌+◌, ◌-◌, ◌*◌, ◌<◌, Bool, true, ◌&&◌, ◌||◌, List, [], ◌∷◌, ◌++◌, map, length, refl, sym, ◌∙◌, ap, arith, get_or, append-nil, append_assoc}
use Rattle.std.specs.Prelude.{flat_map, nat_lt}
use Rattle.std.specs.List.{list_any, range_with_len}
use Rattle.std.proofs.lemmas.List.{map-append, length-append, get_or_append_left, get_or-append_right}
use Rattle.std.proofs.lemmas.List.Concat.{flat_map-append}
use Rattle.std.proofs.lemmas.List.Folds.{list_any-append}
use Rattle.std.proofs.lemmas.List.FromFn.{map-range_with_len_more, length-map-range_with_len, get_or-map-range_with_len}
use Rattle.tl_definitions.specs.declared.Cell.{Cell}
use Rattle.tl_definitions.specs.declared.Corner.{Corner}
use Rattle.tl_definitions.specs.Lattice.{cell, corner, cell_eq, corner_eq, cell_lt, corner_lt}
use Rattle.tl_definitions.specs.Region.{places, corner_row, corner_rows, corners_before}
use Rattle.tl_lists.specs.Lists.{upto, linked}
use Rattle.tl_definitions.proofs.Partners.{rows-linked}
use Rattle.tl_definitions.proofs.Regions.{any-places}
use Rattle.tl_lists.proofs.Members.{upto_more}

-- ---- one more

pub before-more : (width r x : ℕ) → corners_before width r (x + 1) ≡ corners_before width r x ++ (corner r x ∷ [])
before-more width r x =
    ap (λ (l : List Corner). corner_rows width r ++ l) (map-range_with_len_more (λ x. corner r x) 0 x x (omega arith))
    ∙ sym (append_assoc (corner_rows width r) (corner_row r x) (corner r x ∷ []))

pub rows-more : (width r : ℕ) → corner_rows width (r + 1) ≡ corners_before width r width
rows-more width r =
    ap (λ (l : List ℕ). flat_map (λ r. corner_row r width) l) (upto_more r) ∙ flat_map-append (λ r. corner_row r width) (upto r) (r ∷ [])
    ∙ ap (λ (l : List Corner). corner_rows width r ++ l) (append-nil (corner_row r width))

pub before-row : (width r : ℕ) → corners_before width (r + 1) 0 ≡ corners_before width r width
before-row width r = append-nil (corner_rows width (r + 1)) ∙ rows-more width r

-- ---- which they are

row-as_cells : (v : Corner) (r : ℕ) (xs : List ℕ) → list_any (corner_eq v) (map (λ x. corner r x) xs) ≡ list_any (cell_eq (cell v.r v.x)) (map (λ c. cell r c) xs)
row-as_cells v r [] = refl
row-as_cells v r (x ∷ xs) = ap (λ (t : Bool). corner_eq v (corner r x) || t) (row-as_cells v r xs)

rows-as_cells : (v : Corner) (width : ℕ) (rs : List ℕ)
    → list_any (corner_eq v) (flat_map (λ r. corner_row r width) rs) ≡ list_any (cell_eq (cell v.r v.x)) (flat_map (λ r. map (λ c. cell r c) (upto width)) rs)
rows-as_cells v width [] = refl
rows-as_cells v width (r ∷ rs) =
    list_any-append (corner_eq v) (corner_row r width) (flat_map (λ r. corner_row r width) rs)
    ∙ ap (λ (t : Bool). t || list_any (corner_eq v) (flat_map (λ r. corner_row r width) rs)) (row-as_cells v r (upto width))
    ∙ ap (λ (t : Bool). list_any (cell_eq (cell v.r v.x)) (map (λ c. cell r c) (upto width)) || t) (rows-as_cells v width rs)
    ∙ sym (list_any-append (cell_eq (cell v.r v.x)) (map (λ c. cell r c) (upto width)) (flat_map (λ r. map (λ c. cell r c) (upto width)) rs))

pub any-corner_rows : (v : Corner) (width rows : ℕ) → list_any (corner_eq v) (corner_rows width rows) ≡ (nat_lt v.r rows && nat_lt v.x width)
any-corner_rows v width rows = rows-as_cells v width (upto rows) ∙ any-places (cell v.r v.x) rows width

-- ---- where each stands

length-rows : (width n s : ℕ) → length (flat_map (λ r. corner_row r width) (range_with_len s n)) ≡ n * width
length-rows width zero s = omega arith
length-rows width (suc n) s =
    let here : length (corner_row s width) ≡ width = length-map-range_with_len (λ x. corner s x) 0 width in
    let rest = length-rows width n (s + 1) in
    length-append (corner_row s width) (flat_map (λ r. corner_row r width) (range_with_len (s + 1) n)) ∙ omega (arith, here, rest)

pub length-corner_rows : (width rows : ℕ) → length (corner_rows width rows) ≡ rows * width
length-corner_rows width rows = length-rows width rows 0

pub length-before : (width r x : ℕ) → length (corners_before width r x) ≡ r * width + x
length-before width r x =
    let rows = length-corner_rows width r in
    let here : length (corner_row r x) ≡ x = length-map-range_with_len (λ x. corner r x) 0 x in
    length-append (corner_rows width r) (corner_row r x) ∙ omega (arith, rows, here)

rows-at : (width n s r x : ℕ) (d : Corner) → r < n → x < width → get_or (flat_map (λ r. corner_row r width) (range_with_len s n)) (r * width + x) d ≡ corner (s + r) x
rows-at width zero s r x d h k = absurd (omega (arith, h))
rows-at width (suc n) s zero x d h k =
    let here : length (corner_row s width) ≡ width = length-map-range_with_len (λ x. corner s x) 0 width in
    let start : 0 * width + x ≡ x = omega arith in
    let row : s ≡ s + 0 = omega arith in
    ap (λ (i : ℕ). get_or (corner_row s width ++ flat_map (λ r. corner_row r width) (range_with_len (s + 1) n)) i d) start
    ∙ get_or_append_left (corner_row s width) (flat_map (λ r. corner_row r width) (range_with_len (s + 1) n)) d x (omega (arith, here, k))
    ∙ get_or-map-range_with_len (λ x. corner s x) 0 width x x d k (omega arith)
    ∙ ap (λ (i : ℕ). corner i x) row
rows-at width (suc n) s (suc r) x d h k =
    let here : length (corner_row s width) ≡ width = length-map-range_with_len (λ x. corner s x) 0 width in
    let place : suc r * width + x - width ≡ r * width + x = omega arith in
    let row : s + 1 + r ≡ s + suc r = omega arith in
    get_or-append_right (corner_row s width) (flat_map (λ r. corner_row r width) (range_with_len (s + 1) n)) width (suc r * width + x) d here (omega arith)
    ∙ ap (λ (i : ℕ). get_or (flat_map (λ r. corner_row r width) (range_with_len (s + 1) n)) i d) place
    ∙ rows-at width n (s + 1) r x d (omega (arith, h)) k
    ∙ ap (λ (i : ℕ). corner i x) row

pub corner_rows-at : (width rows r x : ℕ) (d : Corner) → r < rows → x < width → get_or (corner_rows width rows) (r * width + x) d ≡ corner r x
corner_rows-at width rows r x d h k = rows-at width rows 0 r x d h k ∙ ap (λ (i : ℕ). corner i x) (start r)
  where
    start : (r : ℕ) → 0 + r ≡ r
    start r = omega arith

-- ---- their order

-- corners as cells with the same coordinates
row-at_cells : (r : ℕ) (xs : List ℕ) → map (λ x. corner r x) xs ≡ map (λ a. corner a.r a.c) (map (λ c. cell r c) xs)
row-at_cells r [] = refl
row-at_cells r (x ∷ xs) = ap (λ (l : List Corner). corner r x ∷ l) (row-at_cells r xs)

rows-at_cells : (width : ℕ) (rs : List ℕ) → flat_map (λ r. corner_row r width) rs ≡ map (λ a. corner a.r a.c) (flat_map (λ r. map (λ c. cell r c) (upto width)) rs)
rows-at_cells width [] = refl
rows-at_cells width (r ∷ rs) =
    ap (λ (l : List Corner). l ++ flat_map (λ r. corner_row r width) rs) (row-at_cells r (upto width))
    ∙ ap (λ (l : List Corner). map (λ a. corner a.r a.c) (map (λ c. cell r c) (upto width)) ++ l) (rows-at_cells width rs)
    ∙ sym (map-append (λ a. corner a.r a.c) (map (λ c. cell r c) (upto width)) (flat_map (λ r. map (λ c. cell r c) (upto width)) rs))

linked-at_cells : (cells : List Cell) → linked corner_lt (map (λ a. corner a.r a.c) cells) ≡ linked cell_lt cells
linked-at_cells [] = refl
linked-at_cells (a ∷ []) = refl
linked-at_cells (a ∷ b ∷ bs) = ap (λ (t : Bool). cell_lt a b && t) (linked-at_cells (b ∷ bs))

pub corner_rows-linked : (width rows : ℕ) → linked corner_lt (corner_rows width rows) ≡ true
corner_rows-linked width rows =
    ap (linked corner_lt) (rows-at_cells width (upto rows)) ∙ linked-at_cells (places rows width) ∙ rows-linked width 0 rows
