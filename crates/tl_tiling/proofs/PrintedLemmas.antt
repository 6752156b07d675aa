-- A printed drawing is a section whose rows draw the tiling.
use Rattle.std.proofs.Common.{◌≡◌, ◌≢◌, ℕ, zero, suc, ◌+◌, ◌<◌, ◌≤◌, inl, Bool, true, false, not, ◌&&◌, ◌||◌, List, [], ◌∷◌, ◌++◌, map, length, cond, refl, sym, ◌∙◌, ap, subst, arith, Option, Some, None, append_assoc}
use Rattle.std.specs.Prelude.{flat_map, option_and_then, slice_get, slice_index, slice_index_or, nat_lt, ◌==◌, IfSome}
use Rattle.std.specs.List.{list_all, range_with_len}
use Rattle.std.proofs.lemmas.Bool.{and_parts, and_from, ltb-true, ltb-false, ne_eqb, eq-eqb, not-true}
use Rattle.std.proofs.lemmas.List.{get_or_past}
use Rattle.std.proofs.lemmas.List.FromFn.{get_or-map-range_with_len, length-map-range_with_len}
use Rattle.std.proofs.lemmas.Option.{slice_get_past, slice_get-get_or}
use Rattle.tl_definitions.specs.declared.Kind.{Kind}
use Rattle.tl_definitions.specs.declared.Kind.TheVariants.{Square, Triangle}
use Rattle.tl_definitions.specs.declared.Cell.{Cell}
use Rattle.tl_definitions.specs.declared.Tile.{Tile}
use Rattle.tl_definitions.specs.Lattice.{cell, is_cell, is_dark, are_neighbours, left, right, above, below}
use Rattle.tl_definitions.specs.Region.{Region, has}
use Rattle.tl_lists.specs.Lists.{upto}
use Rattle.tl_formats.specs.Input.{pieces, without_end, line_of, is_empty_line, Section, open_section, further_section}
use Rattle.tl_formats.specs.RegionText.{byte_at, is_blank}
use Rattle.tl_definitions.specs.Tiling.{is_tiling, partner}
use Rattle.tl_formats.specs.Drawing.{named, named_at, Draws, letter, drawing, DrawingRefusal, drawing_refusal}
use Rattle.tl_formats.proofs.Lines.{without_end-last, without_end-other, open-line, open-empty_line, further-line}
use Rattle.tl_lists.proofs.Members.{In}
use Rattle.tl_definitions.proofs.Cells.{In-has, is_cell-some}
use Rattle.tl_definitions.proofs.Regions.{has-within}
use Rattle.tl_definitions.proofs.Tilings.{TilingParts, tiling-parts}
use Rattle.tl_grid.specs.Grid.{IsGrid}
use Rattle.tl_tiling.specs.Printed.{BeginsNoLine}
use Rattle.tl_tiling.proofs.TilingLemmas.{tiling-matched, partner-outside, draws-same, draws-not_refused}

-- ---- lines without line ends

-- neither a line feed nor a carriage return
abbrev plain : ℕ → Bool
plain b = not (b == 10) && not (b == 13)

plain-parts : (b : ℕ) → plain b ≡ true → ((b == 10) ≡ false) × ((b == 13) ≡ false)
plain-parts b e =
    let p : (not (b == 10) ≡ true) × (not (b == 13) ≡ true) = and_parts _ _ e in
    (not-true (b == 10) p.0, not-true (b == 13) p.1)

-- a plain line with its line feed is one piece
pieces-line : (l more : List ℕ) → list_all plain l ≡ true → pieces (l ++ 10 ∷ more) ≡ (l ++ 10 ∷ []) ∷ pieces more
pieces-line [] more e = refl
pieces-line (b ∷ l) more e =
    let p : (plain b ≡ true) × (list_all plain l ≡ true) = and_parts _ _ e in
    rw ((plain-parts b p.0).0, pieces-line l more p.1) refl

no_return : (l : List ℕ) → list_all plain l ≡ true → (i : ℕ) → i < length l → slice_index l i ≢ 13
no_return [] e i h = absurd (omega (arith, h))
no_return (b ∷ l) e zero h =
    let p : (plain b ≡ true) × (list_all plain l ≡ true) = and_parts _ _ e in
    λ s. cc (sym (plain-parts b p.0).1, eq-eqb b 13 s)
no_return (b ∷ l) e (suc i) h =
    let p : (plain b ≡ true) × (list_all plain l ≡ true) = and_parts _ _ e in
    no_return l p.1 i (omega (arith, h))

line_of-plain : (l : List ℕ) → list_all plain l ≡ true → line_of (l ++ 10 ∷ []) ≡ l
line_of-plain l e = ap (without_end 13) (without_end-last 10 l) ∙ without_end-other 13 l (no_return l e)

plain-not_empty : (l : List ℕ) → list_all plain l ≡ true → 1 ≤ length l → is_empty_line (l ++ 10 ∷ []) ≡ false
plain-not_empty l e h = ap (λ (m : List ℕ). length m == 0) (line_of-plain l e) ∙ ne_eqb (length l) 0 (λ z. omega (arith, h, z))

-- ---- the lines of a printed drawing

letter-plain : (a : Cell) (o : Option Cell) → plain (letter a o) ≡ true
letter-plain a None = refl
letter-plain a (Some b) = go (is_cell b (right a)) (is_cell b (left a)) (is_cell b (below a))
  where
    go : (s t u : Bool) → plain (cond s 62 (cond t 60 (cond u 118 94))) ≡ true
    go true t u = refl
    go false true u = refl
    go false false true = refl
    go false false false = refl

-- a row of the printed drawing
abbrev row : Region → List Tile → ℕ → List ℕ
row R A r = map (λ c. letter (cell r c) (partner A (cell r c))) (upto R.columns)

letters-plain : (A : List Tile) (r : ℕ) (cs : List ℕ) → list_all plain (map (λ c. letter (cell r c) (partner A (cell r c))) cs) ≡ true
letters-plain A r [] = refl
letters-plain A r (c ∷ cs) = and_from _ _ (letter-plain (cell r c) (partner A (cell r c))) (letters-plain A r cs)

row-plain : (R : Region) (A : List Tile) (r : ℕ) → list_all plain (row R A r) ≡ true
row-plain R A r = letters-plain A r (upto R.columns)

length-row : (R : Region) (A : List Tile) (r : ℕ) → length (row R A r) ≡ R.columns
length-row R A r = length-map-range_with_len (λ c. letter (cell r c) (partner A (cell r c))) 0 R.columns

row-not_empty : (R : Region) (A : List Tile) (r : ℕ) → 1 ≤ R.columns → is_empty_line (row R A r ++ 10 ∷ []) ≡ false
row-not_empty R A r h = plain-not_empty (row R A r) (row-plain R A r) (omega (arith, h, length-row R A r))

line-then : (l x y : List ℕ) → ((l ++ 10 ∷ []) ++ x) ++ y ≡ l ++ 10 ∷ (x ++ y)
line-then l x y = append_assoc (l ++ 10 ∷ []) x y ∙ append_assoc l (10 ∷ []) (x ++ y)

-- n rows from one on, and a text after them
abbrev rows_then : Region → List Tile → List ℕ → ℕ → ℕ → List ℕ
rows_then R A rest s n = flat_map (λ r. row R A r ++ 10 ∷ []) (range_with_len s n) ++ rest

rows-cut : (R : Region) (A : List Tile) (rest : List ℕ) (s n : ℕ) → pieces (rows_then R A rest s (suc n)) ≡ (row R A s ++ 10 ∷ []) ∷ pieces (rows_then R A rest (s + 1) n)
rows-cut R A rest s n =
    ap pieces (line-then (row R A s) (flat_map (λ r. row R A r ++ 10 ∷ []) (range_with_len (s + 1) n)) rest)
    ∙ pieces-line (row R A s) (rows_then R A rest (s + 1) n) (row-plain R A s)

open-rows : (R : Region) (A : List Tile) (rest : List ℕ) (s n : ℕ) → 1 ≤ R.columns → BeginsNoLine rest
    → (open_section (pieces (rows_then R A rest s n))).lines ≡ map (row R A) (range_with_len s n)
open-rows R A [] s zero h b = refl
open-rows R A (x ∷ rest) s zero h b =
    ap (λ (y : ℕ). (open_section (pieces (y ∷ rest))).lines) b
    ∙ ap (λ (u : Section). u.lines) (open-empty_line (10 ∷ []) (pieces rest) refl)
open-rows R A rest s (suc n) h b =
    ap (λ (ps : List (List ℕ)). (open_section ps).lines) (rows-cut R A rest s n)
    ∙ ap (λ (u : Section). u.lines) (open-line (row R A s ++ 10 ∷ []) (pieces (rows_then R A rest (s + 1) n)) (row-not_empty R A s h))
    ∙ ap (λ (l : List ℕ). l ∷ (open_section (pieces (rows_then R A rest (s + 1) n))).lines) (line_of-plain (row R A s) (row-plain R A s))
    ∙ ap (λ (ls : List (List ℕ)). row R A s ∷ ls) (open-rows R A rest (s + 1) n h b)

further-rows : (R : Region) (A : List Tile) (rest : List ℕ) (n : ℕ) → 1 ≤ R.columns → 1 ≤ n → BeginsNoLine rest
    → (further_section (rows_then R A rest 0 n)).lines ≡ map (row R A) (range_with_len 0 n)
further-rows R A rest zero h k b = absurd (omega (arith, k))
further-rows R A rest (suc n) h k b =
    ap (λ (u : Section). u.lines)
    (sym (further-line (rows_then R A rest 0 (suc n)) (rows_then R A rest (0 + 1) n) (row R A 0 ++ 10 ∷ []) (rows-cut R A rest 0 n) (row-not_empty R A 0 h)))
    ∙ open-rows R A rest 0 (suc n) h b

-- ---- its letters

row-at : (R : Region) (A : List Tile) (r : ℕ) → r < R.rows → slice_index_or (map (row R A) (upto R.rows)) r [] ≡ row R A r
row-at R A r h = get_or-map-range_with_len (row R A) 0 R.rows r r [] h (omega arith)

printed-letter : (R : Region) (A : List Tile) (a : Cell) → a.r < R.rows → a.c < R.columns → byte_at (map (row R A) (upto R.rows)) a ≡ Some (letter a (partner A a))
printed-letter R A a h k =
    ap (λ (l : List ℕ). slice_get l a.c) (row-at R A a.r h)
    ∙ slice_get-get_or (row R A a.r) a.c 0 (omega (arith, k, length-row R A a.r))
    ∙ ap (λ (b : ℕ). Some b) (get_or-map-range_with_len (λ c. letter (cell a.r c) (partner A (cell a.r c))) 0 R.columns a.c a.c 0 k (omega arith))

printed-blank : (R : Region) (A : List Tile) (a : Cell) → partner A a ≡ None → is_blank (byte_at (map (row R A) (upto R.rows)) a) ≡ true
printed-blank R A a none = go (nat_lt a.r R.rows) (nat_lt a.c R.columns) refl refl
  where
    rows : List (List ℕ)
    rows = map (row R A) (upto R.rows)

    go : (s t : Bool) → nat_lt a.r R.rows ≡ s → nat_lt a.c R.columns ≡ t → is_blank (byte_at (map (row R A) (upto R.rows)) a) ≡ true
    go true true e f = ap is_blank (printed-letter R A a (ltb-true _ _ e) (ltb-true _ _ f) ∙ ap (λ (o : Option Cell). Some (letter a o)) none)
    go true false e f =
        ap is_blank
        (ap (λ (l : List ℕ). slice_get l a.c) (row-at R A a.r (ltb-true _ _ e))
        ∙ slice_get_past (row R A a.r) a.c (omega (arith, ltb-false _ _ f, length-row R A a.r)))
    go false t e f =
        ap is_blank
        (ap (λ (l : List ℕ). slice_get l a.c) (get_or_past rows a.r [] (omega (arith, ltb-false _ _ e, length-map-range_with_len (row R A) 0 R.rows)))
        ∙ slice_get_past [] a.c (omega arith))

-- a neighbour that isn't on the right, on the left or below is above
only_above : (l r u d : Bool) → (l || (r || (u || (d || false)))) ≡ true → r ≡ false → l ≡ false → d ≡ false → u ≡ true
only_above true r u d e p q s = cc q
only_above false true u d e p q s = cc p
only_above false false true d e p q s = refl
only_above false false false true e p q s = cc s
only_above false false false false e p q s = cc e

only_third : (l r u : Bool) → (l || (r || (u || false))) ≡ true → r ≡ false → l ≡ false → u ≡ true
only_third true r u e p q = cc q
only_third false true u e p q = cc p
only_third false false true e p q = refl
only_third false false false e p q = cc e

stands-above : (k : Kind) (a b : Cell) → are_neighbours k a b ≡ true → is_cell b (right a) ≡ false → is_cell b (left a) ≡ false → is_cell b (below a) ≡ false
    → is_cell b (above a) ≡ true
stands-above Square a b e p q s = only_above (is_cell b (left a)) (is_cell b (right a)) (is_cell b (above a)) (is_cell b (below a)) e p q s
stands-above Triangle a b e p q s = go (is_dark a) e
  where
    go : (t : Bool) → (is_cell b (left a) || (is_cell b (right a) || (is_cell b (cond t (below a) (above a)) || false))) ≡ true → is_cell b (above a) ≡ true
    go true e = let u : is_cell b (below a) ≡ true = only_third (is_cell b (left a)) (is_cell b (right a)) (is_cell b (below a)) e p q in cc (sym s, u)
    go false e = only_third (is_cell b (left a)) (is_cell b (right a)) (is_cell b (above a)) e p q

-- a letter names the neighbour that it was made for
letter-back : (k : Kind) (a b : Cell) → are_neighbours k a b ≡ true → named (letter a (Some b)) a ≡ Some b
letter-back k a b h = go (is_cell b (right a)) (is_cell b (left a)) (is_cell b (below a)) refl refl refl
  where
    go : (s t u : Bool) → is_cell b (right a) ≡ s → is_cell b (left a) ≡ t → is_cell b (below a) ≡ u → named (cond s 62 (cond t 60 (cond u 118 94))) a ≡ Some b
    go true t u e f g = is_cell-some b (right a) e
    go false true u e f g = is_cell-some b (left a) f
    go false false true e f g = is_cell-some b (below a) g
    go false false false e f g = is_cell-some b (above a) (stands-above k a b h e f g)

-- ---- what it draws

first_cell : (cells : List Cell) → cells ≢ [] → (a : Cell) × In a cells
first_cell [] h = absurd (h refl)
first_cell (a ∷ cells) h = (a, inl refl)

rows-draw : (R : Region) (A : List Tile) → IsGrid R → is_tiling R A ≡ true → Draws R (map (row R A) (upto R.rows)) A
rows-draw R A is_grid t =
    let tiling : TilingParts R A = tiling-parts R A t in
    record {
      tiling = t;
      letters = λ a h. letters tiling a h;
      blanks = λ a h. printed-blank R A a (partner-outside R A tiling a h);
    }
  where
    letters : TilingParts R A → (a : Cell) → has R a ≡ true → named_at (map (row R A) (upto R.rows)) a ≡ partner A a
    letters tiling a h =
        let w : (a.r < R.rows) × (a.c < R.columns) = has-within R a is_grid.placed h in
        let (b, to, in_R, near, back) = tiling-matched R A tiling a h in
        ap (λ (o : Option ℕ). option_and_then (λ n. named n a) o) (printed-letter R A a w.0 w.1 ∙ ap (λ (o : Option Cell). Some (letter a o)) to)
        ∙ letter-back R.kind a b near
        ∙ sym to

pub printed-draws : (R : Region) (A : List Tile) (rest : List ℕ) → IsGrid R → is_tiling R A ≡ true → BeginsNoLine rest
    → Draws R (further_section (drawing R A ++ rest)).lines A
printed-draws R A rest is_grid t b =
    let (a, i) = first_cell R.cells is_grid.nonempty in
    let w : (a.r < R.rows) × (a.c < R.columns) = has-within R a is_grid.placed (In-has a R.cells i) in
    let lines : (further_section (drawing R A ++ rest)).lines ≡ map (row R A) (upto R.rows) =
    further-rows R A rest R.rows (omega (arith, w.1)) (omega (arith, w.0)) b in
    subst (λ (ls : List (List ℕ)). Draws R ls A) (sym lines) (rows-draw R A is_grid t)

-- ---- what reading a printed drawing gives

printed-bytes : (R : Region) (bytes rest : List ℕ) (A : List Tile) → IsGrid R → is_tiling R A ≡ true → BeginsNoLine rest → bytes ≡ drawing R A ++ rest
    → Draws R (further_section bytes).lines A
printed-bytes R bytes rest A is_grid t b e = subst (λ (s : List ℕ). Draws R (further_section s).lines A) (sym e) (printed-draws R A rest is_grid t b)

-- it draws the same tiling
pub printed-same : (R : Region) (bytes rest : List ℕ) (A B : List Tile) → IsGrid R → Draws R (further_section bytes).lines B → is_tiling R A ≡ true → BeginsNoLine rest
    → bytes ≡ drawing R A ++ rest → B ≡ A
printed-same R bytes rest A B is_grid d t b e = draws-same R (further_section bytes).lines B A d (printed-bytes R bytes rest A is_grid t b e)

-- no refusal of it is told
pub printed-none : (R : Region) (bytes rest : List ℕ) (A : List Tile) (told : Option DrawingRefusal) → IsGrid R
    → IfSome told (λ f. drawing_refusal R (further_section bytes).lines ≡ Some f) → is_tiling R A ≡ true → BeginsNoLine rest
    → bytes ≡ drawing R A ++ rest → told ≡ None
printed-none R bytes rest A None is_grid h t b e = refl
printed-none R bytes rest A (Some f) is_grid h t b e =
    cc (sym h, draws-not_refused R (further_section bytes).lines A (printed-bytes R bytes rest A is_grid t b e))
