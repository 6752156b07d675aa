-- What a drawing that isn't refused draws.
use Rattle.std.proofs.Common.{◌≡◌, ℕ, zero, suc, ◌+◌, ◌<◌, ◌≤◌, ◌⊎◌, inl, inr, Bool, true, false, ◌&&◌, not, List, [], ◌∷◌, length, refl, sym, ◌∙◌, ap, arith, cond, Option, Some, None}
use Rattle.std.specs.Prelude.{flat_map, find, slice_get, slice_index_or, nat_lt, max}
use Rattle.std.specs.List.{list_any, list_all, range_with_len}
use Rattle.std.specs.Option.{option_or}
use Rattle.std.proofs.lemmas.Bool.{and_parts, and_from, lt-ltb, ne_eqb}
use Rattle.std.proofs.lemmas.List.{get_or_past}
use Rattle.std.proofs.lemmas.List.Folds.{find-append}
use Rattle.std.proofs.lemmas.Option.{slice_get_past, slice_get_cases, get_or_from_slice_get}
use Rattle.tl_definitions.specs.declared.Cell.{Cell}
use Rattle.tl_definitions.specs.Lattice.{cell, cell_eq, is_cell, are_neighbours, left, right, above, below}
use Rattle.tl_definitions.specs.Region.{Region, has, places, row_part}
use Rattle.tl_definitions.specs.Accepted.{IsPlaced}
use Rattle.tl_formats.specs.RegionText.{byte_at, is_blank, longest}
use Rattle.tl_definitions.specs.Tiling.{tiles_by, later_tile}
use Rattle.tl_formats.specs.Drawing.{named, named_at, Draws, is_allowed, first_bad_letter, is_answered, is_matched, first_unmatched, DrawingRefusal, drawing_refusal, bad_letter, unmatched, letter}
use Rattle.tl_definitions.proofs.Regions.{any-places}
use Rattle.tl_definitions.proofs.Cells.{cell_eq-parts, is_cell-some, In-any, cell_eq-refl, In-has}
use Rattle.tl_lists.proofs.Tests.{nat_cases, same_test}
use Rattle.tl_definitions.proofs.Neighbours.{left-parts, above-parts, below-parts}
use Rattle.tl_lists.proofs.Members.{In-list_all}
use Rattle.tl_definitions.proofs.Raster.{filter-row_cut}
use Rattle.tl_lists.proofs.Searches.{find-filter, find-same, filter_map-same}
use Rattle.tl_formats.proofs.RegionTexts.{length-longest}
use Rattle.tl_definitions.proofs.Partners.{IsMatched, AreMatched, tiles_by-tiling, partner-tiles_by}

-- ---- matched cells

pub matched-parts : (R : Region) (f : Cell → Option Cell) (a : Cell) → is_matched R f a ≡ true → IsMatched R f a
matched-parts R f a e = go (f a) refl e
  where
    go : (o : Option Cell) → f a ≡ o → is_answered R f a o ≡ true → IsMatched R f a
    go None h k = cc k
    go (Some b) h k =
        let p : ((has R b && are_neighbours R.kind a b) ≡ true) × (is_cell a (f b) ≡ true) = and_parts _ _ k in
        let q : (has R b ≡ true) × (are_neighbours R.kind a b ≡ true) = and_parts _ _ p.0 in
        (b, h, q.0, q.1, is_cell-some a (f b) p.1)

pub all-matched : (R : Region) (f : Cell → Option Cell) → list_all (is_matched R f) R.cells ≡ true → AreMatched R f
all-matched R f e a h = matched-parts R f a (In-list_all (is_matched R f) R.cells a e (In-any a R.cells h))

-- a search that finds nothing
pub find-none : {A : Type 0} (p : A → Bool) (xs : List A) → find (λ x. not (p x)) xs ≡ None → list_all p xs ≡ true
find-none p [] e = refl
find-none p (x ∷ xs) e = go (p x) e (find-none p xs)
  where
    go : (b : Bool) → cond (not b) (Some x) (find (λ x. not (p x)) xs) ≡ None → (find (λ x. not (p x)) xs ≡ None → list_all p xs ≡ true) → (b && list_all p xs) ≡ true
    go true h ih = ih h
    go false h ih = cc h

-- ---- a drawing that isn't refused

refusal_of : Option Cell → Option Cell → Option DrawingRefusal
refusal_of b u = elim b [ Some a ↦ Some (bad_letter a) | None ↦ elim u [ Some a ↦ Some (unmatched a) | None ↦ None ] ]

refusal_none : (b u : Option Cell) → refusal_of b u ≡ None → (b ≡ None) × (u ≡ None)
unfolding refusal_of
refusal_none None None e = (refl, refl)
refusal_none None (Some a) e = cc e
refusal_none (Some a) u e = cc e

pub not_refused : (R : Region) (rows : List (List ℕ)) → drawing_refusal R rows ≡ None → (first_bad_letter R rows ≡ None) × (first_unmatched R rows ≡ None)
unfolding refusal_of
not_refused R rows e = refusal_none (first_bad_letter R rows) (first_unmatched R rows) e

-- the refusals, from the two searches
pub refused-bad_letter : (R : Region) (rows : List (List ℕ)) (a : Cell) → first_bad_letter R rows ≡ Some a → drawing_refusal R rows ≡ Some (bad_letter a)
refused-bad_letter R rows a e = rw (e, drawing_refusal) refl

pub refused-unmatched : (R : Region) (rows : List (List ℕ)) (a : Cell) → first_bad_letter R rows ≡ None → first_unmatched R rows ≡ Some a → drawing_refusal R rows ≡ Some (unmatched a)
refused-unmatched R rows a e f = rw (e, f, drawing_refusal) refl

pub refused-none : (R : Region) (rows : List (List ℕ)) → first_bad_letter R rows ≡ None → first_unmatched R rows ≡ None → drawing_refusal R rows ≡ None
refused-none R rows e f = rw (e, f, drawing_refusal) refl

-- every place is allowed where none is found that isn't
max-right : (m n : ℕ) → n ≤ max m n
max-right m n = omega arith

not_less : (m n : ℕ) → ¬ (m < n) → n ≤ m
not_less m n h = omega (arith, h)

byte_at-past : (rows : List (List ℕ)) (a : Cell) → ¬ ((a.r < length rows) × (a.c < longest rows)) → byte_at rows a ≡ None
byte_at-past rows a out = go (slice_get_cases rows a.r).1
  where
    go : ((l : List ℕ) × (a.r < length rows) × (slice_get rows a.r ≡ Some l) × (slice_index_or rows a.r l ≡ l)) ⊎ ((length rows ≤ a.r) × (slice_get rows a.r ≡ None)) → byte_at rows a ≡ None
    go (inl (l, h, e, s)) =
        let row : slice_index_or rows a.r [] ≡ l = get_or_from_slice_get rows a.r l [] e in
        let short : length l ≤ longest rows = length-longest rows a.r l e in
        let past : longest rows ≤ a.c = not_less a.c (longest rows) (λ k. out (h, k)) in
        ap (λ (row : List ℕ). slice_get row a.c) row ∙ slice_get_past l a.c (omega (arith, short, past))
    go (inr (h, e)) = ap (λ (row : List ℕ). slice_get row a.c) (get_or_past rows a.r [] h) ∙ slice_get_past [] a.c (omega arith)

blank-past : (R : Region) (rows : List (List ℕ)) (a : Cell) → first_bad_letter R rows ≡ None → has R a ≡ false → is_blank (byte_at rows a) ≡ true
blank-past R rows a e h = go (nat_lt a.r (max R.rows (length rows)) && nat_lt a.c (max R.columns (longest rows))) refl
  where
    go : (b : Bool) → (nat_lt a.r (max R.rows (length rows)) && nat_lt a.c (max R.columns (longest rows))) ≡ b → is_blank (byte_at rows a) ≡ true
    go true i =
        let inside : list_any (cell_eq a) (places (max R.rows (length rows)) (max R.columns (longest rows))) ≡ true = any-places a _ _ ∙ i in
        let allowed : is_allowed R rows a ≡ true = In-list_all (is_allowed R rows) _ a (find-none (is_allowed R rows) _ e) (In-any a _ inside) in
        sym (rw h refl) ∙ allowed
    go false i = ap is_blank (byte_at-past rows a (λ p. outside p.0 p.1 i))
      where
        outside : a.r < length rows → a.c < longest rows → (nat_lt a.r (max R.rows (length rows)) && nat_lt a.c (max R.columns (longest rows))) ≡ false → ⊥
        outside p q i =
            let r : nat_lt a.r (max R.rows (length rows)) ≡ true = lt-ltb _ _ (omega (arith, p, max-right R.rows (length rows))) in
            let c : nat_lt a.c (max R.columns (longest rows)) ≡ true = lt-ltb _ _ (omega (arith, q, max-right R.columns (longest rows))) in
            cc (sym (and_from _ _ r c), i)

-- the tiling of a drawing that isn't refused
pub drawn : (R : Region) (rows : List (List ℕ)) → IsPlaced R → drawing_refusal R rows ≡ None → Draws R rows (tiles_by (named_at rows) R.cells)
drawn R rows placed e =
    let p : (first_bad_letter R rows ≡ None) × (first_unmatched R rows ≡ None) = not_refused R rows e in
    let matched : AreMatched R (named_at rows) = all-matched R (named_at rows) (find-none (is_matched R (named_at rows)) R.cells p.1) in
    record {
      tiling = tiles_by-tiling R (named_at rows) placed matched;
      letters = λ a h. sym (partner-tiles_by R (named_at rows) placed matched a h);
      blanks = λ a h. blank-past R rows a p.0 h;
    }

-- ---- rows that are looked through one after the other

pub find-rows_none : (p : Cell → Bool) (f : ℕ → List Cell) (s n : ℕ) → ((i : ℕ) → s ≤ i → i < s + n → find p (f i) ≡ None) → find p (flat_map f (range_with_len s n)) ≡ None
find-rows_none p f s zero none = refl
find-rows_none p f s (suc n) none =
    find-append p (f s) (flat_map f (range_with_len (s + 1) n))
    ∙ rw (none s (omega arith) (omega arith), find-rows_none p f (s + 1) n (λ i h k. none i (omega (arith, h)) (omega (arith, k)))) refl

pub find-rows_first : (p : Cell → Bool) (f : ℕ → List Cell) (s n k : ℕ) (a : Cell) → s ≤ k → k < s + n → ((i : ℕ) → s ≤ i → i < k → find p (f i) ≡ None)
    → find p (f k) ≡ Some a → find p (flat_map f (range_with_len s n)) ≡ Some a
find-rows_first p f s zero k a h l none e = absurd (omega (arith, h, l))
find-rows_first p f s (suc n) k a h l none e = find-append p (f s) (flat_map f (range_with_len (s + 1) n)) ∙ go (nat_cases s k) (find-rows_first p f (s + 1) n k a)
  where
    go : (s ≡ k) ⊎ (¬ (s ≡ k))
        → (s + 1 ≤ k → k < s + 1 + n → ((i : ℕ) → s + 1 ≤ i → i < k → find p (f i) ≡ None) → find p (f k) ≡ Some a → find p (flat_map f (range_with_len (s + 1) n)) ≡ Some a)
        → option_or (find p (f s)) (find p (flat_map f (range_with_len (s + 1) n))) ≡ Some a
    go (inl same) ih = rw (ap (λ (i : ℕ). find p (f i)) same ∙ e) refl
    go (inr other) ih =
        rw (none s (omega arith) (omega (arith, h, other)))
        (ih (omega (arith, h, other)) (omega (arith, l)) (λ i j m. none i (omega (arith, j)) m) e)

pub find-row_cut : (p : Cell → Bool) (r c n m : ℕ) → n ≤ m → ((k : ℕ) → c + n ≤ k → p (cell r k) ≡ false) → find p (row_part r c m) ≡ find p (row_part r c n)
find-row_cut p r c n m h none =
    find-filter p (row_part r c m) ∙ ap (λ (l : List Cell). slice_get l 0) (filter-row_cut p r c n m h none) ∙ sym (find-filter p (row_part r c n))

-- ---- partners that agree on the region

-- a choice of partners agrees with another on the cells of the region
abbrev pub AgreeOn : Region → (Cell → Option Cell) → (Cell → Option Cell) → Type 0
AgreeOn R f g = (a : Cell) → has R a ≡ true → f a ≡ g a

pub is_matched-same : (R : Region) (f g : Cell → Option Cell) (a : Cell) → AgreeOn R f g → has R a ≡ true → is_matched R f a ≡ is_matched R g a
is_matched-same R f g a same h = ap (is_answered R f a) (same a h) ∙ go (g a)
  where
    step : (b : Cell) (t u : Bool) → has R b ≡ t → are_neighbours R.kind a b ≡ u → (t && u && is_cell a (f b)) ≡ (t && u && is_cell a (g b))
    step b true true e n = ap (is_cell a) (same b e)
    step b true false e n = refl
    step b false u e n = refl

    go : (o : Option Cell) → is_answered R f a o ≡ is_answered R g a o
    go None = refl
    go (Some b) = step b (has R b) (are_neighbours R.kind a b) refl refl

pub first_unmatched-same : (R : Region) (f g : Cell → Option Cell) → AgreeOn R f g → find (λ a. not (is_matched R f a)) R.cells ≡ find (λ a. not (is_matched R g a)) R.cells
first_unmatched-same R f g same = find-same _ _ R.cells (λ a i. ap not (is_matched-same R f g a same (In-has a R.cells i)))

pub tiles_by-same : (R : Region) (f g : Cell → Option Cell) → AgreeOn R f g → tiles_by f R.cells ≡ tiles_by g R.cells
tiles_by-same R f g same = filter_map-same (λ a. later_tile a (f a)) (λ a. later_tile a (g a)) R.cells (λ a i. ap (later_tile a) (same a (In-has a R.cells i)))

-- ---- letters and partners

other_cell : (a b : Cell) → ((a.r ≡ b.r) × (a.c ≡ b.c) → ⊥) → cell_eq a b ≡ false
other_cell a b other = same_test (cell_eq a b) false (λ t. absurd (other (cell_eq-parts a b t))) (λ t. cc t)

other_place : (a : Cell) (o : Option Cell) → (is_cell a o ≡ true → ⊥) → is_cell a o ≡ false
other_place a o other = same_test (is_cell a o) false (λ t. absurd (other t)) (λ t. cc t)

is_this : (a : Cell) (o : Option Cell) → o ≡ Some a → is_cell a o ≡ true
is_this a o e = ap (is_cell a) e ∙ cell_eq-refl a

letter-right : (a p : Cell) → right a ≡ Some p → letter a (Some p) ≡ 62
letter-right a p e = rw (is_this p (right a) e) refl

letter-left : (a p : Cell) → left a ≡ Some p → letter a (Some p) ≡ 60
letter-left a p e =
    let at : is_cell p (left a) ≡ true = is_this p (left a) e in
    let w : (a.r ≡ p.r) × (a.c ≡ p.c + 1) = left-parts a p at in
    rw (other_cell p (cell a.r (a.c + 1)) (λ q. omega (arith, q.1, w.1)), at) refl

letter-below : (a p : Cell) → below a ≡ Some p → letter a (Some p) ≡ 118
letter-below a p e =
    let at : is_cell p (below a) ≡ true = is_this p (below a) e in
    let w : (a.c ≡ p.c) × (a.r + 1 ≡ p.r) = below-parts a p at in
    let no_left : is_cell p (left a) ≡ false = other_place p (left a) (λ t. omega (arith, w.1, (left-parts a p t).0)) in
    rw (other_cell p (cell a.r (a.c + 1)) (λ q. omega (arith, q.0, w.1)), no_left, at) refl

letter-above : (a p : Cell) → above a ≡ Some p → letter a (Some p) ≡ 94
letter-above a p e =
    let at : is_cell p (above a) ≡ true = is_this p (above a) e in
    let w : (a.c ≡ p.c) × (a.r ≡ p.r + 1) = above-parts a p at in
    let no_left : is_cell p (left a) ≡ false = other_place p (left a) (λ t. omega (arith, w.1, (left-parts a p t).0)) in
    rw (other_cell p (cell a.r (a.c + 1)) (λ q. omega (arith, q.0, w.1)), no_left, other_cell p (cell (a.r + 1) a.c) (λ q. omega (arith, q.0, w.1))) refl

-- a letter is the one by which its cell names its partner
pub letter-named : (b : ℕ) (a p : Cell) → named b a ≡ Some p → letter a (Some p) ≡ b
letter-named b a p e = go (nat_cases b 62) (nat_cases b 60) (nat_cases b 118) (nat_cases b 94)
  where
    go : (b ≡ 62) ⊎ (¬ (b ≡ 62)) → (b ≡ 60) ⊎ (¬ (b ≡ 60)) → (b ≡ 118) ⊎ (¬ (b ≡ 118)) → (b ≡ 94) ⊎ (¬ (b ≡ 94)) → letter a (Some p) ≡ b
    go (inl is) s t u = letter-right a p (sym (ap (λ (c : ℕ). named c a) is) ∙ e) ∙ sym is
    go (inr r) (inl is) t u = letter-left a p (sym (ap (λ (c : ℕ). named c a) is) ∙ e) ∙ sym is
    go (inr r) (inr s) (inl is) u = letter-below a p (sym (ap (λ (c : ℕ). named c a) is) ∙ e) ∙ sym is
    go (inr r) (inr s) (inr t) (inl is) = letter-above a p (sym (ap (λ (c : ℕ). named c a) is) ∙ e) ∙ sym is
    go (inr r) (inr s) (inr t) (inr u) = cc (e, none b r s t u)
      where
        none : (b : ℕ) → ¬ (b ≡ 62) → ¬ (b ≡ 60) → ¬ (b ≡ 118) → ¬ (b ≡ 94) → named b a ≡ None
        none b r s t u = rw (ne_eqb b 62 r, ne_eqb b 60 s, ne_eqb b 118 t, ne_eqb b 94 u) refl
