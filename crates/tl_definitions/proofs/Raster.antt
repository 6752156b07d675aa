-- Raster lists of places, row by row, and which of them pass a test.
use Rattle.std.proofs.Common.{◌≡◌, ℕ, zero, suc, ◌+◌, ◌<◌, ◌≤◌, Bool, true, false, List, [], ◌∷◌, ◌++◌, cond, refl, sym, ◌∙◌, ap, arith, ◌&&◌}
use Rattle.std.specs.Prelude.{filter, flat_map}
use Rattle.std.specs.List.{range_with_len, list_any}
use Rattle.tl_definitions.specs.declared.Cell.{Cell}
use Rattle.tl_definitions.specs.Lattice.{cell, cell_eq}
use Rattle.tl_definitions.specs.Region.{places, row_part}
use Rattle.tl_lists.specs.Lists.{upto}
use Rattle.std.proofs.lemmas.Bool.{lt-ltb}
use Rattle.tl_definitions.proofs.Regions.{any-filter-places}
use Rattle.tl_lists.proofs.Searches.{filter-flat_map}

-- no place passes
pub filter-row_none : (p : Cell → Bool) (r c n : ℕ) → ((k : ℕ) → c ≤ k → p (cell r k) ≡ false) → filter p (row_part r c n) ≡ []
filter-row_none p r c zero none = refl
filter-row_none p r c (suc n) none = rw (none c (omega arith)) (filter-row_none p r (c + 1) n (λ k h. none k (omega arith)))

-- The places of a row that pass are those before a column from which on none passes.
pub filter-row_cut : (p : Cell → Bool) (r c n m : ℕ) → n ≤ m → ((k : ℕ) → c + n ≤ k → p (cell r k) ≡ false)
    → filter p (row_part r c m) ≡ filter p (row_part r c n)
filter-row_cut p r c zero m h none = filter-row_none p r c m (λ k l. none k (omega arith))
filter-row_cut p r c (suc n) zero h none = absurd (omega (arith, h))
filter-row_cut p r c (suc n) (suc m) h none =
    ap (λ l. cond (p (cell r c)) (cell r c ∷ l) l) (filter-row_cut p r (c + 1) n m (omega (arith, h)) (λ k l. none k (omega arith)))

-- the places of a rectangle that pass, row by row
pub filter-places : (p : Cell → Bool) (rows columns : ℕ) → filter p (places rows columns) ≡ flat_map (λ r. filter p (row_part r 0 columns)) (upto rows)
filter-places p rows columns = filter-flat_map p (λ r. row_part r 0 columns) (upto rows)

-- tests that agree on a row, and on a rectangle, pass the same places
pub filter-row_same : (p q : Cell → Bool) (r c n : ℕ) → ((k : ℕ) → c ≤ k → k < c + n → p (cell r k) ≡ q (cell r k)) → filter p (row_part r c n) ≡ filter q (row_part r c n)
filter-row_same p q r c zero same = refl
filter-row_same p q r c (suc n) same =
    ap (λ (b : Bool). cond b (cell r c ∷ filter p (row_part r (c + 1) n)) (filter p (row_part r (c + 1) n))) (same c (omega arith) (omega arith))
    ∙ ap (λ (l : List Cell). cond (q (cell r c)) (cell r c ∷ l) l) (filter-row_same p q r (c + 1) n (λ k h l. same k (omega (arith, h)) (omega (arith, l))))

flat_map-rows_same : (f g : ℕ → List Cell) (r n : ℕ) → ((k : ℕ) → r ≤ k → k < r + n → f k ≡ g k) → flat_map f (range_with_len r n) ≡ flat_map g (range_with_len r n)
flat_map-rows_same f g r zero same = refl
flat_map-rows_same f g r (suc n) same =
    ap (λ (l : List Cell). l ++ flat_map f (range_with_len (r + 1) n)) (same r (omega arith) (omega arith))
    ∙ ap (λ (l : List Cell). g r ++ l) (flat_map-rows_same f g (r + 1) n (λ k h l. same k (omega (arith, h)) (omega (arith, l))))

pub filter-places_same : (p q : Cell → Bool) (rows columns : ℕ) → ((a : Cell) → a.r < rows → a.c < columns → p a ≡ q a) → filter p (places rows columns) ≡ filter q (places rows columns)
filter-places_same p q rows columns same =
    filter-places p rows columns
    ∙ flat_map-rows_same (λ r. filter p (row_part r 0 columns)) (λ r. filter q (row_part r 0 columns)) 0 rows
    (λ r h l. filter-row_same p q r 0 columns (λ c i j. same (cell r c) (omega (arith, l)) (omega (arith, j))))
    ∙ sym (filter-places q rows columns)

pub filter-placed : (p : Cell → Bool) (rows columns : ℕ) → filter p (places rows columns) ≡ filter (λ a. list_any (cell_eq a) (filter p (places rows columns))) (places rows columns)
filter-placed p rows columns = filter-places_same p (λ a. list_any (cell_eq a) (filter p (places rows columns))) rows columns inside
  where
    inside : (a : Cell) → a.r < rows → a.c < columns → p a ≡ list_any (cell_eq a) (filter p (places rows columns))
    inside a h k = sym (any-filter-places p a rows columns ∙ ap (λ b. p a && b) (rw (lt-ltb a.r rows h, lt-ltb a.c columns k) refl) ∙ and_true (p a))
      where
        and_true : (b : Bool) → (b && true) ≡ b
        and_true true = refl
        and_true false = refl
