-- Reading the lines of a drawing, row by row.
use Rattle.std.proofs.Common.{◌≡◌, ℕ, zero, suc, ◌+◌, ◌*◌, ◌<◌, ◌≤◌, ◌⊎◌, inl, inr, Bool, true, false, not, List, [], ◌∷◌, length, drop, replicate, refl, sym, ◌∙◌, ap, subst, arith, cond, Option, Some, None}
use Rattle.std.specs.Prelude.{find, slice_get, slice_index, slice_index_or, max, nat_le}
use Rattle.std.proofs.lemmas.Bool.{cases_lt, cases_Bool, le-leb, leb-true}
use Rattle.std.proofs.lemmas.List.{get_or_past, get_or-replicate, length-replicate}
use Rattle.std.proofs.lemmas.Nat.{mul-add-lt}
use Rattle.std.proofs.lemmas.Option.{slice_get_past, slice_get-get_or}
use Rattle.std.proofs.Math.Nat.{mul_comm}
use Rattle.tl_definitions.specs.declared.Cell.{Cell}
use Rattle.tl_definitions.specs.Lattice.{cell, cell_lt}
use Rattle.tl_definitions.specs.Region.{Region, has, places}
use Rattle.tl_formats.specs.Input.{Section}
use Rattle.tl_definitions.specs.Accepted.{IsPlaced}
use Rattle.tl_formats.specs.RegionText.{byte_at, is_blank, longest}
use Rattle.tl_formats.specs.Drawing.{is_letter, is_allowed, first_bad_letter}
use Rattle.tl_definitions.proofs.Regions.{has-within, grid-complete}
use Rattle.tl_definitions.proofs.Cells.{In-any, In-has, cell-same, cell_lt-cases, cell_lt-irreflexive, cell_lt-transitive}
use Rattle.tl_definitions.proofs.Partners.{cells-linked, rows-linked}
use Rattle.tl_lists.proofs.Tests.{nat_cases, same_test}
use Rattle.tl_lists.specs.Lists.{linked}
use Rattle.tl_lists.proofs.Members.{In}
use Rattle.tl_lists.proofs.Searches.{find-In, find-none, find-first, none-find}
use Rattle.tl_formats.proofs.RegionTexts.{length-longest}
use Rattle.tl_tiling.specs.Letters.{letter_at, is_allowed_in, IsFirstBadIn, ReadsLine, AreReadBefore, AreReadLetters}

-- ---- the first bad letter of all rows

-- a cell that fails where none before it does is the first of a list in raster order
pub first_failing : (p : Cell → Bool) (cells : List Cell) (a : Cell) → linked cell_lt cells ≡ true → In a cells → p a ≡ false → ((b : Cell) → In b cells → cell_lt b a ≡ true → p b ≡ true)
    → find (λ b. not (p b)) cells ≡ Some a
first_failing p cells a order inside fails before = go (find (λ b. not (p b)) cells) refl
  where
    go : (o : Option Cell) → find (λ b. not (p b)) cells ≡ o → o ≡ Some a
    go None e = absurd (find-none (λ b. not (p b)) cells e a inside (ap not fails))
    go (Some x) e =
        let at : In x cells × (not (p x) ≡ true) = find-In (λ b. not (p b)) cells x e in
        elim (find-first cell_lt cell_lt-irreflexive cell_lt-transitive (λ b. not (p b)) cells x a order e inside (ap not fails)) [
          | inl same ↦ ap (λ (c : Cell). Some c) (sym same)
          | inr lt ↦ cc (sym (ap not (before x at.0 lt)), at.1)
        ]

pub none_failing : (p : Cell → Bool) (cells : List Cell) → ((b : Cell) → In b cells → p b ≡ true) → find (λ b. not (p b)) cells ≡ None
none_failing p cells all = none-find (λ b. not (p b)) cells (λ b i bad. cc (sym bad, ap not (all b i)))

length-line : (lines : List (List ℕ)) (r : ℕ) → length (slice_index_or lines r []) ≤ longest lines
length-line lines r =
    elim (cases_lt r (length lines)) [
      | inl h ↦ length-longest lines r (slice_index_or lines r []) (slice_get-get_or lines r [] h)
      | inr h ↦ omega (arith, ap length (get_or_past lines r [] h))
    ]

-- a byte that isn't allowed is within the region's rows and columns or those of the lines
bad-within : (R : Region) (lines : List (List ℕ)) (a : Cell) → IsPlaced R → is_allowed R lines a ≡ false
    → (a.r < max R.rows (length lines)) × (a.c < max R.columns (longest lines))
bad-within R lines a placed bad =
    elim (cases_Bool (has R a)) [
      | inl e ↦ let w : (a.r < R.rows) × (a.c < R.columns) = has-within R a placed e in (omega (arith, w.0), omega (arith, w.1))
      | inr e ↦ elim (cases_lt a.c (length (slice_index_or lines a.r []))) [
        | inl h ↦ (row h, omega (arith, h, length-line lines a.r))
        | inr h ↦ let fine : is_allowed R lines a ≡ true = rw (e, slice_get_past (slice_index_or lines a.r []) a.c h) refl in cc (bad, fine)
      ]
    ]
  where
    row : a.c < length (slice_index_or lines a.r []) → a.r < max R.rows (length lines)
    row h =
        elim (cases_lt a.r (length lines)) [
          | inl l ↦ omega (arith, l)
          | inr l ↦ absurd (omega (arith, h, ap length (get_or_past lines a.r [] l)))
        ]

first_bad-at : (R : Region) (lines : List (List ℕ)) (a : Cell) → IsPlaced R → is_allowed R lines a ≡ false → ((b : Cell) → cell_lt b a ≡ true → is_allowed R lines b ≡ true)
    → first_bad_letter R lines ≡ Some a
first_bad-at R lines a placed bad before =
    let w : (a.r < max R.rows (length lines)) × (a.c < max R.columns (longest lines)) = bad-within R lines a placed bad in
    first_failing (is_allowed R lines) (places (max R.rows (length lines)) (max R.columns (longest lines))) a (rows-linked (max R.columns (longest lines)) 0 (max R.rows (length lines)))
    (In-any a _ (grid-complete a (max R.columns (longest lines)) 0 (max R.rows (length lines)) (omega arith) (omega (arith, w.0)) w.1)) bad (λ b i l. before b l)

-- ---- one line more

drop-head : (xs : List (List ℕ)) (n : ℕ) (x : List ℕ) (ys : List (List ℕ)) → drop n xs ≡ x ∷ ys → (slice_index_or xs n [] ≡ x) × (drop (suc n) xs ≡ ys)
drop-head [] zero x ys e = cc e
drop-head [] (suc n) x ys e = cc e
drop-head (z ∷ zs) zero x ys e = (cc e, cc e)
drop-head (z ∷ zs) (suc n) x ys e = drop-head zs n x ys e

-- What was read of a section's lines, and what is left.
pub record AreReadUpTo (R : Region) (all left : Section) (n : ℕ) (letters : List ℕ) : Type 0 where
  pub rest : left.rest ≡ all.rest
  pub lines : drop n all.lines ≡ left.lines
  pub count : n + length left.lines ≡ length all.lines
  pub read : AreReadBefore R all.lines n letters

pub up_to-start : (R : Region) (all : Section) (letters : List ℕ) → AreReadBefore R all.lines 0 letters → AreReadUpTo R all all 0 letters
up_to-start R all letters s = record { rest = refl; lines = refl; count = omega arith; read = s }

-- the line that comes next is that of the row
line_here : (R : Region) (all left next : Section) (n : ℕ) (letters line : List ℕ) → AreReadUpTo R all left n letters
    → left ≡ record { lines = line ∷ next.lines; rest = next.rest }
    → (slice_index_or all.lines n [] ≡ line) × (drop (suc n) all.lines ≡ next.lines)
line_here R all left next n letters line s e = drop-head all.lines n line next.lines (s.lines ∙ ap (λ (l : Section). l.lines) e)

allowed_here : (R : Region) (lines : List (List ℕ)) (line : List ℕ) (a : Cell) (n : ℕ) → a.r ≡ n → slice_index_or lines n [] ≡ line
    → is_allowed R lines a ≡ is_allowed_in R line (cell n a.c)
allowed_here R lines line a n row here = ap (is_allowed R lines) (cell-same a (cell n a.c) row refl) ∙ ap (λ (l : List ℕ). is_allowed_in R l (cell n a.c)) here

pub up_to-line : (R : Region) (all left next : Section) (n : ℕ) (letters more line : List ℕ) → IsPlaced R → AreReadUpTo R all left n letters
    → left ≡ record { lines = line ∷ next.lines; rest = next.rest }
    → ((c : ℕ) → is_allowed_in R line (cell n c) ≡ true)
    → length more ≡ length letters → ReadsLine R n line letters more → AreReadUpTo R all next (n + 1) more
up_to-line R all left next n letters more line placed s e fine size t = record {
  rest = sym (ap (λ (l : Section). l.rest) e) ∙ s.rest;
  lines = ap (λ (k : ℕ). drop k all.lines) one_more ∙ here.1;
  count = omega (arith, ap (λ (l : Section). length l.lines) e, s.count);
  read = record {
    size = size ∙ s.read.size;
    read = λ a h i. read a h i (nat_cases a.r n);
    dotted = λ a h k o. t.kept a h k (inr o) ∙ s.read.dotted a h k o;
    allowed = λ a h. allowed a h (nat_cases a.r n);
  };
}
  where
    one_more : n + 1 ≡ suc n
    one_more = omega arith

    here : (slice_index_or all.lines n [] ≡ line) × (drop (suc n) all.lines ≡ next.lines)
    here = line_here R all left next n letters line s e

    read : (a : Cell) → a.r < n + 1 → has R a ≡ true → (a.r ≡ n) ⊎ (¬ (a.r ≡ n)) → byte_at all.lines a ≡ Some (letter_at R more a)
    read a h i (inl same) = ap (λ (k : ℕ). slice_get (slice_index_or all.lines k []) a.c) same ∙ ap (λ (l : List ℕ). slice_get l a.c) here.0 ∙ t.read a same i
    read a h i (inr other) =
        let w : (a.r < R.rows) × (a.c < R.columns) = has-within R a placed i in
        s.read.read a (omega (arith, h, other)) i ∙ ap (λ (k : ℕ). Some k) (sym (t.kept a w.0 w.1 (inl other)))

    allowed : (a : Cell) → a.r < n + 1 → (a.r ≡ n) ⊎ (¬ (a.r ≡ n)) → is_allowed R all.lines a ≡ true
    allowed a h (inl same) = allowed_here R all.lines line a n same here.0 ∙ fine a.c
    allowed a h (inr other) = s.read.allowed a (omega (arith, h, other))

pub up_to-bad : (R : Region) (all left next : Section) (n : ℕ) (letters line : List ℕ) (a : Cell) → IsPlaced R → AreReadUpTo R all left n letters
    → left ≡ record { lines = line ∷ next.lines; rest = next.rest }
    → IsFirstBadIn R n line a → first_bad_letter R all.lines ≡ Some a
up_to-bad R all left next n letters line a placed s e f =
    first_bad-at R all.lines a placed (allowed_here R all.lines line a n f.row here.0 ∙ ap (is_allowed_in R line) (sym (cell-same a (cell n a.c) f.row refl)) ∙ f.bad) (λ b l. before b (cell_lt-cases b a l))
  where
    here : (slice_index_or all.lines n [] ≡ line) × (drop (suc n) all.lines ≡ next.lines)
    here = line_here R all left next n letters line s e

    before : (b : Cell) → (b.r < a.r) ⊎ ((b.r ≡ a.r) × (b.c < a.c)) → is_allowed R all.lines b ≡ true
    before b (inl h) = s.read.allowed b (omega (arith, h, f.row))
    before b (inr h) = allowed_here R all.lines line b n (h.0 ∙ f.row) here.0 ∙ f.before b.c h.1

-- ---- rows without a line

allowed-missing : (R : Region) (lines : List (List ℕ)) (a : Cell) → length lines ≤ a.r → is_allowed R lines a ≡ not (has R a)
allowed-missing R lines a h = ap (λ (l : List ℕ). is_allowed_in R l a) (get_or_past lines a.r [] h) ∙ go (has R a)
  where
    go : (b : Bool) → cond b (is_letter (slice_get [] a.c)) (is_blank (slice_get [] a.c)) ≡ not b
    go true = refl
    go false = refl

-- where no cell is in such a row, the letters are those of the lines
pub read_letters-from : (R : Region) (lines : List (List ℕ)) (letters : List ℕ) → AreReadBefore R lines (length lines) letters → None ≡ find (λ a. nat_le (length lines) a.r) R.cells
    → AreReadLetters R lines letters
read_letters-from R lines letters s none = record {
  lettered = record { size = s.size; inside = λ a h. inside a h; dotted = s.dotted };
  read = λ a h. s.read a (above a h) h;
  allowed = none_failing (is_allowed R lines) (places (max R.rows (length lines)) (max R.columns (longest lines))) (λ a i. allowed a (cases_lt a.r (length lines)));
}
  where
    above : (a : Cell) → has R a ≡ true → a.r < length lines
    above a h =
        elim (cases_lt a.r (length lines)) [
          | inl l ↦ l
          | inr l ↦ absurd (find-none (λ a. nat_le (length lines) a.r) R.cells (sym none) a (In-any a R.cells h) (le-leb (length lines) a.r l))
        ]

    inside : (a : Cell) → has R a ≡ true → is_letter (Some (letter_at R letters a)) ≡ true
    inside a h =
        let allowed : is_letter (byte_at lines a) ≡ true = rw h at (s.allowed a (above a h)) in
        ap is_letter (sym (s.read a (above a h) h)) ∙ allowed

    allowed : (a : Cell) → (a.r < length lines) ⊎ (length lines ≤ a.r) → is_allowed R lines a ≡ true
    allowed a (inl l) = s.allowed a l
    allowed a (inr l) =
        allowed-missing R lines a l ∙ ap not (same_test (has R a) false (λ h. absurd (omega (arith, above a h, l))) (λ t. cc t))

-- no cell is below the region's rows
pub none_below : (R : Region) (from : ℕ) → IsPlaced R → R.rows ≤ from → find (λ a. nat_le from a.r) R.cells ≡ None
none_below R from placed h = none-find (λ a. nat_le from a.r) R.cells (λ a i below. omega (arith, h, leb-true from a.r below, (has-within R a placed (In-has a R.cells i)).0))

-- and else the first such cell is the first bad letter
pub bad_letter-from : (R : Region) (lines : List (List ℕ)) (letters : List ℕ) (a : Cell) → IsPlaced R → AreReadBefore R lines (length lines) letters
    → Some a ≡ find (λ a. nat_le (length lines) a.r) R.cells → first_bad_letter R lines ≡ Some a
bad_letter-from R lines letters a placed s found =
    let at : In a R.cells × (nat_le (length lines) a.r ≡ true) = find-In (λ a. nat_le (length lines) a.r) R.cells a (sym found) in
    first_bad-at R lines a placed (allowed-missing R lines a (leb-true (length lines) a.r at.1) ∙ ap not (In-has a R.cells at.0)) (λ b l. before b l (cases_lt b.r (length lines)))
  where
    before : (b : Cell) → cell_lt b a ≡ true → (b.r < length lines) ⊎ (length lines ≤ b.r) → is_allowed R lines b ≡ true
    before b l (inl h) = s.allowed b h
    before b l (inr k) = allowed-missing R lines b k ∙ ap not (same_test (has R b) false later (λ t. cc t))
      where
        later : has R b ≡ true → false ≡ true
        later h =
            elim (find-first cell_lt cell_lt-irreflexive cell_lt-transitive (λ a. nat_le (length lines) a.r) R.cells a b (cells-linked R placed) (sym found) (In-any b R.cells h)
            (le-leb (length lines) b.r k)) [
              | inl same ↦ absurd (cell_lt-irreflexive a (subst (λ (c : Cell). cell_lt c a ≡ true) same l))
              | inr after ↦ absurd (cell_lt-irreflexive a (cell_lt-transitive a b a after l))
            ]

-- dots alone
pub all_dots : (R : Region) (lines : List (List ℕ)) (letters : List ℕ) → letters ≡ replicate (R.rows * R.columns) 46 → AreReadBefore R lines 0 letters
all_dots R lines letters e = record {
  size = ap length e ∙ length-replicate (R.rows * R.columns) 46;
  read = λ a h i. absurd (omega (arith, h));
  dotted = λ a h k o.
      ap (λ (l : List ℕ). slice_index l (a.r * R.columns + a.c)) e
      ∙ get_or-replicate (R.rows * R.columns) (a.r * R.columns + a.c) 46 0
      (let below : a.r * R.columns + a.c < R.columns * R.rows = mul-add-lt a.r R.columns a.c R.rows h k in omega (arith, below, mul_comm R.columns R.rows));
  allowed = λ a h. absurd (omega (arith, h));
}
