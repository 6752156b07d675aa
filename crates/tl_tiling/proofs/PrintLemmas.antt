-- Printing letters line by line.
use Rattle.std.proofs.Common.{◌≡◌, ℕ, zero, suc, ◌+◌, ◌-◌, ◌*◌, ◌<◌, ◌≤◌, List, [], ◌∷◌, ◌++◌, map, length, take, drop, refl, sym, ◌∙◌, ap, arith, append-nil, append_assoc}
use Rattle.std.specs.Prelude.{flat_map}
use Rattle.std.specs.List.{range_with_len}
use Rattle.std.proofs.lemmas.List.{take_all, length-drop, length-take-le, length-append}
use Rattle.std.proofs.lemmas.Slice.{take-put_mid}
use Rattle.std.proofs.lemmas.Nat.{mul-add-lt}
use Rattle.std.proofs.Math.Nat.{mul_comm, mul-le-mul_right}
use Rattle.std.proofs.Math.Seq.{drop-cons}
use borrow.Rule.Slice.PartMut.{put_mid}
use Rattle.tl_definitions.specs.Lattice.{cell}
use Rattle.tl_definitions.specs.Region.{Region}
use Rattle.tl_lists.specs.Lists.{upto}
use Rattle.tl_definitions.specs.Tiling.{partner}
use Rattle.tl_formats.specs.Drawing.{letter, drawing}
use Rattle.tl_grid.specs.Grid.{IsGrid}
use Rattle.tl_tiling.specs.Letters.{AreLetters, tiles_in}
use Rattle.tl_tiling.proofs.DrawLemmas.{letter-is}

-- n rows of so many letters, from a row on, each with a line feed
abbrev pub lines_of : ℕ → List ℕ → ℕ → ℕ → List ℕ
lines_of columns letters r zero = []
lines_of columns letters r (suc n) = (take columns (drop (r * columns) letters) ++ 10 ∷ []) ++ lines_of columns letters (r + 1) n

abbrev row_text : ℕ → List ℕ → ℕ → List ℕ
row_text columns letters r = take columns (drop (r * columns) letters) ++ 10 ∷ []

-- one row more at the end
lines_of-more : (columns : ℕ) (letters : List ℕ) (r n : ℕ) → lines_of columns letters r (n + 1) ≡ lines_of columns letters r n ++ row_text columns letters (r + n)
lines_of-more columns letters r zero = append-nil (row_text columns letters r) ∙ ap (row_text columns letters) (sym (add_zero r))
  where
    add_zero : (r : ℕ) → r + 0 ≡ r
    add_zero r = omega arith
lines_of-more columns letters r (suc n) =
    ap (lines_of columns letters r) (later n)
    ∙ ap (λ (l : List ℕ). row_text columns letters r ++ l) (lines_of-more columns letters (r + 1) n)
    ∙ sym (append_assoc (row_text columns letters r) (lines_of columns letters (r + 1) n) (row_text columns letters ((r + 1) + n)))
    ∙ ap (λ (m : ℕ). (row_text columns letters r ++ lines_of columns letters (r + 1) n) ++ row_text columns letters m) (shifted r n)
  where
    later : (n : ℕ) → suc n + 1 ≡ suc (n + 1)
    later n = omega arith

    shifted : (r n : ℕ) → (r + 1) + n ≡ r + suc n
    shifted r n = omega arith

-- what is written is one row more
pub line_more : (columns r rows : ℕ) (out letters line : List ℕ) → r < rows → length out ≡ rows * (columns + 1) → length letters ≡ rows * columns
    → take (r * (columns + 1)) out ≡ lines_of columns letters 0 r
    → line ≡ take (r * columns + columns - r * columns) (drop (r * columns) letters) ++ 10 ∷ []
    → take ((r + 1) * (columns + 1)) (put_mid (r * (columns + 1)) (r * (columns + 1) + columns + 1 - r * (columns + 1)) out line) ≡ lines_of columns letters 0 (r + 1)
line_more columns r rows out letters line h size full before is =
    let room : r * (columns + 1) ≤ length out = omega (arith, size, mul-le-mul_right {m = r} {n = rows} (columns + 1) (omega (arith, h))) in
    let left : (r + 1) * columns ≤ rows * columns = mul-le-mul_right {m = r + 1} {n = rows} columns (omega (arith, h)) in
    let row : line ≡ row_text columns letters r = is ∙ ap (λ (n : ℕ). take n (drop (r * columns) letters) ++ 10 ∷ []) (omega arith) in
    let part : length (take columns (drop (r * columns) letters)) ≡ columns = length-take-le columns (drop (r * columns) letters) (omega (arith, length-drop (r * columns) letters, full, left)) in
    let long : length line ≡ columns + 1 = ap length row ∙ (length-append (take columns (drop (r * columns) letters)) (10 ∷ []) ∙ omega (arith, part)) in
    take-put_mid (r * (columns + 1)) (r * (columns + 1) + columns + 1 - r * (columns + 1)) out line ((r + 1) * (columns + 1)) (omega (arith, long)) room
    ∙ ap (λ (l : List ℕ). l ++ line) before
    ∙ ap (λ (l : List ℕ). lines_of columns letters 0 r ++ l) (row ∙ ap (row_text columns letters) (sym (zero_add r)))
    ∙ sym (lines_of-more columns letters 0 r)
  where
    zero_add : (r : ℕ) → 0 + r ≡ r
    zero_add r = omega arith

-- the letters of a row
row_letters : (R : Region) (letters : List ℕ) (r c n : ℕ) → IsGrid R → AreLetters R letters → r < R.rows → c + n ≤ R.columns
    → take n (drop (r * R.columns + c) letters) ≡ map (λ c. letter (cell r c) (partner (tiles_in R letters) (cell r c))) (range_with_len c n)
row_letters R letters r c zero k s h w = refl
row_letters R letters r c (suc n) k s h w =
    let within : c < R.columns = omega (arith, w) in
    let below : r * R.columns + c < R.columns * R.rows = mul-add-lt r R.columns c R.rows h within in
    let room : r * R.columns + c < length letters = omega (arith, below, s.size, mul_comm R.columns R.rows) in
    ap (take (suc n)) (drop-cons letters (r * R.columns + c) 0 room)
    ∙ ap (λ (b : ℕ). b ∷ take n (drop (suc (r * R.columns + c)) letters)) (sym (letter-is R letters (cell r c) k s h within))
    ∙ ap (λ (l : List ℕ). letter (cell r c) (partner (tiles_in R letters) (cell r c)) ∷ l)
    (ap (λ (m : ℕ). take n (drop m letters)) (shifted (r * R.columns)) ∙ row_letters R letters r (c + 1) n k s h (omega (arith, w)))
  where
    shifted : (m : ℕ) → suc (m + c) ≡ m + (c + 1)
    shifted m = omega arith

-- all rows are the drawing
pub lines-drawing : (R : Region) (letters : List ℕ) (r n : ℕ) → IsGrid R → AreLetters R letters → r + n ≤ R.rows
    → lines_of R.columns letters r n ≡ flat_map (λ r. map (λ c. letter (cell r c) (partner (tiles_in R letters) (cell r c))) (upto R.columns) ++ 10 ∷ []) (range_with_len r n)
lines-drawing R letters r zero k s h = refl
lines-drawing R letters r (suc n) k s h =
    let here : take R.columns (drop (r * R.columns) letters) ≡ map (λ c. letter (cell r c) (partner (tiles_in R letters) (cell r c))) (upto R.columns) =
    ap (λ (m : ℕ). take R.columns (drop m letters)) (sym (add_zero (r * R.columns))) ∙ row_letters R letters r 0 R.columns k s (omega (arith, h)) (omega arith) in
    ap (λ (l : List ℕ). (l ++ 10 ∷ []) ++ lines_of R.columns letters (r + 1) n) here
    ∙ ap (λ (l : List ℕ). (map (λ c. letter (cell r c) (partner (tiles_in R letters) (cell r c))) (upto R.columns) ++ 10 ∷ []) ++ l) (lines-drawing R letters (r + 1) n k s (omega (arith, h)))
  where
    add_zero : (m : ℕ) → m + 0 ≡ m
    add_zero m = omega arith

-- a whole list of lines
pub printed : (R : Region) (letters out : List ℕ) (rows columns : ℕ) → IsGrid R → AreLetters R letters → rows ≡ R.rows → columns ≡ R.columns
    → length out ≡ R.rows * (R.columns + 1) → take (rows * (columns + 1)) out ≡ lines_of columns letters 0 rows → out ≡ drawing R (tiles_in R letters)
printed R letters out rows columns k s r c size e =
    sym (take_all (rows * (columns + 1)) out (le_of (ap (λ (m : ℕ). m * (columns + 1)) r ∙ ap (λ (m : ℕ). R.rows * (m + 1)) c) size))
    ∙ e ∙ ap (λ (m : ℕ). lines_of m letters 0 rows) c ∙ ap (lines_of R.columns letters 0) r ∙ lines-drawing R letters 0 R.rows k s (omega arith)
  where
    le_of : {m n k : ℕ} → m ≡ n → k ≡ n → k ≤ m
    le_of e f = omega (arith, e, f)
