-- The span, and that the texts of shapes are short enough to be read.
use Rattle.std.proofs.Common.{◌≡◌, ℕ, zero, suc, ◌+◌, ◌-◌, ◌*◌, ◌<◌, ◌≤◌, lit≤, Bool, true, false, List, [], ◌∷◌, ◌++◌, length, flat_map, ap, subst, arith, ◌∙◌, append-nil, length-append, add-one}
use Rattle.std.specs.Prelude.{nat_lt, if◌then◌else◌, replicate}
use Rattle.std.proofs.lemmas.Grind.{flat_map-append}
use Rattle.std.proofs.lemmas.List.{length-replicate}
use Rattle.tl_definitions.specs.Region.{Region}
use Rattle.tl_extreme.specs.Verdicts.{AreBottomHeights, AreTopHeights}
use Rattle.tl_flip.specs.Flips.{IsDistanceBetween}
use Rattle.tl_formats.specs.Texts.{line}
use Rattle.tl_formats.specs.declared.TheConstants.{INPUT_LIMIT}
use Rattle.tl_height.specs.HeightFunction.{HeightFunction}
use Rattle.tl_lists.specs.Lists.{upto}
use Rattle.tl_lists.proofs.Members.{upto_more}
use Rattle.tl_text.specs.Shapes.{header, hexagon_columns, row_columns, row_count, row_text, shape_text}
use Rattle.tl_text.specs.Words.{max_order}
use Rattle.tl_text.specs.declared.Shape.{Shape}
use Rattle.tl_text.specs.declared.Shape.TheVariants.{Aztec, Hexagon, Staircase, Hourglass}
use Rattle.tl_run.specs.Summary.{IsSpan}

-- ---- the span

module _ (R : Region) (low : HeightFunction) (b : AreBottomHeights R low) where
  pub span-told : (high : HeightFunction) (span : ℕ) → (t : AreTopHeights R high) → IsDistanceBetween low.region low.numbers high.numbers span → IsSpan R span
  span-told high span t d = (
    t.tiles,
    t.top,
    (
      b.tiles,
      b.bottom,
      subst (λ (Q : Region). IsDistanceBetween Q low.numbers high.numbers span) b.region d b.tiles t.tiles (b.bottom.tiling, b.heights) (t.top.tiling, t.heights),
    ),
  )

-- ---- the texts of shapes

-- so many rows, which are short
rows-short : (f : ℕ → List ℕ) (k : ℕ) → ((i : ℕ) → i < k → length (f i) ≤ 1024) → length (flat_map f (upto k)) ≤ 1024 * k
rows-short f zero short = omega arith
rows-short f (suc k) short =
    let before : length (flat_map f (upto k)) ≤ 1024 * k = rows-short f k (λ i h. short i (omega (arith, h))) in
    let last : length (f k) ≤ 1024 = short k (omega arith) in
    let more : upto (suc k) ≡ upto k ++ (k ∷ []) = subst (λ (m : ℕ). upto m ≡ upto k ++ (k ∷ [])) (add-one k) (upto_more k) in
    let text : flat_map f (upto (suc k)) ≡ flat_map f (upto k) ++ flat_map f (k ∷ []) = ap (flat_map f) more ∙ flat_map-append f (upto k) (k ∷ []) in
    let one : flat_map f (k ∷ []) ≡ f k = append-nil (f k) in
    omega (arith, before, last, ap length text, length-append (flat_map f (upto k)) (flat_map f (k ∷ [])), ap length one)

row-length : (columns : ℕ × ℕ) → columns.0 + columns.1 ≤ 1022 → length (line (row_text columns ∷ [])) ≤ 1024
row-length columns few =
    let dots : List ℕ = replicate columns.0 46 in
    let marks : List ℕ = replicate (columns.1 + 1 - columns.0) 35 in
    let so_many : length dots ≡ columns.0 = length-replicate columns.0 46 in
    let others : length marks ≡ columns.1 + 1 - columns.0 = length-replicate (columns.1 + 1 - columns.0) 35 in
    omega (arith, few, length-append (dots ++ marks) (10 ∷ []), length-append dots marks, so_many, others)

-- the sum of the first and the last column of a row
abbrev ends : ℕ × ℕ → ℕ
ends columns = columns.0 + columns.1

columns-few : (shape : Shape) (n i : ℕ) → n ≤ max_order shape → i < row_count shape n → ends (row_columns shape n i) ≤ 1022
columns-few Aztec n i most below = go (nat_lt i n)
  where
    go : (b : Bool) → ends (if b then (n - 1 - i, n + i) else (i - n, 3 * n - 1 - i)) ≤ 1022
    go true = omega (arith, most, below)
    go false = omega (arith, most, below)
columns-few Hexagon n i most below = go (nat_lt i n)
  where
    go : (b : Bool) → ends (if b then hexagon_columns n i else hexagon_columns n (2 * n - 1 - i)) ≤ 1022
    go true = omega (arith, most, below)
    go false = omega (arith, most, below)
columns-few Staircase n i most below = omega (arith, most, below)
columns-few Hourglass n i most below = go (nat_lt i n)
  where
    go : (b : Bool) → ends (if b then (0, i) else (i - 1, 2 * n - 2)) ≤ 1022
    go true = omega (arith, most, below)
    go false = omega (arith, most, below)

rows-few : (shape : Shape) (n : ℕ) → n ≤ max_order shape → row_count shape n ≤ 512
rows-few Aztec n most = omega (arith, most)
rows-few Hexagon n most = omega (arith, most)
rows-few Staircase n most = most
rows-few Hourglass n most = omega (arith, most)

header-short : (shape : Shape) → length (line (header shape ∷ [])) ≤ 9
header-short Aztec = lit≤ tt
header-short Hexagon = lit≤ tt
header-short Staircase = lit≤ tt
header-short Hourglass = lit≤ tt

-- the text of a shape is no longer than an input may be
pub shape_text-short : (shape : Shape) (n : ℕ) → n ≤ max_order shape → length (shape_text shape n) ≤ INPUT_LIMIT
shape_text-short shape n most =
    let rows : List ℕ = flat_map (λ i. line (row_text (row_columns shape n i) ∷ [])) (upto (row_count shape n)) in
    let short : length rows ≤ 1024 * row_count shape n =
    rows-short (λ i. line (row_text (row_columns shape n i) ∷ [])) (row_count shape n) (λ i below. row-length (row_columns shape n i) (columns-few shape n i most below)) in
    omega (arith, short, rows-few shape n most, header-short shape, length-append (line (header shape ∷ [])) rows)
