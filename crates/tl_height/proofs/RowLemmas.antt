-- A text of rows, each with a line feed, as it is written.
use Rattle.std.proofs.Common.{◌≡◌, ℕ, zero, suc, ◌+◌, ◌-◌, ◌*◌, ◌<◌, ◌≤◌, List, [], ◌∷◌, ◌++◌, map, length, take, get_or, set, sym, ◌∙◌, ap, arith, append-nil, append_assoc}
use Rattle.std.specs.Prelude.{flat_map}
use Rattle.std.specs.List.{range_with_len}
use Rattle.std.proofs.lemmas.List.{set_split, drop_all, length-take-le, get_or-take, take_all}
use Rattle.std.proofs.lemmas.List.FromFn.{fill_by_all}
use Rattle.std.proofs.lemmas.Slice.{take-put_mid}
use Rattle.std.proofs.Math.Nat.{mul-le-mul_right}
use borrow.Rule.Slice.PartMut.{put_mid}

-- a row of n letters and a line feed
pub row_ends : (f : ℕ → ℕ) (line : List ℕ) (n : ℕ) → length line ≡ n + 1 → ((k : ℕ) → k < n → get_or line k 0 ≡ f k)
    → set line n 10 ≡ map f (range_with_len 0 n) ++ 10 ∷ []
row_ends f line n size each =
    set_split line n 10 (omega (arith, size))
    ∙ (ap (λ (l : List ℕ). take n line ++ 10 ∷ l) (drop_all (suc n) line (omega (arith, size)))
    ∙ ap (λ (l : List ℕ). l ++ 10 ∷ [])
    (fill_by_all f (take n line) n 0 (length-take-le n line (omega (arith, size))) (λ k h. get_or-take n line k 0 h ∙ each k h)))

-- one row more
flat_map-more : (f : ℕ → List ℕ) (a n : ℕ) → flat_map f (range_with_len a (n + 1)) ≡ flat_map f (range_with_len a n) ++ f (a + n)
flat_map-more f a zero = append-nil (f a) ∙ ap f (same a)
  where
    same : (a : ℕ) → a ≡ a + 0
    same a = omega arith
flat_map-more f a (suc n) =
    ap (λ (m : ℕ). flat_map f (range_with_len a m)) (later n)
    ∙ (ap (λ (l : List ℕ). f a ++ l) (flat_map-more f (a + 1) n)
    ∙ (sym (append_assoc (f a) (flat_map f (range_with_len (a + 1) n)) (f ((a + 1) + n)))
    ∙ ap (λ (m : ℕ). flat_map f (range_with_len a (suc n)) ++ f m) (shifted a n)))
  where
    later : (n : ℕ) → suc n + 1 ≡ suc (n + 1)
    later n = omega arith

    shifted : (a n : ℕ) → (a + 1) + n ≡ a + suc n
    shifted a n = omega arith

pub rows_more : (f : ℕ → List ℕ) (width r rows : ℕ) (out line : List ℕ) → r < rows → length out ≡ rows * width → length (f r) ≡ width
    → take (r * width) out ≡ flat_map f (range_with_len 0 r) → line ≡ f r
    → take ((r + 1) * width) (put_mid (r * width) (r * width + width - r * width) out line) ≡ flat_map f (range_with_len 0 (r + 1))
rows_more f width r rows out line h size long before is =
    let room : r * width ≤ length out = omega (arith, size, mul-le-mul_right {m = r} {n = rows} width (omega (arith, h))) in
    let all : length line ≡ width = ap length is ∙ long in
    take-put_mid (r * width) (r * width + width - r * width) out line ((r + 1) * width) (omega (arith, all)) room
    ∙ (ap (λ (l : List ℕ). l ++ line) before
    ∙ (ap (λ (l : List ℕ). flat_map f (range_with_len 0 r) ++ l) (is ∙ ap f (zero_add r)) ∙ sym (flat_map-more f 0 r)))
  where
    zero_add : (r : ℕ) → r ≡ 0 + r
    zero_add r = omega arith

-- all rows
pub rows_all : (f : ℕ → List ℕ) (width r rows : ℕ) (out : List ℕ) → rows ≤ r → r ≤ rows → length out ≡ rows * width
    → take (r * width) out ≡ flat_map f (range_with_len 0 r) → out ≡ flat_map f (range_with_len 0 rows)
rows_all f width r rows out h l size before =
    let last : r ≡ rows = omega (arith, h, l) in
    sym (take_all (r * width) out (le_of (ap (λ (n : ℕ). n * width) last) size)) ∙ (before ∙ ap (λ (n : ℕ). flat_map f (range_with_len 0 n)) last)
  where
    le_of : {m n k : ℕ} → m ≡ n → k ≡ n → k ≤ m
    le_of e f = omega (arith, e, f)
