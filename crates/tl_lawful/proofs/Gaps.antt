-- How far apart two lists of numbers are: a sum over places, of which one is changed.
use Rattle.std.proofs.Common.{◌≡◌, ℕ, ◌+◌, ◌*◌, ◌<◌, ◌≤◌, zero, suc, List, [], ◌∷◌, length, get_or, refl, sym, ◌∙◌, arith, ℤ, pos, ◌-ℤ◌}
use Rattle.std.specs.Prelude.{map, zip, unsigned_abs}
use Rattle.std.proofs.Math.ListN.{set}
use Rattle.std.proofs.lemmas.List.Sums.{sum_by-cons}
use Rattle.std.proofs.Math.Nat.{mul-add}
use Rattle.tl_lawful.specs.HeightGap.{height_gap}

-- how far apart two lists are at a place
abbrev pub apart_at : List ℤ → List ℤ → ℕ → ℕ
apart_at a b k = unsigned_abs (get_or a k (pos 0) -ℤ get_or b k (pos 0))

pub gap-cons : (x y : ℤ) (xs ys : List ℤ) → height_gap (x ∷ xs) (y ∷ ys) ≡ unsigned_abs (x -ℤ y) + height_gap xs ys
gap-cons x y xs ys = sum_by-cons (λ n. n) (unsigned_abs (x -ℤ y)) (map (λ p. unsigned_abs (p.0 -ℤ p.1)) (zip xs ys))

-- one number changed changes one difference
pub gap-set : (a b : List ℤ) (k : ℕ) (z : ℤ) → length a ≡ length b → k < length a
    → height_gap (set a k z) b + apart_at a b k ≡ height_gap a b + unsigned_abs (z -ℤ get_or b k (pos 0))
gap-set [] b k z e l = absurd (omega (arith, l))
gap-set (x ∷ xs) [] k z e l = absurd (omega (arith, e))
gap-set (x ∷ xs) (y ∷ ys) zero z e l = omega (arith, gap-cons x y xs ys, gap-cons z y xs ys)
gap-set (x ∷ xs) (y ∷ ys) (suc k) z e l =
    let rest = gap-set xs ys k z (omega (arith, e)) (omega (arith, l)) in
    omega (arith, gap-cons x y xs ys, gap-cons x y (set xs k z) ys, rest)

-- no place is further apart than the lists are
pub apart-gap : (a b : List ℤ) (k : ℕ) → length a ≡ length b → k < length a → apart_at a b k ≤ height_gap a b
apart-gap [] b k e l = absurd (omega (arith, l))
apart-gap (x ∷ xs) [] k e l = absurd (omega (arith, e))
apart-gap (x ∷ xs) (y ∷ ys) zero e l = omega (arith, gap-cons x y xs ys)
apart-gap (x ∷ xs) (y ∷ ys) (suc k) e l =
    let rest = apart-gap xs ys k (omega (arith, e)) (omega (arith, l)) in
    omega (arith, gap-cons x y xs ys, rest)

abbrev pub IsMultiple : ℕ → ℕ → Type 0
IsMultiple m n = (j : ℕ) × (n ≡ m * j)

-- differences that are multiples of a number add up to one
pub gap-multiple : (m : ℕ) (a b : List ℤ) → length a ≡ length b → ((k : ℕ) → IsMultiple m (apart_at a b k)) → IsMultiple m (height_gap a b)
gap-multiple m [] [] e each = (0, omega arith)
gap-multiple m [] (y ∷ ys) e each = absurd (omega (arith, e))
gap-multiple m (x ∷ xs) [] e each = absurd (omega (arith, e))
gap-multiple m (x ∷ xs) (y ∷ ys) e each = go (each 0) (gap-multiple m xs ys (omega (arith, e)) (λ k. each (suc k)))
  where
    go : IsMultiple m (unsigned_abs (x -ℤ y)) → IsMultiple m (height_gap xs ys) → IsMultiple m (height_gap (x ∷ xs) (y ∷ ys))
    go (i, d) (j, f) = (i + j, gap-cons x y xs ys ∙ (λ t. d t + f t) ∙ sym (mul-add m i j))

-- lists that are nowhere apart have no gap
pub gap-none : (a b : List ℤ) → length a ≡ length b → ((k : ℕ) → apart_at a b k ≡ 0) → height_gap a b ≡ 0
gap-none [] [] e each = refl
gap-none [] (y ∷ ys) e each = absurd (omega (arith, e))
gap-none (x ∷ xs) [] e each = absurd (omega (arith, e))
gap-none (x ∷ xs) (y ∷ ys) e each =
    let rest = gap-none xs ys (omega (arith, e)) (λ k. each (suc k)) in
    let first = each 0 in
    omega (arith, gap-cons x y xs ys, rest, first)
