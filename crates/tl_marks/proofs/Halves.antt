-- Whole numbers modulo twice the rise of a flip: the half in which one lies changes with each rise.
use Rattle.std.proofs.Common.{◌≡◌, ℕ, ◌-◌, ◌%◌, ◌<◌, ◌≤◌, Bool, true, false, not, refl, arith, ℤ, pos, negsuc, ◌+ℤ◌, leb}
use Rattle.std.proofs.lemmas.Bool.{leb-true, leb-false}
use Rattle.std.proofs.lemmas.Int.{ints}
use Rattle.tl_definitions.specs.declared.Kind.{Kind}
use Rattle.tl_definitions.specs.declared.Kind.TheVariants.{Square, Triangle}
use Rattle.tl_definitions.specs.Lattice.{rise}
use Rattle.tl_marks.specs.Marks.{is_upper_half}

opposite : (m p q : ℕ) → (p < m → m ≤ q) → (m ≤ p → q < m) → leb m p ≡ not (leb m q)
opposite m p q f g = go (leb m q) refl (leb m p) refl
  where
    go : (s : Bool) → leb m q ≡ s → (t : Bool) → leb m p ≡ t → t ≡ not s
    go true e true h = let a = leb-true m q e in let b = leb-true m p h in absurd (omega (arith, g b))
    go true e false h = refl
    go false e true h = refl
    go false e false h = let a = leb-false m q e in let b = leb-false m p h in absurd (omega (arith, f b))

-- one rise more turns the half
pub half-more : (k : Kind) (y z : ℤ) → y ≡ z +ℤ pos (rise k) → is_upper_half k y ≡ not (is_upper_half k z)
half-more Square (pos a) (pos b) e = opposite 4 (a % 8) (b % 8) (λ l. omega (arith, ints, e, l)) (λ l. omega (arith, ints, e, l))
half-more Square (pos a) (negsuc b) e = opposite 4 (a % 8) (7 - b % 8) (λ l. omega (arith, ints, e, l)) (λ l. omega (arith, ints, e, l))
half-more Square (negsuc a) (pos b) e = absurd (omega (arith, ints, e))
half-more Square (negsuc a) (negsuc b) e = opposite 4 (7 - a % 8) (7 - b % 8) (λ l. omega (arith, ints, e, l)) (λ l. omega (arith, ints, e, l))
half-more Triangle (pos a) (pos b) e = opposite 3 (a % 6) (b % 6) (λ l. omega (arith, ints, e, l)) (λ l. omega (arith, ints, e, l))
half-more Triangle (pos a) (negsuc b) e = opposite 3 (a % 6) (5 - b % 6) (λ l. omega (arith, ints, e, l)) (λ l. omega (arith, ints, e, l))
half-more Triangle (negsuc a) (pos b) e = absurd (omega (arith, ints, e))
half-more Triangle (negsuc a) (negsuc b) e = opposite 3 (5 - a % 6) (5 - b % 6) (λ l. omega (arith, ints, e, l)) (λ l. omega (arith, ints, e, l))

-- and so does one rise less
pub half-less : (k : Kind) (y z : ℤ) → y ≡ z +ℤ negsuc (rise k - 1) → is_upper_half k y ≡ not (is_upper_half k z)
half-less k y z e = turned (is_upper_half k y) (is_upper_half k z) (half-more k z y (back k e))
  where
    back : (k : Kind) → y ≡ z +ℤ negsuc (rise k - 1) → z ≡ y +ℤ pos (rise k)
    back Square e = omega (arith, ints, e)
    back Triangle e = omega (arith, ints, e)

    turned : (p q : Bool) → q ≡ not p → p ≡ not q
    turned true q e = cc e
    turned false q e = cc e
