-- How far apart two whole numbers are, where one of them is changed by the rise of a flip.
use Rattle.std.proofs.Common.{◌≡◌, ℕ, ◌+◌, ◌-◌, ◌*◌, ◌≤◌, ◌⊎◌, inl, inr, refl, arith, ℤ, pos, negsuc, ◌+ℤ◌, ◌-ℤ◌, ◌*ℤ◌, ◌<ℤ◌}
use Rattle.std.specs.Prelude.{unsigned_abs}
use Rattle.std.proofs.lemmas.Int.{ints}
use Rattle.tl_definitions.specs.declared.Kind.{Kind}
use Rattle.tl_definitions.specs.declared.Kind.TheVariants.{Square, Triangle}
use Rattle.tl_definitions.specs.Lattice.{rise}

abbrev IsSize : ℤ → ℕ → Type 0
IsSize z n = (z ≡ pos n) ⊎ (z +ℤ pos n ≡ pos 0)

size : (z : ℤ) → IsSize z (unsigned_abs z)
size (pos n) = inl refl
size (negsuc n) = inr (omega (arith, ints))

multiple : (k : Kind) (x b j : ℤ) (d n : ℕ) → IsSize (x -ℤ b) d → IsSize j n → b ≡ x +ℤ (pos (rise k) *ℤ j) → d ≡ rise k * n
multiple Square x b j d n (inl p) (inl q) e = omega (arith, ints, p, q, e)
multiple Square x b j d n (inl p) (inr q) e = omega (arith, ints, p, q, e)
multiple Square x b j d n (inr p) (inl q) e = omega (arith, ints, p, q, e)
multiple Square x b j d n (inr p) (inr q) e = omega (arith, ints, p, q, e)
multiple Triangle x b j d n (inl p) (inl q) e = omega (arith, ints, p, q, e)
multiple Triangle x b j d n (inl p) (inr q) e = omega (arith, ints, p, q, e)
multiple Triangle x b j d n (inr p) (inl q) e = omega (arith, ints, p, q, e)
multiple Triangle x b j d n (inr p) (inr q) e = omega (arith, ints, p, q, e)

none : (x y : ℤ) (d : ℕ) → IsSize (x -ℤ y) d → (x ≡ y → d ≡ 0) × (d ≡ 0 → x ≡ y)
none x y d p = (λ e. grind (arith, ints), λ e. grind (arith, ints))

raised : (m : ℕ) (x b : ℤ) (d n : ℕ) → IsSize (x -ℤ b) d → IsSize ((x +ℤ pos m) -ℤ b) n → d ≤ n + m
raised m x b d n p q = grind (arith, ints)

lowered : (k : Kind) (x b : ℤ) (d n : ℕ) → IsSize (x -ℤ b) d → IsSize ((x +ℤ negsuc (rise k - 1)) -ℤ b) n → d ≤ n + rise k
lowered Square x b d n p q = grind (arith, ints)
lowered Triangle x b d n p q = grind (arith, ints)

nearer_up : (k : Kind) (x b j : ℤ) (d n : ℕ) → IsSize (x -ℤ b) d → IsSize ((x +ℤ pos (rise k)) -ℤ b) n → b ≡ x +ℤ (pos (rise k) *ℤ j) → x <ℤ b
    → n + rise k ≡ d
nearer_up Square x b j d n (inl p) (inl q) e l = omega (arith, ints, p, q, e, l)
nearer_up Square x b j d n (inl p) (inr q) e l = omega (arith, ints, p, q, e, l)
nearer_up Square x b j d n (inr p) (inl q) e l = omega (arith, ints, p, q, e, l)
nearer_up Square x b j d n (inr p) (inr q) e l = omega (arith, ints, p, q, e, l)
nearer_up Triangle x b j d n (inl p) (inl q) e l = omega (arith, ints, p, q, e, l)
nearer_up Triangle x b j d n (inl p) (inr q) e l = omega (arith, ints, p, q, e, l)
nearer_up Triangle x b j d n (inr p) (inl q) e l = omega (arith, ints, p, q, e, l)
nearer_up Triangle x b j d n (inr p) (inr q) e l = omega (arith, ints, p, q, e, l)

nearer_down : (k : Kind) (x b j : ℤ) (d n : ℕ) → IsSize (x -ℤ b) d → IsSize ((x +ℤ negsuc (rise k - 1)) -ℤ b) n → b ≡ x +ℤ (pos (rise k) *ℤ j) → b <ℤ x
    → n + rise k ≡ d
nearer_down Square x b j d n (inl p) (inl q) e l = omega (arith, ints, p, q, e, l)
nearer_down Square x b j d n (inl p) (inr q) e l = omega (arith, ints, p, q, e, l)
nearer_down Square x b j d n (inr p) (inl q) e l = omega (arith, ints, p, q, e, l)
nearer_down Square x b j d n (inr p) (inr q) e l = omega (arith, ints, p, q, e, l)
nearer_down Triangle x b j d n (inl p) (inl q) e l = omega (arith, ints, p, q, e, l)
nearer_down Triangle x b j d n (inl p) (inr q) e l = omega (arith, ints, p, q, e, l)
nearer_down Triangle x b j d n (inr p) (inl q) e l = omega (arith, ints, p, q, e, l)
nearer_down Triangle x b j d n (inr p) (inr q) e l = omega (arith, ints, p, q, e, l)

-- a difference that is a multiple of the rise
pub apart-multiple : (k : Kind) (x b j : ℤ) → b ≡ x +ℤ (pos (rise k) *ℤ j) → unsigned_abs (x -ℤ b) ≡ rise k * unsigned_abs j
apart-multiple k x b j e = multiple k x b j (unsigned_abs (x -ℤ b)) (unsigned_abs j) (size (x -ℤ b)) (size j) e

pub same-apart : (x y : ℤ) → x ≡ y → unsigned_abs (x -ℤ y) ≡ 0
same-apart x y e = (none x y (unsigned_abs (x -ℤ y)) (size (x -ℤ y))).0 e

pub apart-same : (x y : ℤ) → unsigned_abs (x -ℤ y) ≡ 0 → x ≡ y
apart-same x y e = (none x y (unsigned_abs (x -ℤ y)) (size (x -ℤ y))).1 e

-- a number moved by the rise comes nearer by no more
pub raised-near : (m : ℕ) (x b : ℤ) → unsigned_abs (x -ℤ b) ≤ unsigned_abs ((x +ℤ pos m) -ℤ b) + m
raised-near m x b = raised m x b (unsigned_abs (x -ℤ b)) (unsigned_abs ((x +ℤ pos m) -ℤ b)) (size (x -ℤ b)) (size ((x +ℤ pos m) -ℤ b))

pub lowered-near : (k : Kind) (x b : ℤ) → unsigned_abs (x -ℤ b) ≤ unsigned_abs ((x +ℤ negsuc (rise k - 1)) -ℤ b) + rise k
lowered-near k x b =
    lowered k x b (unsigned_abs (x -ℤ b)) (unsigned_abs ((x +ℤ negsuc (rise k - 1)) -ℤ b)) (size (x -ℤ b)) (size ((x +ℤ negsuc (rise k - 1)) -ℤ b))

-- and moved towards one from which it differs by a multiple of the rise, by just as much
pub raised-nearer : (k : Kind) (x b j : ℤ) → b ≡ x +ℤ (pos (rise k) *ℤ j) → x <ℤ b → unsigned_abs ((x +ℤ pos (rise k)) -ℤ b) + rise k ≡ unsigned_abs (x -ℤ b)
raised-nearer k x b j =
    nearer_up k x b j (unsigned_abs (x -ℤ b)) (unsigned_abs ((x +ℤ pos (rise k)) -ℤ b)) (size (x -ℤ b)) (size ((x +ℤ pos (rise k)) -ℤ b))

pub lowered-nearer : (k : Kind) (x b j : ℤ) → b ≡ x +ℤ (pos (rise k) *ℤ j) → b <ℤ x
    → unsigned_abs ((x +ℤ negsuc (rise k - 1)) -ℤ b) + rise k ≡ unsigned_abs (x -ℤ b)
lowered-nearer k x b j =
    nearer_down k x b j (unsigned_abs (x -ℤ b)) (unsigned_abs ((x +ℤ negsuc (rise k - 1)) -ℤ b)) (size (x -ℤ b)) (size ((x +ℤ negsuc (rise k - 1)) -ℤ b))
