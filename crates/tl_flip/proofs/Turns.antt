-- Each turn of the walk to a target takes something off its weight.
use Rattle.std.proofs.Common.{◌≡◌, ℕ, ◌+◌, ◌*◌, ◌<◌, ◌≤◌, Bool, true, false, cond, List, ap, arith, ℤ, pos, ◌+ℤ◌, ◌<ℤ◌, ◌≤ℤ◌, int_lt}
use Rattle.std.specs.Prelude.{unsigned_abs, min}
use Rattle.std.proofs.lemmas.Int.{ints}
use Rattle.std.proofs.Math.Nat.{mul-le-mul_left}
use Rattle.tl_definitions.specs.declared.Corner.{Corner}
use Rattle.tl_definitions.specs.declared.Kind.{Kind}
use Rattle.tl_definitions.specs.declared.Kind.TheVariants.{Square, Triangle}
use Rattle.tl_definitions.specs.Lattice.{rise}
use Rattle.tl_definitions.specs.Region.{Region, is_corner_of}
use Rattle.tl_definitions.specs.Accepted.{Accepted, cell_count}
use Rattle.tl_definitions.specs.Heights.{height, AreLawful}
use Rattle.tl_closing.proofs.Stated.{Within, corner-within, heights-small}
use Rattle.tl_lawful.specs.HeightGap.{height_gap}
use Rattle.tl_flip.specs.Approach.{counted}
use Rattle.tl_flip.specs.declared.direction.Direction.{Direction}
use Rattle.tl_flip.specs.declared.direction.Direction.TheVariants.{Up, Down}

-- no height of the region is larger
abbrev bound : Region → ℕ
bound R = 4 * cell_count R + 3 * (R.columns + 2)

-- how long a corner may still make others wait: longest where it has reached the target, as then one that waits comes next,
-- and else the longer the higher it is, as one that blocks it is less high
abbrev hold : Direction → Region → List ℤ → List ℤ → Corner → ℕ
hold way R here target v =
    cond (int_lt (counted way R here v) (counted way R target v)) (min (4 * bound R) (2 * unsigned_abs (counted way R here v +ℤ pos (bound R)))) (4 * bound R + 1)

abbrev pub weight : Direction → Region → List ℤ → List ℤ → Corner → ℕ → ℕ
weight way R here target v waiting = (4 * bound R + 2) * height_gap here target + waiting + hold way R here target v

module _ (way : Direction) (R : Region) (here target : List ℤ) where
  short-hold : (v : Corner) → int_lt (counted way R here v) (counted way R target v) ≡ true
      → hold way R here target v ≡ min (4 * bound R) (2 * unsigned_abs (counted way R here v +ℤ pos (bound R)))
  short-hold v e = ap (λ (t : Bool). cond t (min (4 * bound R) (2 * unsigned_abs (counted way R here v +ℤ pos (bound R)))) (4 * bound R + 1)) e

  reached-hold : (v : Corner) → int_lt (counted way R here v) (counted way R target v) ≡ false → hold way R here target v ≡ 4 * bound R + 1
  reached-hold v e = ap (λ (t : Bool). cond t (min (4 * bound R) (2 * unsigned_abs (counted way R here v +ℤ pos (bound R)))) (4 * bound R + 1)) e

  most-hold : (v : Corner) → hold way R here target v ≤ 4 * bound R + 1
  most-hold v = go (int_lt (counted way R here v) (counted way R target v))
    where
      go : (t : Bool) → cond t (min (4 * bound R) (2 * unsigned_abs (counted way R here v +ℤ pos (bound R)))) (4 * bound R + 1) ≤ 4 * bound R + 1
      go true = omega arith
      go false = omega arith

  -- one that waits comes next
  pub popped-less : (v w : Corner) (n m : ℕ) → int_lt (counted way R here v) (counted way R target v) ≡ false → n ≡ m + 1
      → weight way R here target w m < weight way R here target v n
  popped-less v w n m e f = let a = reached-hold v e in let b = most-hold w in omega (arith, a, b, f)

  small : (v : Corner) → Accepted R → AreLawful R here → is_corner_of R v ≡ true
      → (pos 0 ≤ℤ (counted way R here v +ℤ pos (bound R))) × (counted way R here v ≤ℤ pos (bound R))
  small v accepted lawful of_region = go way (heights-small R here accepted lawful v of_region) (corner-within R v accepted.placed of_region).1
    where
      go : (way : Direction) → Within (4 * cell_count R + 3 * v.x) (height R here v) → v.x < R.columns + 2
          → (pos 0 ≤ℤ (counted way R here v +ℤ pos (bound R))) × (counted way R here v ≤ℤ pos (bound R))
      go Up (low, high) column = (omega (arith, ints, low, high, column), omega (arith, ints, low, high, column))
      go Down (low, high) column = (omega (arith, ints, low, high, column), omega (arith, ints, low, high, column))

  -- one that blocks comes next
  pub pushed-less : (v w : Corner) (n m : ℕ) → Accepted R → AreLawful R here → is_corner_of R v ≡ true → is_corner_of R w ≡ true
      → int_lt (counted way R here v) (counted way R target v) ≡ true → int_lt (counted way R here w) (counted way R target w) ≡ true
      → counted way R here v ≡ counted way R here w +ℤ pos 1 → m ≡ n + 1 → weight way R here target w m < weight way R here target v n
  pushed-less v w n m accepted lawful of_v of_w e f rises more =
      let a = short-hold v e in
      let b = short-hold w f in
      let p = small v accepted lawful of_v in
      let q = small w accepted lawful of_w in
      least (bound R) (counted way R here v) (counted way R here w) (hold way R here target v) (hold way R here target w) ((4 * bound R + 2) * height_gap here target) n m p.0 p.1 q.0 q.1 rises a b more
    where
      size : (z : ℤ) → pos 0 ≤ℤ z → pos (unsigned_abs z) ≡ z
      size z l = omega (arith, ints, l)

      least : (k : ℕ) (y z : ℤ) (s t g n m : ℕ) → pos 0 ≤ℤ (y +ℤ pos k) → y ≤ℤ pos k → pos 0 ≤ℤ (z +ℤ pos k) → z ≤ℤ pos k → y ≡ z +ℤ pos 1
          → s ≡ min (4 * k) (2 * unsigned_abs (y +ℤ pos k)) → t ≡ min (4 * k) (2 * unsigned_abs (z +ℤ pos k)) → m ≡ n + 1 → g + m + t < g + n + s
      least k y z s t g n m a b c d e p q f =
          let u = size (y +ℤ pos k) a in
          let v = size (z +ℤ pos k) c in
          omega (arith, ints, a, b, c, d, e, p, q, f, u, v)

-- a flip is made, and this corner or one that waits comes next
pub advanced-less : (way : Direction) (R : Region) (here next target : List ℤ) (v w : Corner) (n m : ℕ) → height_gap next target + rise R.kind ≡ height_gap here target
    → m ≤ n → weight way R next target w m < weight way R here target v n
advanced-less way R here next target v w n m e le =
    let a = most-hold way R next target w in
    let nearer : height_gap next target + 1 ≤ height_gap here target = some_rise R.kind (height_gap next target) (height_gap here target) e in
    let less = mul-le-mul_left (4 * bound R + 2) nearer in
    sums (4 * bound R) (height_gap next target) (height_gap here target) n m (hold way R next target w) (hold way R here target v) a less le
  where
    some_rise : (k : Kind) (g' g : ℕ) → g' + rise k ≡ g → g' + 1 ≤ g
    some_rise Square g' g e = omega (arith, e)
    some_rise Triangle g' g e = omega (arith, e)

    sums : (k g' g n m t s : ℕ) → t ≤ k + 1 → (k + 2) * (g' + 1) ≤ (k + 2) * g → m ≤ n → (k + 2) * g' + m + t < (k + 2) * g + n + s
    sums k g' g n m t s a l le = omega (arith, a, l, le)

-- the gap that a longer path leaves
pub gap-falls : (k : Kind) (g h m n : ℕ) → h + rise k * n ≡ g + rise k * m → n ≡ m + 1 → h + rise k ≡ g
gap-falls Square g h m n e f = omega (arith, e, f)
gap-falls Triangle g h m n e f = omega (arith, e, f)

pub true-lt : (y z : ℤ) → y <ℤ z → int_lt y z ≡ true
true-lt y z l = grind (arith, ints)
