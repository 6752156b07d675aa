-- Lawful heights are no larger than the circuit is long and three times the column.
use Rattle.std.proofs.Common.{◌≡◌, ℕ, zero, suc, ◌+◌, ◌-◌, ◌*◌, ◌≤◌, min, ◌⊎◌, inl, inr, Bool, true, false, List, [], ◌∷◌, map, take, length, flat_map, cond, Some, sym, ◌∙◌, ap, subst, arith, ℤ, pos, negsuc, ◌+ℤ◌, ◌≤ℤ◌}
use Rattle.std.specs.Prelude.{slice_get, IsTrue}
use Rattle.std.proofs.lemmas.Int.{ints}
use Rattle.std.proofs.lemmas.List.{length-take, length-append, length-map}
use Rattle.tl_definitions.specs.declared.Kind.{Kind}
use Rattle.tl_definitions.specs.declared.Kind.TheVariants.{Square, Triangle}
use Rattle.tl_definitions.specs.declared.Cell.{Cell}
use Rattle.tl_definitions.specs.declared.Corner.{Corner}
use Rattle.tl_definitions.specs.Lattice.{is_dark, Side, sides, cell_width, rise}
use Rattle.tl_definitions.specs.Region.{Region, all_sides, side_eq, is_boundary, boundary, is_corner_of, is_inner, is_step}
use Rattle.tl_definitions.specs.Accepted.{Accepted, IsCircuit, circuit_corners, cell_count}
use Rattle.tl_definitions.specs.Obstruction.{sign, prefix}
use Rattle.tl_lists.specs.Lists.{int_sum}
use Rattle.tl_definitions.specs.Heights.{height, AreLawful}
use Rattle.tl_lists.proofs.Members.{In-slice_get}
use Rattle.tl_definitions.proofs.Walks.{side_eq-same, side_eq-refl}
use Rattle.tl_closing.specs.Closing.{step_along}
use Rattle.tl_lists.proofs.Distinct.{Distinct, without, length-without, length-filter_le}
use Rattle.tl_closing.proofs.Edges.{Distinct-cells}
use Rattle.tl_closing.proofs.Circuit.{boundary-walk, walk-boundary, Distinct-walk}
use Rattle.tl_closing.proofs.Crossed.{length-round}
use Rattle.tl_closing.proofs.AlongSteps.{step-value}
use Rattle.tl_closing.proofs.Ring.{BeginsAt, inner-or-boundary, inner-left, LeftNeighbour}

-- between -n and n
abbrev pub Within : ℕ → ℤ → Type 0
Within n z = (z ≤ℤ pos n) × (pos 0 ≤ℤ (z +ℤ pos n))

within-more : (m n : ℕ) (z : ℤ) → m ≤ n → Within m z → Within n z
within-more m n z h p = (omega (arith, ints, h, p.0), omega (arith, ints, h, p.1))

signs-within : (ss : List Side) → Within (length ss) (int_sum (map sign ss))
signs-within [] = (omega (arith, ints), omega (arith, ints))
signs-within (s ∷ ss) = go (is_dark s.cell) (int_sum (map sign ss)) (signs-within ss)
  where
    go : (t : Bool) (z : ℤ) → Within (length ss) z → Within (suc (length ss)) (cond t (pos 1) (negsuc 0) +ℤ z)
    go true z p = (omega (arith, ints, p.0, p.1), omega (arith, ints, p.0, p.1))
    go false z p = (omega (arith, ints, p.0, p.1), omega (arith, ints, p.0, p.1))

prefix-within : (walk : List Side) (k : ℕ) → Within (length walk) (prefix walk k)
prefix-within walk k = within-more (length (take k walk)) (length walk) (prefix walk k) (shorter (length-take k walk)) (signs-within (take k walk))
  where
    shorter : length (take k walk) ≡ min k (length walk) → length (take k walk) ≤ length walk
    shorter e = omega (arith, e)

module _ (R : Region) (numbers : List ℤ) (accepted : Accepted R) (lawful : AreLawful R numbers) (walk : List Side) (circuit : IsCircuit R walk) where
  at_boundary : (v : Corner) → BeginsAt R v → Within (length walk + 3 * v.x) (height R numbers v)
  at_boundary v (s, i, from) = go (In-slice_get (λ (s : Side). s.from) s walk (boundary-walk R (Distinct-cells R accepted.placed) walk circuit s i))
    where
      go : (k : ℕ) × (slice_get (circuit_corners walk) k ≡ Some s.from) → Within (length walk + 3 * v.x) (height R numbers v)
      go (k, e) =
          let value : height R numbers v ≡ prefix walk k = ap (height R numbers) (sym from) ∙ lawful.boundary walk k s.from circuit e in
          subst (λ (z : ℤ). Within (length walk + 3 * v.x) z) (sym value) (within-more (length walk) (length walk + 3 * v.x) (prefix walk k) (omega arith) (prefix-within walk k))

  -- from the left neighbour
  after_left : (k : Kind) (l x x' : ℕ) (y z : ℤ) (t : Bool) → x' + cell_width k ≡ x → Within (l + 3 * x') z
      → (y ≡ z +ℤ cond t (negsuc (rise k - 2)) (pos 1)) ⊎ (z ≡ y +ℤ cond t (negsuc (rise k - 2)) (pos 1)) → Within (l + 3 * x) y
  after_left Square l x x' y z true g p (inl e) = (omega (arith, ints, g, p.0, p.1, e), omega (arith, ints, g, p.0, p.1, e))
  after_left Square l x x' y z true g p (inr e) = (omega (arith, ints, g, p.0, p.1, e), omega (arith, ints, g, p.0, p.1, e))
  after_left Square l x x' y z false g p (inl e) = (omega (arith, ints, g, p.0, p.1, e), omega (arith, ints, g, p.0, p.1, e))
  after_left Square l x x' y z false g p (inr e) = (omega (arith, ints, g, p.0, p.1, e), omega (arith, ints, g, p.0, p.1, e))
  after_left Triangle l x x' y z true g p (inl e) = (omega (arith, ints, g, p.0, p.1, e), omega (arith, ints, g, p.0, p.1, e))
  after_left Triangle l x x' y z true g p (inr e) = (omega (arith, ints, g, p.0, p.1, e), omega (arith, ints, g, p.0, p.1, e))
  after_left Triangle l x x' y z false g p (inl e) = (omega (arith, ints, g, p.0, p.1, e), omega (arith, ints, g, p.0, p.1, e))
  after_left Triangle l x x' y z false g p (inr e) = (omega (arith, ints, g, p.0, p.1, e), omega (arith, ints, g, p.0, p.1, e))

  earlier : (k : Kind) (x x' n : ℕ) → x' + cell_width k ≡ x → x ≤ suc n → x' ≤ n
  earlier Square x x' n g h = omega (arith, g, h)
  earlier Triangle x x' n g h = omega (arith, g, h)

  none-left : (k : Kind) (x x' : ℕ) → x' + cell_width k ≡ x → x ≤ 0 → ⊥
  none-left Square x x' g h = omega (arith, g, h)
  none-left Triangle x x' g h = omega (arith, g, h)

  from_left : (v w : Corner) → LeftNeighbour R v w → Within (length walk + 3 * w.x) (height R numbers w) → Within (length walk + 3 * v.x) (height R numbers v)
  from_left v w left p = go left.joined
    where
      go : (is_step R w v ≡ true) ⊎ (is_step R v w ≡ true) → Within (length walk + 3 * v.x) (height R numbers v)
      go (inl e) = after_left R.kind (length walk) v.x w.x (height R numbers v) (height R numbers w) _ left.column p (inl (step-value R numbers lawful w v e))
      go (inr e) = after_left R.kind (length walk) v.x w.x (height R numbers v) (height R numbers w) _ left.column p (inr (step-value R numbers lawful v w e))

  within : (n : ℕ) (v : Corner) → v.x ≤ n → is_corner_of R v ≡ true → Within (length walk + 3 * v.x) (height R numbers v)
  within zero v h e = go (inner-or-boundary R v e)
    where
      go : BeginsAt R v ⊎ (is_inner R v ≡ true) → Within (length walk + 3 * v.x) (height R numbers v)
      go (inl begins) = at_boundary v begins
      go (inr inner) = let (w, left) = inner-left R v inner in absurd (none-left R.kind v.x w.x left.column h)
  within (suc n) v h e = go (inner-or-boundary R v e) (λ w i j. within n w i j)
    where
      go : BeginsAt R v ⊎ (is_inner R v ≡ true) → ((w : Corner) → w.x ≤ n → is_corner_of R w ≡ true → Within (length walk + 3 * w.x) (height R numbers w))
          → Within (length walk + 3 * v.x) (height R numbers v)
      go (inl begins) ih = at_boundary v begins
      go (inr inner) ih = let (w, left) = inner-left R v inner in from_left v w left (ih w (earlier R.kind v.x w.x n left.column h) left.of_region)

  pub heights-within : (v : Corner) → is_corner_of R v ≡ true → Within (length walk + 3 * v.x) (height R numbers v)
  heights-within v e = within v.x v (omega arith) e

-- ---- the circuit is no longer than four times the number of cells

sides-length : (k : Kind) (a : Cell) → length (sides k a) ≤ 4
sides-length k a = go k (sym (length-map (sides k a) step_along) ∙ length-round k a)
  where
    go : (k' : Kind) → length (sides k a) ≡ rise k' → length (sides k a) ≤ 4
    go Square e = omega (arith, e)
    go Triangle e = omega (arith, e)

all-length : (k : Kind) (cells : List Cell) → length (flat_map (sides k) cells) ≤ 4 * length cells
all-length k [] = omega arith
all-length k (a ∷ cells) = omega (arith, length-append (sides k a) (flat_map (sides k) cells), sides-length k a, all-length k cells)

circuit-short : (R : Region) → Accepted R → (walk : List Side) → IsCircuit R walk → length walk ≤ 4 * cell_count R
circuit-short R accepted walk c =
    let once : Distinct R.cells = Distinct-cells R accepted.placed in
    let all : length (without side_eq walk (boundary R)) + length walk ≤ length (boundary R) =
    length-without side_eq side_eq-same side_eq-refl walk (boundary R) (Distinct-walk R once walk c) (λ s i. walk-boundary R once walk c s i) in
    let sides : length (boundary R) ≤ length (all_sides R) = length-filter_le side_eq side_eq-same side_eq-refl (is_boundary R) (all_sides R) in
    omega (arith, all, sides, all-length R.kind R.cells)

-- lawful heights are between -n and n, for n four times the number of cells and three times the column
pub heights-small : (R : Region) (numbers : List ℤ) → Accepted R → AreLawful R numbers → (v : Corner) → IsTrue (is_corner_of R v)
    → Within (4 * cell_count R + 3 * v.x) (height R numbers v)
heights-small R numbers accepted lawful v e = go accepted.circuit
  where
    go : (walk : List Side) × IsCircuit R walk → Within (4 * cell_count R + 3 * v.x) (height R numbers v)
    go (walk, c) =
        within-more (length walk + 3 * v.x) (4 * cell_count R + 3 * v.x) (height R numbers v) (longer (circuit-short R accepted walk c))
        (heights-within R numbers accepted lawful walk c v e)
      where
        longer : length walk ≤ 4 * cell_count R → length walk + 3 * v.x ≤ 4 * cell_count R + 3 * v.x
        longer h = omega (arith, h)
