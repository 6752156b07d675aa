-- A function on the corners of a region as a list of numbers, and that the numbers are told by the heights.
use Rattle.std.proofs.Common.{◌≡◌, ℕ, ◌+◌, ◌*◌, ◌/◌, ◌%◌, ◌<◌, ◌≤◌, ◌⊎◌, inl, inr, Bool, true, false, List, map, length, get_or, cond, sym, ◌∙◌, ap, subst, arith, ℤ, pos}
use Rattle.std.specs.Prelude.{IsFalse}
use Rattle.std.specs.List.{range_with_len}
use Rattle.std.proofs.Math.Nat.{mul-le-mul_right}
use Rattle.std.proofs.lemmas.Bool.{cases_lt, cases_Bool}
use Rattle.std.proofs.lemmas.Nat.{mul-add-lt, div-mul-add, mod-mul-add, div-add-mod', mod_below}
use Rattle.std.proofs.lemmas.List.{get_or_past, get_or_default, same_lists}
use Rattle.std.proofs.lemmas.List.FromFn.{get_or-map-range_with_len, length-map-range_with_len}
use Rattle.tl_definitions.specs.declared.Cell.{Cell}
use Rattle.tl_definitions.specs.declared.Corner.{Corner}
use Rattle.tl_definitions.specs.Lattice.{corner, corners}
use Rattle.tl_definitions.specs.Region.{Region, is_corner_of}
use Rattle.tl_definitions.specs.Accepted.{IsPlaced}
use Rattle.tl_definitions.specs.Heights.{height_count, height, AreHeightsOf}
use Rattle.tl_lists.proofs.Members.{In}
use Rattle.tl_closing.proofs.Edges.{corner_of-parts, corner-near, cell-within}

-- the number at a place: the function's at a corner of the region, and 0 elsewhere
abbrev pub number_at : Region → (Corner → ℤ) → ℕ → ℤ
number_at R h i =
    cond (is_corner_of R (corner (i / (R.columns + 2)) (i % (R.columns + 2)))) (h (corner (i / (R.columns + 2)) (i % (R.columns + 2)))) (pos 0)

abbrev pub numbers_of : Region → (Corner → ℤ) → List ℤ
numbers_of R h = map (number_at R h) (range_with_len 0 (height_count R))

height-inside : (R : Region) (h : Corner → ℤ) (r x : ℕ) → r < R.rows + 1 → x < R.columns + 2
    → height R (numbers_of R h) (corner r x) ≡ cond (is_corner_of R (corner r x)) (h (corner r x)) (pos 0)
height-inside R h r x p q =
    get_or-map-range_with_len (number_at R h) 0 (height_count R) (r * (R.columns + 2) + x) (r * (R.columns + 2) + x) (pos 0) inside (omega arith)
    ∙ (ap (λ (m : ℕ). cond (is_corner_of R (corner m ((r * (R.columns + 2) + x) % (R.columns + 2)))) (h (corner m ((r * (R.columns + 2) + x) % (R.columns + 2)))) (pos 0))
    (div-mul-add r (R.columns + 2) x q)
    ∙ ap (λ (m : ℕ). cond (is_corner_of R (corner r m)) (h (corner r m)) (pos 0)) (mod-mul-add r (R.columns + 2) x q))
  where
    inside : r * (R.columns + 2) + x < height_count R
    inside =
        let below : r * (R.columns + 2) + x < (R.columns + 2) * (R.rows + 1) = mul-add-lt r (R.columns + 2) x (R.rows + 1) p q in
        grind (arith, below)

pub corner-within : (R : Region) (v : Corner) → IsPlaced R → is_corner_of R v ≡ true → (v.r < R.rows + 1) × (v.x < R.columns + 2)
corner-within R v placed e = go (corner_of-parts R v e)
  where
    go : (a : Cell) × In a R.cells × In v (corners R.kind a) → (v.r < R.rows + 1) × (v.x < R.columns + 2)
    go (a, i, j) =
        let near = corner-near R.kind a v j in
        let within : (a.r < R.rows) × (a.c < R.columns) = cell-within R placed a i in
        (omega (arith, near.0, within.0), omega (arith, near.1, within.1))

-- the list has the function's value at each corner
pub height-numbers_of : (R : Region) (h : Corner → ℤ) (v : Corner) → IsPlaced R → is_corner_of R v ≡ true → height R (numbers_of R h) v ≡ h v
height-numbers_of R h v placed e =
    let within = corner-within R v placed e in
    height-inside R h v.r v.x within.0 within.1 ∙ ap (λ (t : Bool). cond t (h v) (pos 0)) e

pub numbers_of-heights : (R : Region) (h : Corner → ℤ) → AreHeightsOf R (numbers_of R h)
numbers_of-heights R h = record { count = length-map-range_with_len (number_at R h) 0 (height_count R); elsewhere = λ v q e. go v q e (cases_lt v.r (R.rows + 1)) }
  where
    go : (v : Corner) → v.x < R.columns + 2 → IsFalse (is_corner_of R v) → (v.r < R.rows + 1) ⊎ (R.rows + 1 ≤ v.r) → height R (numbers_of R h) v ≡ pos 0
    go v q e (inl p) = height-inside R h v.r v.x p q ∙ ap (λ (t : Bool). cond t (h v) (pos 0)) e
    go v q e (inr p) =
        let rows : (R.rows + 1) * (R.columns + 2) ≤ v.r * (R.columns + 2) = mul-le-mul_right (R.columns + 2) p in
        get_or_past (numbers_of R h) (v.r * (R.columns + 2) + v.x) (pos 0)
        (past (length-map-range_with_len (number_at R h) 0 (height_count R)) rows)
      where
        past : length (numbers_of R h) ≡ height_count R → (R.rows + 1) * (R.columns + 2) ≤ v.r * (R.columns + 2) → length (numbers_of R h) ≤ v.r * (R.columns + 2) + v.x
        past l m = omega (arith, l, m)

-- two lists of heights that agree at the corners are the same
pub same-numbers : (R : Region) (ms ns : List ℤ) → AreHeightsOf R ms → AreHeightsOf R ns → ((v : Corner) → is_corner_of R v ≡ true → height R ms v ≡ height R ns v) → ms ≡ ns
same-numbers R ms ns p q same = same_lists ms ns (p.count ∙ sym q.count) each
  where
    at : (v : Corner) → v.x < R.columns + 2 → (is_corner_of R v ≡ true) ⊎ (is_corner_of R v ≡ false) → height R ms v ≡ height R ns v
    at v l (inl e) = same v e
    at v l (inr e) = p.elsewhere v l e ∙ sym (q.elsewhere v l e)

    each : (k : ℕ) (d : ℤ) → k < length ms → get_or ms k d ≡ get_or ns k d
    each k d l =
        let column : k % (R.columns + 2) < R.columns + 2 = mod_below k (R.columns + 2) (omega arith) in
        let place : k / (R.columns + 2) * (R.columns + 2) + k % (R.columns + 2) ≡ k = div-add-mod' k (R.columns + 2) in
        let v : Corner = corner (k / (R.columns + 2)) (k % (R.columns + 2)) in
        let here : get_or ms k (pos 0) ≡ get_or ns k (pos 0) =
        subst (λ (n : ℕ). get_or ms n (pos 0) ≡ get_or ns n (pos 0)) place (at v column (cases_Bool (is_corner_of R v))) in
        let shorter : k < length ns = subst (λ (n : ℕ). k < n) (p.count ∙ sym q.count) l in
        get_or_default ms k d (pos 0) l ∙ (here ∙ sym (get_or_default ns k d (pos 0) shorter))
