-- The corner places of a region: their order, and that the ends of its sides are among them.
use Rattle.std.proofs.Common.{◌≡◌, ℕ, zero, suc, ◌+◌, ◌<◌, ◌≤◌, ◌⊎◌, inl, inr, true, List, map, refl, sym, ap, arith}
use Rattle.std.specs.Prelude.{flat_map}
use Rattle.std.specs.List.{range_with_len}
use Rattle.tl_definitions.specs.declared.Corner.{Corner}
use Rattle.tl_definitions.specs.Lattice.{corner, corner_lt, is_corner}
use Rattle.tl_definitions.specs.Region.{Region, corner_places}
use Rattle.tl_lists.specs.Lists.{upto, linked}
use Rattle.tl_lists.proofs.Members.{In, In-map, In-filter, In-flat_map, In-append_cases, In-range}
use Rattle.tl_lists.proofs.Orders.{linked-cons, linked-append, linked-filter}
use Rattle.tl_definitions.proofs.Corners.{corner_lt-from, corner_lt-irreflexive, corner_lt-transitive}

-- ---- raster order

abbrev row : ℕ → ℕ → ℕ → List Corner
row r s n = map (λ x. corner r x) (range_with_len s n)

row-corner : (v : Corner) (r s n : ℕ) → In v (row r s n) → (v.r ≡ r) × (s ≤ v.x)
row-corner v r s zero i = absurd i
row-corner v r s (suc n) (inl e) = (ap (λ (u : Corner). u.r) e, omega (arith, ap (λ (u : Corner). u.x) e))
row-corner v r s (suc n) (inr i) = let p = row-corner v r (s + 1) n i in (p.0, omega (arith, p.1))

row-linked : (r s n : ℕ) → linked corner_lt (row r s n) ≡ true
row-linked r s zero = refl
row-linked r s (suc n) =
    linked-cons corner_lt corner_lt-irreflexive corner_lt-transitive (corner r s) (row r (s + 1) n)
    (λ z i. let p = row-corner z r (s + 1) n i in corner_lt-from (corner r s) z (inr (sym p.0, omega (arith, p.1))))
    (row-linked r (s + 1) n)

abbrev rows : ℕ → ℕ → ℕ → List Corner
rows width r n = flat_map (λ r. row r 0 width) (range_with_len r n)

rows-corner : (v : Corner) (width r n : ℕ) → In v (rows width r n) → r ≤ v.r
rows-corner v width r zero i = absurd i
rows-corner v width r (suc n) i = go (In-append_cases v (row r 0 width) (rows width (r + 1) n) i) (rows-corner v width (r + 1) n)
  where
    go : In v (row r 0 width) ⊎ In v (rows width (r + 1) n) → (In v (rows width (r + 1) n) → r + 1 ≤ v.r) → r ≤ v.r
    go (inl j) ih = omega (arith, (row-corner v r 0 width j).0)
    go (inr j) ih = omega (arith, ih j)

rows-linked : (width r n : ℕ) → linked corner_lt (rows width r n) ≡ true
rows-linked width r zero = refl
rows-linked width r (suc n) =
    linked-append corner_lt corner_lt-irreflexive corner_lt-transitive (row r 0 width) (rows width (r + 1) n)
    (row-linked r 0 width) (rows-linked width (r + 1) n)
    (λ x y i j. corner_lt-from x y (inl (omega (arith, (row-corner x r 0 width i).0, rows-corner y width (r + 1) n j))))

-- the corner places stand in raster order
pub corner_places-linked : (R : Region) → linked corner_lt (corner_places R) ≡ true
corner_places-linked R =
    linked-filter corner_lt corner_lt-irreflexive corner_lt-transitive (is_corner R.kind) (rows (R.columns + 2) 0 (R.rows + 1)) (rows-linked (R.columns + 2) 0 (R.rows + 1))

-- ---- which they are

pub In-corner_places : (R : Region) (v : Corner) → is_corner R.kind v ≡ true → v.r < R.rows + 1 → v.x < R.columns + 2 → In v (corner_places R)
In-corner_places R v c h k =
    In-filter (is_corner R.kind) v (rows (R.columns + 2) 0 (R.rows + 1)) c
    (In-flat_map (λ r. row r 0 (R.columns + 2)) v v.r (upto (R.rows + 1)) (In-range v.r 0 (R.rows + 1) (omega arith) (omega (arith, h)))
    (In-map (λ x. corner v.r x) v.x (upto (R.columns + 2)) (In-range v.x 0 (R.columns + 2) (omega arith) (omega (arith, k)))))
