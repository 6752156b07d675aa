-- The heights of a tiling one by one, in raster order: 0 where no cell has a corner, the prefixes on the boundary, and
-- at an inner corner the height of its left neighbour and a rise that the two cells between them tell.
use Rattle.std.proofs.Common.{w32, ◌≡◌, ℕ, ◌+◌, ◌-◌, ◌*◌, ◌%◌, ◌^◌, ◌<◌, ◌≤◌, ◌⊎◌, inl, inr, Bool, true, false, not, List, [], ◌∷◌, ◌++◌, length, take, filter, cond, Option, Some, refl, sym, ◌∙◌, ap, subst, arith, eqb, ℤ, pos, negsuc, ◌+ℤ◌, neg_ℤ, ◌≤ℤ◌}
use Rattle.std.specs.Prelude.{◌==◌, slice_get, option_map, FitsSigned, IsTrue, IsFalse}
use Rattle.std.specs.List.{list_any}
use Rattle.std.proofs.Math.Numerals.{add-one}
use Rattle.std.proofs.Math.Nat.{mul-le-mul}
use Rattle.std.proofs.Math.Seq.{take-suc}
use Rattle.std.proofs.lemmas.Int.{ints}
use Rattle.std.proofs.lemmas.Nat.{mul-add-lt}
use Rattle.std.proofs.lemmas.Option.{slice_get-get_or}
use Rattle.std.proofs.lemmas.Bool.{and_parts, eqb-true, eqb-false}
use Rattle.std.proofs.lemmas.List.Sums.{length-filter, count_by-le-length}
use Rattle.tl_definitions.specs.declared.Kind.{Kind}
use Rattle.tl_definitions.specs.declared.Kind.TheVariants.{Square, Triangle}
use Rattle.tl_definitions.specs.declared.Cell.{Cell}
use Rattle.tl_definitions.specs.declared.Corner.{Corner}
use Rattle.tl_definitions.specs.declared.Tile.{Tile}
use Rattle.tl_definitions.specs.Lattice.{cell, corner, cell_eq, corner_eq, is_cell, is_corner, is_dark, Side, side, sides, rise, cell_width}
use Rattle.tl_definitions.specs.Region.{Region, has, places, is_inner, is_corner_of}
use Rattle.tl_definitions.specs.Accepted.{Accepted, IsCircuit, IsPlaced, circuit_corners, cell_count}
use Rattle.tl_definitions.specs.Tiling.{covers, is_tiling, other_cell, partner}
use Rattle.tl_definitions.specs.Obstruction.{prefix}
use Rattle.tl_definitions.specs.Heights.{height, height_count, AreHeights, AreHeightsOf}
use Rattle.tl_definitions.proofs.Regions.{length-places}
use Rattle.tl_definitions.proofs.Cells.{cell_eq-same, cell-same, cell_eq-refl}
use Rattle.tl_lists.proofs.Tests.{same_test}
use Rattle.tl_lists.proofs.Members.{In, In-map}
use Rattle.tl_lists.proofs.Counts.{Only}
use Rattle.tl_lists.proofs.Searches.{find-only}
use Rattle.tl_definitions.proofs.Tilings.{TilingParts, tiling-parts}
use Rattle.tl_closing.specs.Closing.{step_along, steps_round}
use Rattle.tl_closing.proofs.Sides.{directed, dark-from, light-from}
use Rattle.tl_closing.proofs.Centres.{cell-two}
use Rattle.tl_closing.proofs.Edges.{Step, In-has, round-step, is_step-from}
use Rattle.tl_closing.proofs.Crossed.{covers-cases, covers-from, IsAcross, is_crossed, crossed-from, crossed-parts}
use Rattle.tl_closing.proofs.Heights.{heights-lawful}
use Rattle.tl_closing.proofs.Standing.{side_ends}
use Rattle.tl_closing.proofs.OnCircuit.{on_circuit-inner}
use Rattle.tl_closing.proofs.Ring.{HasBack, HasRing, inner-ring, among-up, among-down}
use Rattle.tl_closing.proofs.Bounds.{Within, heights-small}
use Rattle.tl_definitions.specs.declared.TheConstants.{SIDE_LIMIT}
use Rattle.tl_definitions.specs.Limits.{most_cells}

-- ---- places

-- where the number of a corner stands
abbrev pub place : Region → Corner → ℕ
place R v = v.r * (R.columns + 2) + v.x

-- The numbers up to a corner's are those before it and its height.
pub record StandsAt (R : Region) (numbers : List ℤ) (v : Corner) : Type 0 where
  pub count : length numbers ≡ height_count R
  pub below : place R v < height_count R
  pub there : slice_get numbers (place R v) ≡ Some (height R numbers v)
  pub more : take (place R v + 1) numbers ≡ take (place R v) numbers ++ (height R numbers v ∷ [])

pub fill-place : (R : Region) (numbers : List ℤ) → AreHeightsOf R numbers → (v : Corner) → v.r < R.rows + 1 → v.x < R.columns + 2 → StandsAt R numbers v
fill-place R numbers h v row column = record {
  count = h.count;
  below = below;
  there = slice_get-get_or numbers (place R v) (pos 0) inside;
  more = ap (λ (n : ℕ). take n numbers) (add-one (place R v)) ∙ take-suc numbers (place R v) (pos 0) inside;
}
  where
    below : place R v < height_count R
    below =
        let turned : v.r * (R.columns + 2) + v.x < (R.columns + 2) * (R.rows + 1) = mul-add-lt v.r (R.columns + 2) v.x (R.rows + 1) row column in
        grind (arith, turned)

    inside : place R v < length numbers
    inside = subst (λ (n : ℕ). place R v < n) (sym h.count) below

-- ---- the two cells between a corner and its left neighbour

abbrev pub left_corner : Kind → Corner → Corner
left_corner k v = corner v.r (v.x - cell_width k)

abbrev pub upper_cell : Kind → Corner → Cell
upper_cell k v = cell (v.r - 1) (v.x - cell_width k)

abbrev pub lower_cell : Kind → Corner → Cell
lower_cell k v = cell v.r (v.x - cell_width k)

-- whether the directed step between the two corners leads to the right
abbrev pub leads_right : Kind → Corner → Bool
leads_right Square v = (v.r + v.x) % 2 == 0
leads_right Triangle v = true

-- along this step the height falls where the two cells share a tile
abbrev pub climb_between : Region → List Tile → Corner → ℤ
climb_between R A v = cond (is_cell (lower_cell R.kind v) (partner A (upper_cell R.kind v))) (negsuc (rise R.kind - 2)) (pos 1)

abbrev pub rise_from_left : Region → List Tile → Corner → ℤ
rise_from_left R A v = cond (leads_right R.kind v) (climb_between R A v) (neg_ℤ (climb_between R A v))

-- ---- a tile of two cells crosses their common step

other-first : (t : Tile) (a : Cell) → a ≡ t.first → other_cell t a ≡ t.second
other-first t a e = rw (subst (λ (x : Cell). cell_eq t.first x ≡ true) (sym e) (cell_eq-refl t.first)) refl

other-second : (t : Tile) (a : Cell) → (t.first ≡ t.second → ⊥) → a ≡ t.second → other_cell t a ≡ t.first
other-second t a differ e = go (cell_eq t.first a) refl
  where
    go : (s : Bool) → cell_eq t.first a ≡ s → cond s t.second t.first ≡ t.first
    go true f = absurd (differ (cell_eq-same t.first a f ∙ e))
    go false f = refl

module _ (R : Region) (A : List Tile) (tiling : TilingParts R A) where
  -- two cells of the region with a common step share a tile where a tile crosses the step
  partner-crossed : (a b : Cell) (e : Step) → In a R.cells → (a ≡ b → ⊥) → In e (steps_round R.kind a) → In e (steps_round R.kind b)
      → is_crossed R A e ≡ is_cell b (partner A a)
  partner-crossed a b e a_in differ i j = with_tile (tiling.covered a a_in)
    where
      with_tile : (t : Tile) × Only (λ s. covers s a) A t → is_crossed R A e ≡ is_cell b (partner A a)
      with_tile (t, o) = same_test _ _ to from ∙ ap (is_cell b) (sym its_partner)
        where
          apart : t.first ≡ t.second → ⊥
          apart = (tiling.tiles t o.inside).differ

          its_partner : partner A a ≡ Some (other_cell t a)
          its_partner = ap (λ (x : Option Tile). option_map (λ s. other_cell s a) x) (find-only (λ s. covers s a) A t o.inside o.passes o.only)

          other : (a ≡ t.first) ⊎ (a ≡ t.second) → (b ≡ t.first) ⊎ (b ≡ t.second) → b ≡ other_cell t a
          other (inl p) (inl q) = absurd (differ (p ∙ sym q))
          other (inl p) (inr q) = q ∙ sym (other-first t a p)
          other (inr p) (inl q) = q ∙ sym (other-second t a apart p)
          other (inr p) (inr q) = absurd (differ (p ∙ sym q))

          found : (s : Tile) × In s A × IsAcross R s e → cell_eq b (other_cell t a) ≡ true
          found (s, k, (m, n)) =
              let d : s.first ≡ s.second → ⊥ = (tiling.tiles s k).differ in
              let its : s ≡ t = o.only s k (covers-from s a (cell-two R.kind s.first s.second a e d m n i)) in
              let beside : (b ≡ t.first) ⊎ (b ≡ t.second) =
              subst (λ (x : Tile). (b ≡ x.first) ⊎ (b ≡ x.second)) its (cell-two R.kind s.first s.second b e d m n j) in
              subst (λ (x : Cell). cell_eq b x ≡ true) (other (covers-cases t a o.passes) beside) (cell_eq-refl b)

          to : is_crossed R A e ≡ true → cell_eq b (other_cell t a) ≡ true
          to h = found (crossed-parts R A e (round-step R.kind a e i) h)

          across : (a ≡ t.first) ⊎ (a ≡ t.second) → b ≡ other_cell t a → IsAcross R t e
          across (inl p) q = (
            subst (λ (x : Cell). In e (steps_round R.kind x)) p i,
            subst (λ (x : Cell). In e (steps_round R.kind x)) (q ∙ other-first t a p) j,
          )
          across (inr p) q = (
            subst (λ (x : Cell). In e (steps_round R.kind x)) (q ∙ other-second t a apart p) j,
            subst (λ (x : Cell). In e (steps_round R.kind x)) p i,
          )

          from : cell_eq b (other_cell t a) ≡ true → is_crossed R A e ≡ true
          from h = crossed-from R A t e o.inside (across (covers-cases t a o.passes) (cell_eq-same b (other_cell t a) h))

-- ---- an inner corner has both cells

-- the two cells, with their sides along the edge between the corners
pub record Between (k : Kind) (cells : List Cell) (v : Corner) : Type 0 where
  pub row : 1 ≤ v.r
  pub column : cell_width k ≤ v.x
  pub upper : In (upper_cell k v) cells
  pub lower : In (lower_cell k v) cells
  pub upper_side : In (side (upper_cell k v) (left_corner k v) v) (sides k (upper_cell k v))
  pub lower_side : In (side (lower_cell k v) v (left_corner k v)) (sides k (lower_cell k v))
  pub upper_colour : is_dark (upper_cell k v) ≡ leads_right k v
  pub lower_colour : is_dark (lower_cell k v) ≡ not (leads_right k v)

between-square : (cells : List Cell) (v : Corner) → HasBack cells v 1 1 → HasBack cells v 0 1 → Between Square cells v
between-square cells v (a, i, row, column) (b, j, row', column') = record {
  row = omega (arith, row);
  column = omega (arith, column);
  upper = subst (λ (x : Cell). In x cells) (cell-same a (upper_cell Square v) (omega (arith, row)) (omega (arith, column))) i;
  lower = subst (λ (x : Cell). In x cells) (cell-same b (lower_cell Square v) (omega (arith, row')) (omega (arith, column'))) j;
  upper_side = inr (inl (side_ends _ _ _ _ _ (omega (arith, row)) refl (omega (arith, row)) (omega (arith, column))));
  lower_side = inr (inr (inr (inl (side_ends _ _ _ _ _ refl (omega (arith, column)) refl refl))));
  upper_colour = ap (λ (n : ℕ). eqb n 0) (even v.r v.x row column);
  lower_colour = other (eqb ((v.r + v.x) % 2) 0) refl;
}
  where
    even : (r x : ℕ) → a.r + 1 ≡ r → a.c + 1 ≡ x → (r - 1 + (x - 1)) % 2 ≡ (r + x) % 2
    even r x p q = omega (arith, p, q)

    other : (t : Bool) → eqb ((v.r + v.x) % 2) 0 ≡ t → is_dark (lower_cell Square v) ≡ not t
    other true e = let n : (v.r + v.x) % 2 ≡ 0 = eqb-true _ _ e in light-from (lower_cell Square v) (omega (arith, n, column))
    other false e = let n : (v.r + v.x) % 2 ≡ 0 → ⊥ = eqb-false _ _ e in dark-from (lower_cell Square v) (omega (arith, n, column))

between-triangle : (cells : List Cell) (v : Corner) → (v.r + v.x) % 2 ≡ 1 → HasBack cells v 1 2 → HasBack cells v 0 2 → Between Triangle cells v
between-triangle cells v odd (a, i, row, column) (b, j, row', column') = record {
  row = omega (arith, row);
  column = omega (arith, column);
  upper = subst (λ (x : Cell). In x cells) (cell-same a (upper_cell Triangle v) (omega (arith, row)) (omega (arith, column))) i;
  lower = subst (λ (x : Cell). In x cells) (cell-same b (lower_cell Triangle v) (omega (arith, row')) (omega (arith, column'))) j;
  upper_side = among-up (upper_cell Triangle v) _ dark (inr (inl (side_ends _ _ _ _ _ (omega (arith, row)) refl (omega (arith, row)) (omega (arith, column)))));
  lower_side = among-down (lower_cell Triangle v) _ light (inr (inr (inl (side_ends _ _ _ _ _ refl (omega (arith, column)) refl refl))));
  upper_colour = dark;
  lower_colour = light;
}
  where
    dark : is_dark (upper_cell Triangle v) ≡ true
    dark = dark-from (upper_cell Triangle v) (omega (arith, odd, row, column))

    light : is_dark (lower_cell Triangle v) ≡ false
    light = light-from (lower_cell Triangle v) (omega (arith, odd, row, column))

inner-between : (R : Region) (v : Corner) → is_inner R v ≡ true → Between R.kind R.cells v
inner-between R v inner = go R.kind (and_parts _ _ inner).0 (inner-ring R v inner)
  where
    go : (k : Kind) → is_corner k v ≡ true → HasRing k R.cells v → Between k R.cells v
    go Square e (a, x, y, b) = between-square R.cells v a b
    go Triangle e (a, x, y, z, w, b) = between-triangle R.cells v (eqb-true _ _ e) a b

-- ---- a region has no more cells than places

pub cells-few : (R : Region) → IsPlaced R → cell_count R ≤ R.rows * R.columns
cells-few R placed = few R.cells placed
  where
    few : (cells : List Cell) → cells ≡ filter (has R) (places R.rows R.columns) → length cells ≤ R.rows * R.columns
    few cells e = omega (arith, ap length e, length-filter (has R) (places R.rows R.columns), count_by-le-length (has R) (places R.rows R.columns), length-places R.rows R.columns 0)

-- ---- the number at each place

-- how the height of an inner corner comes from that of its left neighbour
pub record FromLeft (R : Region) (A : List Tile) (numbers : List ℤ) (v : Corner) : Type 0 where
  pub row : 1 ≤ v.r
  pub column : cell_width R.kind ≤ v.x
  pub upper : IsTrue (has R (upper_cell R.kind v))
  pub lower : IsTrue (has R (lower_cell R.kind v))
  pub value : height R numbers v ≡ height R numbers (left_corner R.kind v) +ℤ rise_from_left R A v

module _ (R : Region) (A : List Tile) (numbers : List ℤ) (tiling : IsTrue (is_tiling R A)) (h : AreHeights R A numbers) where
  pub fill-inner : (v : Corner) → IsTrue (is_inner R v) → FromLeft R A numbers v
  fill-inner v inner = record {
    row = both.row;
    column = both.column;
    upper = In-has R a both.upper;
    lower = In-has R b both.lower;
    value = value (leads_right R.kind v) upper_step lower_step;
  }
    where
      both : Between R.kind R.cells v
      both = inner-between R v inner

      w : Corner
      w = left_corner R.kind v

      a : Cell
      a = upper_cell R.kind v

      b : Cell
      b = lower_cell R.kind v

      upper_step : In (directed (leads_right R.kind v) w v) (steps_round R.kind a)
      upper_step =
          subst (λ (t : Bool). In (directed t w v) (steps_round R.kind a)) both.upper_colour (In-map step_along (side a w v) (sides R.kind a) both.upper_side)

      lower_step : In (directed (not (leads_right R.kind v)) v w) (steps_round R.kind b)
      lower_step =
          subst (λ (t : Bool). In (directed t v w) (steps_round R.kind b)) both.lower_colour (In-map step_along (side b v w) (sides R.kind b) both.lower_side)

      apart : (r : ℕ) → 1 ≤ r → r - 1 ≡ r → ⊥
      apart r p q = omega (arith, p, q)

      climbs : (x y : Corner) → In (x, y) (steps_round R.kind a) → In (x, y) (steps_round R.kind b) → height R numbers y ≡ height R numbers x +ℤ climb_between R A v
      climbs x y i j =
          h.along x y (is_step-from R a x y both.upper i)
          ∙ ap (λ (t : Bool). height R numbers x +ℤ cond t (negsuc (rise R.kind - 2)) (pos 1))
          (partner-crossed R A (tiling-parts R A tiling) a b (x, y) both.upper (λ same. apart v.r both.row (ap (λ (c : Cell). c.r) same)) i j)

      turn : (x y c : ℤ) → x ≡ y +ℤ c → y ≡ x +ℤ neg_ℤ c
      turn x y c e = omega (arith, ints, e)

      value : (t : Bool) → In (directed t w v) (steps_round R.kind a) → In (directed (not t) v w) (steps_round R.kind b)
          → height R numbers v ≡ height R numbers w +ℤ cond t (climb_between R A v) (neg_ℤ (climb_between R A v))
      value true i j = climbs w v i j
      value false i j = turn (height R numbers w) (height R numbers v) (climb_between R A v) (climbs v w i j)

module _ (R : Region) (A : List Tile) (numbers : List ℤ) (accepted : Accepted R) (tiling : IsTrue (is_tiling R A)) (h : AreHeights R A numbers) where
  pub fill-boundary : (walk : List Side) (k : ℕ) (v : Corner) → IsCircuit R walk → slice_get (circuit_corners walk) k ≡ Some v → height R numbers v ≡ prefix walk k
  fill-boundary = (heights-lawful R A numbers accepted tiling h).boundary

  pub fill-nothing : (walk : List Side) (v : Corner) → IsCircuit R walk → v.x < R.columns + 2 → IsFalse (is_inner R v)
      → IsFalse (list_any (corner_eq v) (circuit_corners walk)) → height R numbers v ≡ pos 0
  fill-nothing walk v circuit column not_inner off = go (is_corner_of R v) refl
    where
      of_corner : is_corner_of R v ≡ true → height R numbers v ≡ pos 0
      of_corner e =
          let on : false ≡ not (is_inner R v) = sym off ∙ on_circuit-inner R accepted.placed walk circuit v e in
          cc (on, ap not not_inner)

      go : (t : Bool) → is_corner_of R v ≡ t → height R numbers v ≡ pos 0
      go true e = of_corner e
      go false e = h.heights.elsewhere v column e

  -- ---- how large the numbers are

  pub fill-range : R.rows ≤ SIDE_LIMIT → R.columns ≤ SIDE_LIMIT → (v : Corner) → v.x < R.columns + 2
      → (negsuc (2 ^ 31 - 1) ≤ℤ height R numbers v) × (height R numbers v ≤ℤ pos (2 ^ 31 - 1))
  fill-range rows columns v column = go (is_corner_of R v) refl
    where
      near : (z : ℤ) (n x : ℕ) → Within (4 * n + 3 * x) z → n ≤ most_cells → x < R.columns + 2 → (negsuc (2 ^ 31 - 1) ≤ℤ z) × (z ≤ℤ pos (2 ^ 31 - 1))
      near z n x p few l = (omega (arith, ints, p.0, p.1, few, l, columns), omega (arith, ints, p.0, p.1, few, l, columns))

      few : cell_count R ≤ most_cells
      few = let least : cell_count R ≤ R.rows * R.columns = cells-few R accepted.placed in omega (arith, least, mul-le-mul rows columns)

      zero_near : (z : ℤ) → z ≡ pos 0 → (negsuc (2 ^ 31 - 1) ≤ℤ z) × (z ≤ℤ pos (2 ^ 31 - 1))
      zero_near z e = (omega (arith, ints, e), omega (arith, ints, e))

      go : (t : Bool) → is_corner_of R v ≡ t → (negsuc (2 ^ 31 - 1) ≤ℤ height R numbers v) × (height R numbers v ≤ℤ pos (2 ^ 31 - 1))
      go true e = near (height R numbers v) (cell_count R) v.x (heights-small R numbers accepted (heights-lawful R A numbers accepted tiling h) v e) few column
      go false e = zero_near (height R numbers v) (h.heights.elsewhere v column e)

-- a value between these fits a signed number of 32 bits
pub fits-range : (z : ℤ) → (negsuc (2 ^ 31 - 1) ≤ℤ z) × (z ≤ℤ pos (2 ^ 31 - 1)) → FitsSigned w32 z
fits-range z p = omega (arith, ints, p.0, p.1)
