-- The heights of a tiling as they are filled in: the prefixes of the circuit first, then one inner corner after another.
use Rattle.std.proofs.Common.{◌≡◌, ℕ, zero, suc, ◌+◌, ◌-◌, ◌*◌, ◌^◌, ◌<◌, ◌≤◌, ◌⊎◌, inl, inr, Bool, true, false, ◌||◌, List, [], ◌∷◌, length, drop, replicate, get_or, set, Some, refl, sym, ◌∙◌, ap, subst, arith, ℤ, pos, ◌+ℤ◌}
use Rattle.std.specs.Prelude.{slice_get, IsTrue, IsFalse}
use Rattle.std.specs.List.{list_any, position_or_len}
use Rattle.std.proofs.Math.Nat.{mul-le-mul}
use Rattle.std.proofs.lemmas.Bool.{cases_Bool, cases_eq, false_from_ne_true, or_from}
use Rattle.std.proofs.lemmas.List.{drop_more, drop_all, get_or-set_same, get_or-set_other, length-replicate, length-set}
use Rattle.std.proofs.lemmas.Option.{get_or_from_slice_get, slice_get_within}
use Rattle.tl_definitions.specs.declared.Kind.{Kind}
use Rattle.tl_definitions.specs.declared.Kind.TheVariants.{Square, Triangle}
use Rattle.tl_definitions.specs.declared.Corner.{Corner}
use Rattle.tl_definitions.specs.declared.Tile.{Tile}
use Rattle.tl_definitions.specs.declared.TheConstants.{SIDE_LIMIT}
use Rattle.tl_definitions.specs.Lattice.{corner_eq, corner_lt, cell_width, Side}
use Rattle.tl_definitions.specs.Region.{Region, is_inner, inner_corners}
use Rattle.tl_definitions.specs.Accepted.{Accepted, IsCircuit, circuit_corners}
use Rattle.tl_definitions.specs.Tiling.{is_tiling}
use Rattle.tl_definitions.specs.Heights.{height, height_count, climb, AreHeights}
use Rattle.tl_definitions.specs.Obstruction.{prefix}
use Rattle.tl_lists.specs.Lists.{linked}
use Rattle.tl_lists.proofs.Distinct.{Distinct, Distinct-from}
use Rattle.tl_lists.proofs.Members.{In, In-any_of, slice_get-In}
use Rattle.tl_lists.proofs.Orders.{later, linked-tail}
use Rattle.tl_lists.proofs.Positions.{position-at}
use Rattle.tl_lists.proofs.Tests.{some_same}
use Rattle.tl_definitions.proofs.Corners.{corner_eq-same, corner_eq-refl, corner_lt-from, corner_lt-irreflexive, corner_lt-transitive, same_place}
use Rattle.tl_definitions.proofs.InnerNumbers.{any-inner_corners, inner-among, inner-at, inner_corners-linked}
use Rattle.tl_definitions.proofs.Walks.{corner-In}
use Rattle.tl_grid.specs.Grid.{IsGrid}
use Rattle.tl_closing.proofs.Stated.{circuit-corner, corner-within, fill-boundary, fill-inner, fill-nothing, has-heights, left_corner, place, step-ends}

-- ---- the inner corners that are still to come

-- whether it is an inner corner of number i or more
abbrev pub is_ahead : Region → ℕ → Corner → Bool
is_ahead R i v = list_any (corner_eq v) (drop i (inner_corners R))

drop-at : (vs : List Corner) (i : ℕ) (u : Corner) → slice_get vs i ≡ Some u → drop i vs ≡ u ∷ drop (i + 1) vs
drop-at vs i u e = drop_more vs i u (slice_get_within vs i u e) ∙ ap (λ (v : Corner). v ∷ drop (i + 1) vs) (get_or_from_slice_get vs i u u e)

linked-drop : (i : ℕ) (vs : List Corner) → linked corner_lt vs ≡ true → linked corner_lt (drop i vs) ≡ true
linked-drop zero vs l = l
linked-drop (suc i) [] l = refl
linked-drop (suc i) (v ∷ vs) l = linked-drop i vs (linked-tail corner_lt corner_lt-irreflexive corner_lt-transitive v vs l)

module _ (R : Region) (i : ℕ) (u : Corner) (e : slice_get (inner_corners R) i ≡ Some u) where
  pub ahead-next : (v : Corner) → is_ahead R i v ≡ (corner_eq v u || is_ahead R (i + 1) v)
  ahead-next v = ap (list_any (corner_eq v)) (drop-at (inner_corners R) i u e)

  -- a corner before it in raster order isn't one of them
  pub passed : (v : Corner) → corner_lt v u ≡ true → is_ahead R i v ≡ false
  passed v before = false_from_ne_true _ (λ t. go (corner-In v (u ∷ drop (i + 1) (inner_corners R)) (sym (ahead-next v) ∙ t)))
    where
      in_order : linked corner_lt (u ∷ drop (i + 1) (inner_corners R)) ≡ true
      in_order = sym (ap (linked corner_lt) (drop-at (inner_corners R) i u e)) ∙ linked-drop i (inner_corners R) (inner_corners-linked R)

      go : In v (u ∷ drop (i + 1) (inner_corners R)) → ⊥
      go (inl same) = corner_lt-irreflexive u (subst (λ (w : Corner). corner_lt w u ≡ true) same before)
      go (inr among) =
          corner_lt-irreflexive v
          (corner_lt-transitive v u v before (later corner_lt corner_lt-irreflexive corner_lt-transitive u (drop (i + 1) (inner_corners R)) v in_order among))

pub none-ahead : (R : Region) (i : ℕ) (v : Corner) → length (inner_corners R) ≤ i → is_ahead R i v ≡ false
none-ahead R i v h = ap (list_any (corner_eq v)) (drop_all i (inner_corners R) h)

-- ---- places of corners

pub place-fits : (R : Region) (v : Corner) → IsGrid R → v.r < R.rows + 1 → v.x < R.columns + 2 → (place R v < height_count R) × (height_count R < 2 ^ 32)
place-fits R v is_grid row column =
    let rows : v.r + 1 ≤ R.rows + 1 = omega arith in
    let most_rows : R.rows + 1 ≤ SIDE_LIMIT + 1 = omega (arith, is_grid.rows_within) in
    let most_columns : R.columns + 2 ≤ SIDE_LIMIT + 2 = omega (arith, is_grid.columns_within) in
    let width : R.columns + 2 ≤ R.columns + 2 = omega arith in
    (omega (arith, mul-le-mul rows width, column), omega (arith, mul-le-mul most_rows most_columns))

-- ---- the numbers of the circuit

-- The first k prefixes stand at the places of their corners, and 0 off the circuit.
pub record ArePrefixes (R : Region) (walk : List Side) (k : ℕ) (numbers : List ℤ) : Type 0 where
  pub count : length numbers ≡ height_count R
  pub on : (j : ℕ) (v : Corner) → j < k → slice_get (circuit_corners walk) j ≡ Some v → height R numbers v ≡ prefix walk j
  pub off : (v : Corner) → v.x < R.columns + 2 → IsFalse (list_any (corner_eq v) (circuit_corners walk)) → height R numbers v ≡ pos 0

pub no-prefixes : (R : Region) (walk : List Side) (numbers : List ℤ) → numbers ≡ replicate (height_count R) (pos 0) → ArePrefixes R walk 0 numbers
no-prefixes R walk numbers e = record {
  count = ap length e ∙ length-replicate (height_count R) (pos 0);
  on = λ j v h. absurd (omega (arith, h));
  off = λ v column off. ap (λ (l : List ℤ). get_or l (place R v) (pos 0)) e ∙ zeros (height_count R) (place R v);
}
  where
    zeros : (n i : ℕ) → get_or (replicate n (pos 0)) i (pos 0) ≡ pos 0
    zeros zero i = refl
    zeros (suc n) zero = refl
    zeros (suc n) (suc i) = zeros n i

number-once : {A : Type 0} (xs : List A) → Distinct xs → (i j : ℕ) (x : A) → slice_get xs i ≡ Some x → slice_get xs j ≡ Some x → i ≡ j
number-once [] once i j x e f = cc e
number-once (y ∷ ys) once zero zero x e f = refl
number-once (y ∷ ys) once zero (suc j) x e f = let same : y ≡ x = cc e in absurd (once.0 (subst (λ z. In z ys) (sym same) (slice_get-In ys j x f)))
number-once (y ∷ ys) once (suc i) zero x e f = let same : y ≡ x = cc f in absurd (once.0 (subst (λ z. In z ys) (sym same) (slice_get-In ys i x e)))
number-once (y ∷ ys) once (suc i) (suc j) x e f = ap suc (number-once ys once.1 i j x e f)

module _ (R : Region) (walk : List Side) (is_grid : IsGrid R) (circuit : IsCircuit R walk) (k : ℕ) (u : Corner) (e : slice_get (circuit_corners walk) k ≡ Some u) where
  inside : (j : ℕ) (v : Corner) → slice_get (circuit_corners walk) j ≡ Some v → (v.r < R.rows + 1) × (v.x < R.columns + 2)
  inside j v f = corner-within R v is_grid.placed (circuit-corner R walk j v is_grid.placed circuit f)

  pub prefix-place : (place R u < height_count R) × (height_count R < 2 ^ 32)
  prefix-place = let p = inside k u e in place-fits R u is_grid p.0 p.1

  -- the next prefix
  pub more-prefixes : (numbers : List ℤ) → ArePrefixes R walk k numbers → (z : ℤ) → z ≡ prefix walk k → ArePrefixes R walk (k + 1) (set numbers (place R u) z)
  more-prefixes numbers are z value = record {
    count = length-set numbers (place R u) z ∙ are.count;
    on = λ j v h f. on j v h f (cases_eq (place R v) (place R u));
    off = λ v column off.
        get_or-set_other numbers (place R u) (place R v) z (pos 0)
        (λ same. cc (off, subst (λ (w : Corner). list_any (corner_eq w) (circuit_corners walk) ≡ true) (same_place u v (R.columns + 2) (inside k u e).1 column (sym same)) u_on))
        ∙ are.off v column off;
  }
    where
      u_on : list_any (corner_eq u) (circuit_corners walk) ≡ true
      u_on = In-any_of (corner_eq u) u (circuit_corners walk) (slice_get-In (circuit_corners walk) k u e) (corner_eq-refl u)

      once : Distinct (circuit_corners walk)
      once = Distinct-from corner_eq corner_eq-refl (circuit_corners walk) circuit.once

      on : (j : ℕ) (v : Corner) → j < k + 1 → slice_get (circuit_corners walk) j ≡ Some v → (place R v ≡ place R u) ⊎ (place R v ≡ place R u → ⊥)
          → height R (set numbers (place R u) z) v ≡ prefix walk j
      on j v h f (inl same) =
          let there : u ≡ v = same_place u v (R.columns + 2) (inside k u e).1 (inside j v f).1 (sym same) in
          let number : k ≡ j = number-once (circuit_corners walk) once k j v (e ∙ ap (λ (w : Corner). Some w) there) f in
          ap (λ (n : ℕ). get_or (set numbers (place R u) z) n (pos 0)) same
          ∙ (get_or-set_same numbers (place R u) z (pos 0) (omega (arith, prefix-place.0, are.count)) ∙ (value ∙ ap (prefix walk) number))
      on j v h f (inr differ) =
          let other : j ≡ k → ⊥ = λ n. differ (ap (place R) (some_same v u (sym f ∙ (ap (slice_get (circuit_corners walk)) n ∙ e)))) in
          get_or-set_other numbers (place R u) (place R v) z (pos 0) differ ∙ are.on j v (omega (arith, h, other)) f

-- ---- the numbers that are filled in

-- They are these heights everywhere but at the inner corners of number i or more.
pub record AreFilled (R : Region) (i : ℕ) (numbers heights : List ℤ) : Type 0 where
  pub at : (v : Corner) → v.x < R.columns + 2 → is_ahead R i v ≡ false → height R numbers v ≡ height R heights v

-- The place of an inner corner, as the code has it, and of its left neighbour, whose height is there.
pub record IsNext (R : Region) (A : List Tile) (i : ℕ) (v : Corner) (numbers : List ℤ) (width back : ℕ) : Type 0 where
  pub inner : IsTrue (is_inner R v)
  pub column : v.x < R.columns + 2
  pub below : v.r * width + v.x < length numbers
  pub few : length numbers < 2 ^ 32
  pub left : back ≤ v.r * width + v.x
  pub left_below : v.r * width + v.x - back < length numbers
  pub read : (heights : List ℤ) → AreHeights R A heights → AreFilled R i numbers heights
      → get_or numbers (v.r * width + v.x - back) (pos 0) ≡ height R heights (left_corner R.kind v)

module _ (R : Region) (A : List Tile) (accepted : Accepted R) (tiling : IsTrue (is_tiling R A)) where
  pub boundary-filled : (walk : List Side) → IsCircuit R walk → (k : ℕ) → length (circuit_corners walk) ≤ k → (numbers : List ℤ) → ArePrefixes R walk k numbers → (heights : List ℤ) → AreHeights R A heights → AreFilled R 0 numbers heights
  boundary-filled walk circuit k all numbers are heights h = record { at = at }
    where
      at : (v : Corner) → v.x < R.columns + 2 → is_ahead R 0 v ≡ false → height R numbers v ≡ height R heights v
      at v column not_ahead = go (cases_Bool (list_any (corner_eq v) (circuit_corners walk)))
        where
          not_inner : is_inner R v ≡ false
          not_inner = sym (any-inner_corners R v accepted.placed) ∙ not_ahead

          go : (list_any (corner_eq v) (circuit_corners walk) ≡ true) ⊎ (list_any (corner_eq v) (circuit_corners walk) ≡ false) → height R numbers v ≡ height R heights v
          go (inl on) =
              let (u, there, same) = position-at (corner_eq v) (circuit_corners walk) on in
              let j = position_or_len (corner_eq v) (circuit_corners walk) in
              let here : slice_get (circuit_corners walk) j ≡ Some v = there ∙ ap (λ (w : Corner). Some w) (sym (corner_eq-same v u same)) in
              let below : j < length (circuit_corners walk) = slice_get_within (circuit_corners walk) j v here in
              are.on j v (omega (arith, below, all)) here ∙ sym (fill-boundary R A heights accepted tiling h walk j v circuit here)
          go (inr off) = are.off v column off ∙ sym (fill-nothing R A heights accepted tiling h walk v circuit column not_inner off)

  -- ---- the next inner corner

  module _ (is_grid : IsGrid R) (i : ℕ) (v : Corner) (e : slice_get (inner_corners R) i ≡ Some v) (numbers : List ℤ) (count : length numbers ≡ height_count R) where
    inner-lies : (place R v < length numbers) × (length numbers < 2 ^ 32) × (v.x < R.columns + 2)
    inner-lies =
        let among = inner-among R v accepted.placed (inner-at R v i e) in
        let column : v.x < R.columns + 2 = omega (arith, among.column) in
        let fits = place-fits R v is_grid (omega (arith, among.row)) column in
        (omega (arith, fits.0, count), omega (arith, fits.1, count), column)

    pub is_next : (width back : ℕ) → width ≡ R.columns + 2 → back ≡ cell_width R.kind → IsNext R A i v numbers width back
    is_next width back wide is_back = go (has-heights R A accepted tiling)
      where
        positive : (k : Kind) → 1 ≤ cell_width k
        positive Square = omega arith
        positive Triangle = omega arith

        go : (heights : List ℤ) × AreHeights R A heights × ((others : List ℤ) → AreHeights R A others → others ≡ heights) → IsNext R A i v numbers width back
        go (some, h, one) =
            let inside = inner-at R v i e in
            let left : cell_width R.kind ≤ v.x = (fill-inner R A some tiling h v inside).column in
            let before : corner_lt (left_corner R.kind v) v ≡ true = corner_lt-from (left_corner R.kind v) v (inr (refl, omega (arith, left, positive R.kind))) in
            let start : v.r * width ≡ v.r * (R.columns + 2) = ap (λ (n : ℕ). v.r * n) wide in
            record {
              inner = inside;
              column = inner-lies.2;
              below = omega (arith, inner-lies.0, start);
              few = inner-lies.1;
              left = omega (arith, left, is_back);
              left_below = omega (arith, inner-lies.0, start);
              read = λ heights q filled.
                  let at : v.r * width + v.x - back ≡ place R (left_corner R.kind v) = omega (arith, left, start, is_back) in
                  ap (λ (n : ℕ). get_or numbers n (pos 0)) at
                  ∙ filled.at (left_corner R.kind v) (omega (arith, inner-lies.2)) (passed R i v e (left_corner R.kind v) before);
            }

    -- its height is put at its place
    pub more-filled : (heights : List ℤ) → AreFilled R i numbers heights → (z : ℤ) → z ≡ height R heights v → AreFilled R (i + 1) (set numbers (place R v) z) heights
    more-filled heights filled z value = record { at = λ w column not_ahead. go w column not_ahead (cases_eq (place R w) (place R v)) }
      where
        go : (w : Corner) → w.x < R.columns + 2 → is_ahead R (i + 1) w ≡ false → (place R w ≡ place R v) ⊎ (place R w ≡ place R v → ⊥)
            → height R (set numbers (place R v) z) w ≡ height R heights w
        go w column not_ahead (inl same) =
            ap (λ (n : ℕ). get_or (set numbers (place R v) z) n (pos 0)) same
            ∙ (get_or-set_same numbers (place R v) z (pos 0) inner-lies.0 ∙ (value ∙ ap (height R heights) (same_place v w (R.columns + 2) inner-lies.2 column (sym same))))
        go w column not_ahead (inr differ) =
            get_or-set_other numbers (place R v) (place R w) z (pos 0) differ
            ∙ filled.at w column (ahead-next R i v e w ∙ or_from _ _ (false_from_ne_true _ (λ t. differ (ap (place R) (corner_eq-same w v t)))) not_ahead)

  -- all are filled in
  pub filled-heights : (i : ℕ) → length (inner_corners R) ≤ i → (numbers : List ℤ) → length numbers ≡ height_count R
      → ((heights : List ℤ) → AreHeights R A heights → AreFilled R i numbers heights) → AreHeights R A numbers
  filled-heights i all numbers count filled = go (has-heights R A accepted tiling)
    where
      go : (heights : List ℤ) × AreHeights R A heights × ((others : List ℤ) → AreHeights R A others → others ≡ heights) → AreHeights R A numbers
      go (heights, h, one) = record {
        heights = record { count = count; elsewhere = λ v column e. same v column ∙ h.heights.elsewhere v column e };
        start = λ walk v circuit e. same v (corner-within R v accepted.placed (circuit-corner R walk 0 v accepted.placed circuit e)).1 ∙ h.start walk v circuit e;
        along = λ u v e.
            let ends = step-ends R u v e in
            same v (corner-within R v accepted.placed ends.1).1
            ∙ (h.along u v e ∙ ap (λ (z : ℤ). z +ℤ climb R A u v) (sym (same u (corner-within R u accepted.placed ends.0).1)));
      }
        where
          same : (v : Corner) → v.x < R.columns + 2 → height R numbers v ≡ height R heights v
          same v column = (filled heights h).at v column (none-ahead R i v all)
