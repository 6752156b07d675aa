-- Lawful heights that are filled in over others: one inner corner after another, in raster order.
use Rattle.std.proofs.Common.{◌≡◌, ℕ, zero, suc, ◌+◌, ◌-◌, ◌*◌, ◌^◌, ◌<◌, ◌≤◌, ◌⊎◌, inl, inr, Bool, true, false, not, ◌||◌, List, [], ◌∷◌, length, drop, get_or, set, Some, refl, sym, ◌∙◌, ap, subst, arith, ℤ, pos}
use Rattle.std.specs.Prelude.{slice_get, IsTrue}
use Rattle.std.specs.List.{list_any}
use Rattle.std.proofs.Math.Nat.{mul-le-mul}
use Rattle.std.proofs.lemmas.Bool.{cases_Bool, cases_eq, false_from_ne_true, or_from}
use Rattle.std.proofs.lemmas.List.{drop_more, drop_all, get_or-set_same, get_or-set_other}
use Rattle.std.proofs.lemmas.Option.{get_or_from_slice_get, slice_get_within}
use Rattle.tl_definitions.specs.declared.Kind.{Kind}
use Rattle.tl_definitions.specs.declared.Kind.TheVariants.{Square, Triangle}
use Rattle.tl_definitions.specs.declared.Corner.{Corner}
use Rattle.tl_definitions.specs.declared.TheConstants.{SIDE_LIMIT}
use Rattle.tl_definitions.specs.Lattice.{corner_eq, corner_lt, cell_width, Side}
use Rattle.tl_definitions.specs.Region.{Region, is_corner_of, is_inner, inner_corners}
use Rattle.tl_definitions.specs.Accepted.{Accepted, IsCircuit, circuit_corners}
use Rattle.tl_definitions.specs.Heights.{height, height_count, AreHeightsOf, AreLawful}
use Rattle.tl_definitions.proofs.Corners.{corner_eq-same, corner_lt-from, corner_lt-irreflexive, corner_lt-transitive, same_place}
use Rattle.tl_definitions.proofs.InnerNumbers.{any-inner_corners, inner-among, inner-at, inner_corners-linked}
use Rattle.tl_definitions.proofs.Walks.{corner-In}
use Rattle.tl_lists.specs.Lists.{linked}
use Rattle.tl_lists.proofs.Members.{In, In-map_parts, In-slice_get}
use Rattle.tl_lists.proofs.Orders.{later, linked-tail}
use Rattle.tl_grid.specs.Grid.{IsGrid}
use Rattle.tl_closing.proofs.Stated.{corner-within, left_corner, on_circuit-inner, place, same-numbers}
use Rattle.tl_pack.proofs.Left.{left-within}

-- ---- the inner corners that are still to come

-- whether it is an inner corner of number i or more
abbrev pub is_ahead : Region → ℕ → Corner → Bool
is_ahead R i v = list_any (corner_eq v) (drop i (inner_corners R))

drop-at : (vs : List Corner) (i : ℕ) (u : Corner) → slice_get vs i ≡ Some u → drop i vs ≡ u ∷ drop (i + 1) vs
drop-at vs i u e = drop_more vs i u (slice_get_within vs i u e) ∙ ap (λ (v : Corner). v ∷ drop (i + 1) vs) (get_or_from_slice_get vs i u u e)

linked-drop : (i : ℕ) (vs : List Corner) → linked corner_lt vs ≡ true → linked corner_lt (drop i vs) ≡ true
linked-drop zero vs l = l
linked-drop (suc i) [] l = refl
linked-drop (suc i) (v ∷ vs) l = linked-drop i vs (linked-tail corner_lt corner_lt-irreflexive corner_lt-transitive v vs l)

module _ (R : Region) (i : ℕ) (u : Corner) (e : slice_get (inner_corners R) i ≡ Some u) where
  ahead-next : (v : Corner) → is_ahead R i v ≡ (corner_eq v u || is_ahead R (i + 1) v)
  ahead-next v = ap (list_any (corner_eq v)) (drop-at (inner_corners R) i u e)

  -- a corner before it in raster order isn't one of them
  passed : (v : Corner) → corner_lt v u ≡ true → is_ahead R i v ≡ false
  passed v before = false_from_ne_true _ (λ t. go (corner-In v (u ∷ drop (i + 1) (inner_corners R)) (sym (ahead-next v) ∙ t)))
    where
      in_order : linked corner_lt (u ∷ drop (i + 1) (inner_corners R)) ≡ true
      in_order = sym (ap (linked corner_lt) (drop-at (inner_corners R) i u e)) ∙ linked-drop i (inner_corners R) (inner_corners-linked R)

      go : In v (u ∷ drop (i + 1) (inner_corners R)) → ⊥
      go (inl same) = corner_lt-irreflexive u (subst (λ (w : Corner). corner_lt w u ≡ true) same before)
      go (inr among) =
          corner_lt-irreflexive v
          (corner_lt-transitive v u v before (later corner_lt corner_lt-irreflexive corner_lt-transitive u (drop (i + 1) (inner_corners R)) v in_order among))

none-ahead : (R : Region) (i : ℕ) (v : Corner) → length (inner_corners R) ≤ i → is_ahead R i v ≡ false
none-ahead R i v h = ap (list_any (corner_eq v)) (drop_all i (inner_corners R) h)

-- ---- the numbers that are filled in

-- They are these heights everywhere but at the inner corners of number i or more.
pub record AreFilled (R : Region) (i : ℕ) (heights numbers : List ℤ) : Type 0 where
  pub at : (v : Corner) → v.x < R.columns + 2 → is_ahead R i v ≡ false → height R numbers v ≡ height R heights v

-- The place of an inner corner, as the code has it, and of its left neighbour, whose height is there.
pub record IsNext (R : Region) (i : ℕ) (v : Corner) (numbers : List ℤ) (width back : ℕ) : Type 0 where
  pub inner : IsTrue (is_inner R v)
  pub row : v.r < R.rows
  pub column : v.x < R.columns + 2
  pub below : v.r * width + v.x < length numbers
  pub few : length numbers < 2 ^ 32
  pub left : back ≤ v.r * width + v.x
  pub left_below : v.r * width + v.x - back < length numbers
  pub read : (heights : List ℤ) → AreFilled R i heights numbers
      → get_or numbers (v.r * width + v.x - back) (pos 0) ≡ height R heights (left_corner R.kind v)

module _ (R : Region) (accepted : Accepted R) where
  -- lawful heights are the same on the circuit
  pub boundary-filled : (numbers heights : List ℤ) → AreLawful R numbers → AreLawful R heights → AreFilled R 0 heights numbers
  boundary-filled numbers heights lawful other = record { at = λ v column not_ahead. go v column (sym (any-inner_corners R v accepted.placed) ∙ not_ahead) (cases_Bool (is_corner_of R v)) }
    where
      circuit-same : (walk : List Side) → IsCircuit R walk → (v : Corner) → list_any (corner_eq v) (circuit_corners walk) ≡ true → height R numbers v ≡ height R heights v
      circuit-same walk circuit v on = find (In-map_parts (λ (s : Side). s.from) v walk (corner-In v (circuit_corners walk) on))
        where
          at : (s : Side) → v ≡ s.from → (k : ℕ) × (slice_get (circuit_corners walk) k ≡ Some s.from) → height R numbers v ≡ height R heights v
          at s same (k, e) =
              let here : slice_get (circuit_corners walk) k ≡ Some v = e ∙ ap (λ (u : Corner). Some u) (sym same) in
              lawful.boundary walk k v circuit here ∙ sym (other.boundary walk k v circuit here)

          find : (s : Side) × In s walk × (v ≡ s.from) → height R numbers v ≡ height R heights v
          find (s, i, same) = at s same (In-slice_get (λ (s : Side). s.from) s walk i)

      go : (v : Corner) → v.x < R.columns + 2 → is_inner R v ≡ false → (is_corner_of R v ≡ true) ⊎ (is_corner_of R v ≡ false) → height R numbers v ≡ height R heights v
      go v column outer (inl of_region) =
          let (walk, circuit) = accepted.circuit in
          circuit-same walk circuit v (on_circuit-inner R accepted.placed walk circuit v of_region ∙ ap not outer)
      go v column outer (inr none) = lawful.heights.elsewhere v column none ∙ sym (other.heights.elsewhere v column none)

  -- ---- the next inner corner

  module _ (is_grid : IsGrid R) (i : ℕ) (v : Corner) (e : slice_get (inner_corners R) i ≡ Some v) (numbers : List ℤ) (count : length numbers ≡ height_count R) where
    inner-lies : (place R v < length numbers) × (length numbers < 2 ^ 32) × (v.x < R.columns + 2)
    inner-lies =
        let among = inner-among R v accepted.placed (inner-at R v i e) in
        let rows : v.r + 1 ≤ R.rows + 1 = omega (arith, among.row) in
        let most_rows : R.rows + 1 ≤ SIDE_LIMIT + 1 = omega (arith, is_grid.rows_within) in
        let most_columns : R.columns + 2 ≤ SIDE_LIMIT + 2 = omega (arith, is_grid.columns_within) in
        let width : R.columns + 2 ≤ R.columns + 2 = omega arith in
        (omega (arith, count, mul-le-mul rows width, among.column), omega (arith, count, mul-le-mul most_rows most_columns), omega (arith, among.column))

    pub is_next : (width back : ℕ) → width ≡ R.columns + 2 → back ≡ cell_width R.kind → IsNext R i v numbers width back
    is_next width back wide is_back =
        let inside = inner-at R v i e in
        let left : cell_width R.kind ≤ v.x = (left-within R v inside).0 in
        let before : corner_lt (left_corner R.kind v) v ≡ true = corner_lt-from (left_corner R.kind v) v (inr (refl, omega (arith, left, positive R.kind))) in
        let start : v.r * width ≡ v.r * (R.columns + 2) = ap (λ (n : ℕ). v.r * n) wide in
        record {
          inner = inside;
          row = (inner-among R v accepted.placed inside).row;
          column = inner-lies.2;
          below = omega (arith, inner-lies.0, start);
          few = inner-lies.1;
          left = omega (arith, left, is_back);
          left_below = omega (arith, inner-lies.0, start);
          read = λ heights filled.
              let at : v.r * width + v.x - back ≡ place R (left_corner R.kind v) = omega (arith, left, start, is_back) in
              ap (λ (n : ℕ). get_or numbers n (pos 0)) at
              ∙ filled.at (left_corner R.kind v) (omega (arith, inner-lies.2)) (passed R i v e (left_corner R.kind v) before);
        }
      where
        positive : (k : Kind) → 1 ≤ cell_width k
        positive Square = omega arith
        positive Triangle = omega arith

    -- its height is put at its place
    pub more-filled : (heights : List ℤ) → AreFilled R i heights numbers → (z : ℤ) → z ≡ height R heights v → AreFilled R (i + 1) heights (set numbers (place R v) z)
    more-filled heights filled z value = record { at = λ w column not_ahead. go w column not_ahead (cases_eq (place R w) (place R v)) }
      where
        go : (w : Corner) → w.x < R.columns + 2 → is_ahead R (i + 1) w ≡ false → (place R w ≡ place R v) ⊎ (place R w ≡ place R v → ⊥)
            → height R (set numbers (place R v) z) w ≡ height R heights w
        go w column not_ahead (inl same) =
            ap (λ (n : ℕ). get_or (set numbers (place R v) z) n (pos 0)) same
            ∙ (get_or-set_same numbers (place R v) z (pos 0) inner-lies.0 ∙ (value ∙ ap (height R heights) (same_place v w (R.columns + 2) inner-lies.2 column (sym same))))
        go w column not_ahead (inr differ) =
            get_or-set_other numbers (place R v) (place R w) z (pos 0) differ
            ∙ filled.at w column (ahead-next R i v e w ∙ or_from _ _ (false_from_ne_true _ (λ t. differ (ap (place R) (corner_eq-same w v t)))) not_ahead)

  -- all are filled in
  pub filled-heights : (i : ℕ) → length (inner_corners R) ≤ i → (numbers heights : List ℤ) → length numbers ≡ height_count R → AreLawful R heights
      → AreFilled R i heights numbers → numbers ≡ heights
  filled-heights i all numbers heights count lawful filled =
      same-numbers R numbers heights are lawful.heights (λ v of_region. at v (corner-within R v accepted.placed of_region).1)
    where
      at : (v : Corner) → v.x < R.columns + 2 → height R numbers v ≡ height R heights v
      at v column = filled.at v column (none-ahead R i v all)

      are : AreHeightsOf R numbers
      are = record { count = count; elsewhere = λ v column none. at v column ∙ lawful.heights.elsewhere v column none }
