-- The corners of a region are a graph, and its steps those of the region.
use Rattle.std.proofs.Common.{◌≡◌, ℕ, ◌+◌, ◌*◌, ◌<◌, ◌≤◌, ◌^◌, Bool, true, false, map, refl, sym, ◌∙◌, ap, subst, arith}
use Rattle.std.specs.Prelude.{◌==◌}
use Rattle.std.specs.List.{list_any}
use Rattle.std.proofs.lemmas.Bool.{eqb-true, eq-eqb}
use Rattle.std.proofs.lemmas.Nat.{mul-add-lt, div-add-mod', div-mul-add, mod-mul-add}
use Rattle.std.proofs.Math.Nat.{mul_comm, mul-le-mul}
use Rattle.tl_lists.specs.Lists.{present}
use Rattle.tl_lists.proofs.Members.{In, In-map, In-map_parts, In-filter, In-filter_parts, any-In, In-any_of}
use Rattle.tl_definitions.specs.declared.Corner.{Corner}
use Rattle.tl_definitions.specs.declared.TheConstants.{COORDINATE_LIMIT, SIDE_LIMIT}
use Rattle.tl_definitions.specs.Lattice.{corner_eq, is_corner, steps_in, steps_out}
use Rattle.tl_definitions.specs.Region.{Region, corner_places, corner_rows, is_corner_of, is_edge, is_step, steps}
use Rattle.tl_definitions.specs.Heights.{height_count}
use Rattle.tl_definitions.proofs.Corners.{corner-same}
use Rattle.tl_definitions.proofs.Steps.{steps_in-steps_out}
use Rattle.tl_definitions.proofs.Walks.{corner-In, In-corner}
use Rattle.tl_grid.specs.Grid.{IsGrid}
use Rattle.tl_closing.proofs.Stated.{In-vertices, corner-within, step-ends}
use Rattle.tl_search.specs.Graphs.{has_step, IsGraph}
use Rattle.tl_search.proofs.Reversals.{IsGraph-reversed}
use Rattle.tl_extreme.specs.CornerGraph.{place, corner_of, steps_to, graph_of, run_of}

-- ---- places and corners

pub place-corner_of : (R : Region) (p : ℕ) → place R (corner_of R p) ≡ p
place-corner_of R p = div-add-mod' p (R.columns + 2)

pub corner_of-place_in : (R : Region) (v : Corner) → v.x < R.columns + 2 → corner_of R (place R v) ≡ v
corner_of-place_in R v h = corner-same (corner_of R (place R v)) v (div-mul-add v.r (R.columns + 2) v.x h) (mod-mul-add v.r (R.columns + 2) v.x h)

module _ (R : Region) (is_grid : IsGrid R) where
  pub corner_of-place : (v : Corner) → is_corner_of R v ≡ true → corner_of R (place R v) ≡ v
  corner_of-place v e = corner_of-place_in R v (corner-within R v is_grid.placed e).1

  pub place-within : (v : Corner) → is_corner_of R v ≡ true → place R v < height_count R
  place-within v e =
      let p = corner-within R v is_grid.placed e in
      omega (arith, mul-add-lt v.r (R.columns + 2) v.x (R.rows + 1) p.0 p.1, mul_comm (R.columns + 2) (R.rows + 1))

  pub few-places : height_count R ≤ 2 ^ 29
  few-places =
      let rows = is_grid.rows_within in
      let columns = is_grid.columns_within in
      let row_room : R.rows + 1 ≤ SIDE_LIMIT + 1 = omega (arith, rows) in
      let column_room : R.columns + 2 ≤ SIDE_LIMIT + 2 = omega (arith, columns) in
      omega (arith, mul-le-mul row_room column_room)

  pub place-small : (v : Corner) → is_corner_of R v ≡ true → place R v < 2 ^ 29
  place-small v e = omega (arith, place-within v e, few-places)

  pub place-small_by : (v : Corner) (width : ℕ) → width ≡ R.columns + 2 → is_corner_of R v ≡ true → v.r * width + v.x < 2 ^ 29
  place-small_by v width wide e = subst (λ (n : ℕ). v.r * n + v.x < 2 ^ 29) (sym wide) (place-small v e)

  -- a corner of the region is one of the lattice, and its coordinates are small
  pub corner-lattice : (v : Corner) → is_corner_of R v ≡ true → is_corner R.kind v ≡ true
  corner-lattice v e =
      let among = In-filter_parts (is_corner_of R) v (corner_places R) (In-vertices R is_grid.placed v e) in
      (In-filter_parts (is_corner R.kind) v (corner_rows (R.columns + 2) (R.rows + 1)) among.0).1

  pub corner-small : (v : Corner) → is_corner_of R v ≡ true → (v.r ≤ COORDINATE_LIMIT) × (v.x ≤ COORDINATE_LIMIT)
  corner-small v e =
      let p = corner-within R v is_grid.placed e in
      (omega (arith, p.0, is_grid.rows_within), omega (arith, p.1, is_grid.columns_within))

  -- ---- steps

  pub step-has : (u w : Corner) → is_step R u w ≡ true → has_step (graph_of R).steps (place R u) (place R w) ≡ true
  step-has u w e =
      let ends = step-ends R u w e in
      let among : In w (steps R u) = corner-In w (steps R u) e in
      let here : In w (steps R (corner_of R (place R u))) = subst (λ (v : Corner). In w (steps R v)) (sym (corner_of-place u ends.0)) among in
      In-any_of (λ p. p == place R w) (place R w) (map (place R) (steps R (corner_of R (place R u)))) (In-map (place R) w _ here) (eq-eqb (place R w) (place R w) refl)

  pub has-step : (p q : ℕ) → has_step (graph_of R).steps p q ≡ true → is_step R (corner_of R p) (corner_of R q) ≡ true
  has-step p q e =
      let (x, among, same) = any-In (λ p. p == q) (map (place R) (steps R (corner_of R p))) e in
      let (w, is_step, is_place) = In-map_parts (place R) x (steps R (corner_of R p)) among in
      let step = In-corner w (steps R (corner_of R p)) is_step in
      let ends = step-ends R (corner_of R p) w step in
      let back : w ≡ corner_of R q = sym (corner_of-place w ends.1) ∙ ap (corner_of R) (sym is_place ∙ eqb-true x q same) in
      subst (λ (v : Corner). list_any (corner_eq v) (steps R (corner_of R p)) ≡ true) back step

  -- a step to a corner comes from one of its table
  comes-from : (u w : Corner) → is_step R u w ≡ true → In u (steps_to R w)
  comes-from u w e =
      let parts = In-filter_parts (is_edge R u) w (present (steps_out R.kind u)) (corner-In w (steps R u) e) in
      let out = In-corner w (present (steps_out R.kind u)) parts.0 in
      let among = corner-In u (present (steps_in R.kind w)) (steps_in-steps_out R.kind u w ∙ out) in
      In-filter (λ u. is_step R u w) u (present (steps_in R.kind w)) e among

  pub step-has_back : (u w : Corner) → is_step R u w ≡ true → has_step (graph_of R).back (place R w) (place R u) ≡ true
  step-has_back u w e =
      let ends = step-ends R u w e in
      let here : In u (steps_to R (corner_of R (place R w))) = subst (λ (v : Corner). In u (steps_to R v)) (sym (corner_of-place w ends.1)) (comes-from u w e) in
      In-any_of (λ p. p == place R u) (place R u) (map (place R) (steps_to R (corner_of R (place R w)))) (In-map (place R) u _ here) (eq-eqb (place R u) (place R u) refl)

  pub has_back-step : (p q : ℕ) → has_step (graph_of R).back p q ≡ true → is_step R (corner_of R q) (corner_of R p) ≡ true
  has_back-step p q e =
      let (x, among, same) = any-In (λ p. p == q) (map (place R) (steps_to R (corner_of R p))) e in
      let (u, comes, is_place) = In-map_parts (place R) x (steps_to R (corner_of R p)) among in
      let step = (In-filter_parts (λ u. is_step R u (corner_of R p)) u (present (steps_in R.kind (corner_of R p))) comes).1 in
      let ends = step-ends R u (corner_of R p) step in
      let back : u ≡ corner_of R q = sym (corner_of-place u ends.0) ∙ ap (corner_of R) (sym is_place ∙ eqb-true x q same) in
      subst (λ (v : Corner). is_step R v (corner_of R p) ≡ true) back step

  pub corner-graph : IsGraph (graph_of R)
  corner-graph =
      record {
        few = few-places;
        inside = λ p e. subst (λ (n : ℕ). n < height_count R) (place-corner_of R p) (place-within (corner_of R p) e);
        to_places = λ p q on e. (step-ends R (corner_of R p) (corner_of R q) (has-step p q e)).1;
        from_places = λ p q on e. (step-ends R (corner_of R p) (corner_of R q) (has_back-step q p e)).0;
        goes_back = λ p q on e. same_places q p (λ p q. has_step (graph_of R).back p q ≡ true) (step-has_back (corner_of R p) (corner_of R q) (has-step p q e));
        comes_from = λ p q on e. same_places p q (λ p q. has_step (graph_of R).steps p q ≡ true) (step-has (corner_of R p) (corner_of R q) (has_back-step q p e));
      }
    where
      same_places : (p q : ℕ) (P : ℕ → ℕ → Type 0) → P (place R (corner_of R p)) (place R (corner_of R q)) → P p q
      same_places p q P h =
          subst (λ (n : ℕ). P p n) (place-corner_of R q) (subst (λ (n : ℕ). P n (place R (corner_of R q))) (place-corner_of R p) h)

-- ---- either way

-- the graph of the region, or the one with its steps turned round; and its steps
abbrev pub StepBy : Bool → Region → Corner → Corner → Type 0
StepBy false R u v = is_step R u v ≡ true
StepBy true R u v = is_step R v u ≡ true

module _ (R : Region) (is_grid : IsGrid R) where
  pub run-graph : (negated : Bool) → IsGraph (run_of negated R)
  run-graph false = corner-graph R is_grid
  run-graph true = IsGraph-reversed (graph_of R) (corner-graph R is_grid)

  pub run-step : (negated : Bool) (p q : ℕ) → has_step (run_of negated R).steps p q ≡ true → StepBy negated R (corner_of R p) (corner_of R q)
  run-step false p q e = has-step R is_grid p q e
  run-step true p q e = has_back-step R is_grid p q e

  pub step-runs : (negated : Bool) (u v : Corner) → StepBy negated R u v → has_step (run_of negated R).steps (place R u) (place R v) ≡ true
  step-runs false u v e = step-has R is_grid u v e
  step-runs true u v e = step-has_back R is_grid v u e
