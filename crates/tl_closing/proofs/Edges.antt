-- The corners and the edges of a region as lists: who stands in them, and how many.
use Rattle.std.proofs.Common.{◌≡◌, ℕ, ◌+◌, ◌<◌, ◌≤◌, ◌⊎◌, inl, inr, Bool, true, false, ◌&&◌, List, [], ◌∷◌, map, length, filter, flat_map, refl, sym, ◌∙◌, ap, subst, arith}
use Rattle.std.specs.Prelude.{nat_lt, IsTrue}
use Rattle.std.specs.List.{list_any}
use Rattle.std.proofs.lemmas.Bool.{and_parts, and_from, or_cases, or_left, or_right, ltb-true}
use Rattle.std.proofs.lemmas.List.{length-append, length-map}
use Rattle.tl_definitions.specs.declared.Kind.{Kind}
use Rattle.tl_definitions.specs.declared.Cell.{Cell}
use Rattle.tl_definitions.specs.declared.Corner.{Corner}
use Rattle.tl_definitions.specs.Lattice.{cell, corner, cell_eq, corner_eq, is_corner, is_dark, corners, steps_out, Side, sides}
use Rattle.tl_definitions.specs.Region.{Region, has, places, corner_places, all_sides, joins_corners, is_edge, is_corner_of, steps, is_step}
use Rattle.tl_lists.specs.Lists.{present, upto}
use Rattle.tl_definitions.specs.Accepted.{IsPlaced, HasEulerOne, edge_count, cell_count}
use Rattle.tl_definitions.proofs.Regions.{any-filter-places}
use Rattle.tl_definitions.proofs.Cells.{In-any, cell_eq-refl}
use Rattle.tl_lists.proofs.Members.{In, In-filter, In-flat_map, In-map, Each-at, In-any_of, any-In, In-flat_map_parts, In-map_parts, In-range, In-filter_parts}
use Rattle.tl_definitions.proofs.Corners.{corner_eq-same, corner_eq-refl}
use Rattle.tl_closing.specs.Closing.{step_along, steps_round}
use Rattle.tl_lists.proofs.Distinct.{Distinct, Distinct-filter, Distinct-map, Distinct-flat_map, Distinct-range, without, In-without, length-without}
use Rattle.tl_definitions.proofs.Steps.{IsStepOut, IsStepIn, step-move, move-step_in}
use Rattle.tl_closing.proofs.Residues.{step-one_way}
use Rattle.tl_closing.proofs.Sides.{parity-of, directed, corners-table, steps-table, left_here, others_here, corner_table, steps-out, steps-corners, corners-near, IsNear, Joins, left-one, same_step}

abbrev pub Step : Type 0
Step = Corner × Corner

abbrev pub step_eq : Step → Step → Bool
step_eq d e = corner_eq d.0 e.0 && corner_eq d.1 e.1

pub step_eq-same : (d e : Step) → step_eq d e ≡ true → d ≡ e
step_eq-same d e h =
    let p : (corner_eq d.0 e.0 ≡ true) × (corner_eq d.1 e.1 ≡ true) = and_parts _ _ h in
    let from : d.0 ≡ e.0 = corner_eq-same _ _ p.0 in
    let to : d.1 ≡ e.1 = corner_eq-same _ _ p.1 in
    λ i. (from i, to i)

pub step_eq-refl : (d : Step) → step_eq d d ≡ true
step_eq-refl d = and_from _ _ (corner_eq-refl d.0) (corner_eq-refl d.1)

-- ---- of one cell

pub round-step : (k : Kind) (a : Cell) (e : Step) → In e (steps_round k a) → IsStepOut k e.0 e.1
round-step k a e i =
    Each-at (λ (d : Step). IsStepOut k d.0 d.1) e (left_here k a ∷ others_here k a) (steps-out k (is_dark a) a.r a.c (parity-of a))
    (subst (λ (es : List Step). In e es) (steps-table k a) i)

pub round-corners : (k : Kind) (a : Cell) (e : Step) → In e (steps_round k a) → In e.0 (corners k a) × In e.1 (corners k a)
round-corners k a e i =
    subst (λ (vs : List Corner). In e.0 vs × In e.1 vs) (sym (corners-table k a))
    (Each-at (Joins (corner_table k (is_dark a) a.r a.c)) e (left_here k a ∷ others_here k a) (steps-corners k (is_dark a) a.r a.c)
    (subst (λ (es : List Step). In e es) (steps-table k a) i))

pub corner-near : (k : Kind) (a : Cell) (v : Corner) → In v (corners k a) → IsNear k a.r a.c v
corner-near k a v i =
    Each-at (IsNear k a.r a.c) v (corner_table k (is_dark a) a.r a.c) (corners-near k (is_dark a) a.r a.c (parity-of a))
    (subst (λ (vs : List Corner). In v vs) (corners-table k a) i)

-- a side lies between the ends of its step
pub joins-step : (s : Side) → joins_corners (step_along s).0 (step_along s).1 s ≡ true
joins-step s = go (is_dark s.cell)
  where
    go : (t : Bool) → joins_corners (directed t s.from s.to).0 (directed t s.from s.to).1 s ≡ true
    go true = or_left (corner_eq s.from s.from && corner_eq s.to s.to) _ (and_from _ _ (corner_eq-refl s.from) (corner_eq-refl s.to))
    go false = or_right (corner_eq s.from s.to && corner_eq s.to s.from) _ (and_from _ _ (corner_eq-refl s.from) (corner_eq-refl s.to))

-- a side that lies between two corners has its step from the one to the other, or back
pub step-joins : (u v : Corner) (s : Side) → joins_corners u v s ≡ true → (step_along s ≡ (u, v)) ⊎ (step_along s ≡ (v, u))
step-joins u v s e = go (is_dark s.cell) (ends (or_cases _ _ e))
  where
    ends : ((corner_eq s.from u && corner_eq s.to v) ≡ true) ⊎ ((corner_eq s.from v && corner_eq s.to u) ≡ true)
        → ((s.from ≡ u) × (s.to ≡ v)) ⊎ ((s.from ≡ v) × (s.to ≡ u))
    ends (inl h) = let p = and_parts _ _ h in inl (corner_eq-same _ _ p.0, corner_eq-same _ _ p.1)
    ends (inr h) = let p = and_parts _ _ h in inr (corner_eq-same _ _ p.0, corner_eq-same _ _ p.1)

    pair : {a b c d : Corner} → a ≡ c → b ≡ d → ◌≡◌ {A = Step} (a, b) (c, d)
    pair p q = λ i. (p i, q i)

    go : (t : Bool) → ((s.from ≡ u) × (s.to ≡ v)) ⊎ ((s.from ≡ v) × (s.to ≡ u))
        → (directed t s.from s.to ≡ (u, v)) ⊎ (directed t s.from s.to ≡ (v, u))
    go true (inl p) = inl (pair p.0 p.1)
    go true (inr p) = inr (pair p.0 p.1)
    go false (inl p) = inr (pair p.1 p.0)
    go false (inr p) = inl (pair p.1 p.0)

-- ---- of a region

pub has-In : (R : Region) (a : Cell) → has R a ≡ true → In a R.cells
has-In R a h = In-any a R.cells h

pub In-has : (R : Region) (a : Cell) → In a R.cells → has R a ≡ true
In-has R a i = In-any_of (cell_eq a) a R.cells i (cell_eq-refl a)

-- the corners of a region's cells are the corners of the region
pub corner_of-from : (R : Region) (a : Cell) (v : Corner) → In a R.cells → In v (corners R.kind a) → is_corner_of R v ≡ true
corner_of-from R a v i j =
    In-any_of (λ a. list_any (corner_eq v) (corners R.kind a)) a R.cells i (In-any_of (corner_eq v) v (corners R.kind a) j (corner_eq-refl v))

pub corner_of-parts : (R : Region) (v : Corner) → is_corner_of R v ≡ true → (a : Cell) × In a R.cells × In v (corners R.kind a)
corner_of-parts R v e = go (any-In (λ a. list_any (corner_eq v) (corners R.kind a)) R.cells e)
  where
    at : (a : Cell) → (w : Corner) × In w (corners R.kind a) × (corner_eq v w ≡ true) → In v (corners R.kind a)
    at a (w, j, h) = subst (λ (z : Corner). In z (corners R.kind a)) (sym (corner_eq-same v w h)) j

    go : (a : Cell) × In a R.cells × (list_any (corner_eq v) (corners R.kind a) ≡ true) → (a : Cell) × In a R.cells × In v (corners R.kind a)
    go (a, i, h) = (a, i, at a (any-In (corner_eq v) (corners R.kind a) h))

-- The directed steps of a region are those round its cells.
pub is_step-parts : (R : Region) (u v : Corner) → is_step R u v ≡ true → (a : Cell) × In a R.cells × In (u, v) (steps_round R.kind a)
is_step-parts R u v e = start (any-In (corner_eq v) (steps R u) e)
  where
    either : (a : Cell) (s : Side) → In s (sides R.kind a) → IsStepOut R.kind u v → (step_along s ≡ (u, v)) ⊎ (step_along s ≡ (v, u)) → In (u, v) (steps_round R.kind a)
    either a s j out (inl same) = subst (λ (d : Step). In d (steps_round R.kind a)) same (In-map step_along s (sides R.kind a) j)
    either a s j out (inr back) =
        absurd (step-one_way R.kind u v out
        (round-step R.kind a (v, u) (subst (λ (d : Step). In d (steps_round R.kind a)) back (In-map step_along s (sides R.kind a) j))))

    cells : (s : Side) → joins_corners u v s ≡ true → IsStepOut R.kind u v → (a : Cell) × In a R.cells × In s (sides R.kind a)
        → (a : Cell) × In a R.cells × In (u, v) (steps_round R.kind a)
    cells s h out (a, i, j) = (a, i, either a s j out (step-joins u v s h))

    edge : IsStepOut R.kind u v → (s : Side) × In s (all_sides R) × (joins_corners u v s ≡ true) → (a : Cell) × In a R.cells × In (u, v) (steps_round R.kind a)
    edge out (s, i, h) = cells s h out (In-flat_map_parts (sides R.kind) s R.cells i)

    at : IsStepOut R.kind u v × (is_edge R u v ≡ true) → (a : Cell) × In a R.cells × In (u, v) (steps_round R.kind a)
    at (out, h) = edge out (any-In (joins_corners u v) (all_sides R) h)

    start : (w : Corner) × In w (steps R u) × (corner_eq v w ≡ true) → (a : Cell) × In a R.cells × In (u, v) (steps_round R.kind a)
    start (w, i, h) =
        at (In-filter_parts (is_edge R u) v (present (steps_out R.kind u)) (subst (λ (z : Corner). In z (steps R u)) (sym (corner_eq-same v w h)) i))

step-In : (R : Region) (a : Cell) (e : Step) → In a R.cells → In e (steps_round R.kind a) → In e.1 (steps R e.0)
step-In R a e i j = go (In-map_parts step_along e (sides R.kind a) j)
  where
    go : (s : Side) × In s (sides R.kind a) × (e ≡ step_along s) → In e.1 (steps R e.0)
    go (s, k, same) =
        let between : joins_corners e.0 e.1 s ≡ true = subst (λ (d : Step). joins_corners d.0 d.1 s ≡ true) (sym same) (joins-step s) in
        In-filter (is_edge R e.0) e.1 (present (steps_out R.kind e.0))
        (In-any_of (joins_corners e.0 e.1) s (all_sides R) (In-flat_map (sides R.kind) s a R.cells i k) between)
        (round-step R.kind a e j)

pub is_step-from : (R : Region) (a : Cell) (u v : Corner) → In a R.cells → In (u, v) (steps_round R.kind a) → is_step R u v ≡ true
is_step-from R a u v i j = In-any_of (corner_eq v) v (steps R u) (step-In R a (u, v) i j) (corner_eq-refl v)

-- the ends of a step are corners of the region, and each has the step in its list
pub step-ends : (R : Region) (u w : Corner) → IsTrue (is_step R u w) → (is_corner_of R u ≡ true) × (is_corner_of R w ≡ true)
step-ends R u w e = go (is_step-parts R u w e)
  where
    go : (a : Cell) × In a R.cells × In (u, w) (steps_round R.kind a) → (is_corner_of R u ≡ true) × (is_corner_of R w ≡ true)
    go (a, i, j) = let p = round-corners R.kind a (u, w) j in (corner_of-from R a u i p.0, corner_of-from R a w i p.1)

pub step-out : (R : Region) (u v : Corner) → IsTrue (is_step R u v) → IsStepOut R.kind u v
step-out R u v e = go (is_step-parts R u v e)
  where
    go : (a : Cell) × In a R.cells × In (u, v) (steps_round R.kind a) → IsStepOut R.kind u v
    go (a, i, j) = round-step R.kind a (u, v) j

pub step-in : (R : Region) (u v : Corner) → IsTrue (is_step R u v) → IsStepIn R.kind u v
step-in R u v e = move-step_in R.kind u v (step-move R.kind u v (step-out R u v e))

-- ---- the lists

abbrev pub vertices : Region → List Corner
vertices R = filter (is_corner_of R) (corner_places R)

abbrev pub edges : Region → List Step
edges R = flat_map (λ u. map (λ v. (u, v)) (steps R u)) (corner_places R)

pub length-edges : (R : Region) → length (edges R) ≡ edge_count R
length-edges R = go (corner_places R)
  where
    go : (us : List Corner) → length (flat_map (λ u. map (λ v. (λ (d : Step). d) (u, v)) (steps R u)) us) ≡ length (flat_map (steps R) us)
    go [] = refl
    go (u ∷ us) =
        length-append (map (λ v. (u, v)) (steps R u)) (flat_map (λ u. map (λ v. (u, v)) (steps R u)) us)
        ∙ (ap (λ (n : ℕ). n + length (flat_map (λ u. map (λ v. (λ (d : Step). d) (u, v)) (steps R u)) us)) (length-map (steps R u) (λ v. (λ (d : Step). d) (u, v)))
        ∙ (ap (λ (n : ℕ). length (steps R u) + n) (go us) ∙ sym (length-append (steps R u) (flat_map (steps R) us))))

pub Distinct-vertices : (R : Region) → Distinct (vertices R)
Distinct-vertices R =
    Distinct-filter (is_corner_of R) (corner_places R)
    (Distinct-filter (is_corner R.kind) (flat_map (λ r. map (λ x. corner r x) (upto (R.columns + 2))) (upto (R.rows + 1)))
    (Distinct-flat_map (λ r. map (λ x. corner r x) (upto (R.columns + 2))) (λ v. v.r) (upto (R.rows + 1)) row
    (λ r. Distinct-map (λ x. corner r x) (upto (R.columns + 2)) (λ x y e. ap (λ (v : Corner). v.x) e) (Distinct-range 0 (R.columns + 2))) (Distinct-range 0 (R.rows + 1))))
  where
    row : (r : ℕ) (v : Corner) → In v (map (λ x. corner r x) (upto (R.columns + 2))) → v.r ≡ r
    row r v i = go (In-map_parts (λ x. corner r x) v (upto (R.columns + 2)) i)
      where
        go : (x : ℕ) × In x (upto (R.columns + 2)) × (v ≡ corner r x) → v.r ≡ r
        go (x, j, e) = ap (λ (w : Corner). w.r) e

module _ (R : Region) (placed : IsPlaced R) where
  pub cell-within : (a : Cell) → In a R.cells → (a.r < R.rows) × (a.c < R.columns)
  cell-within a i =
      let whole : (has R a && (nat_lt a.r R.rows && nat_lt a.c R.columns)) ≡ true =
      sym (any-filter-places (has R) a R.rows R.columns) ∙ (ap (λ (cells : List Cell). list_any (cell_eq a) cells) (sym placed) ∙ In-has R a i) in
      let p : (nat_lt a.r R.rows ≡ true) × (nat_lt a.c R.columns ≡ true) = and_parts _ _ (and_parts _ _ whole).1 in
      (ltb-true _ _ p.0, ltb-true _ _ p.1)

  pub Distinct-cells : Distinct R.cells
  Distinct-cells =
      subst (λ (cells : List Cell). Distinct cells) (sym placed)
      (Distinct-filter (has R) (places R.rows R.columns)
      (Distinct-flat_map (λ r. map (λ c. cell r c) (upto R.columns)) (λ a. a.r) (upto R.rows) row
      (λ r. Distinct-map (λ c. cell r c) (upto R.columns) (λ x y e. ap (λ (a : Cell). a.c) e) (Distinct-range 0 R.columns)) (Distinct-range 0 R.rows)))
    where
      row : (r : ℕ) (a : Cell) → In a (map (λ c. cell r c) (upto R.columns)) → a.r ≡ r
      row r a i = go (In-map_parts (λ c. cell r c) a (upto R.columns) i)
        where
          go : (c : ℕ) × In c (upto R.columns) × (a ≡ cell r c) → a.r ≡ r
          go (c, j, e) = ap (λ (b : Cell). b.r) e

  corner-place : (a : Cell) (v : Corner) → In a R.cells → In v (corners R.kind a) → In v (corner_places R)
  corner-place a v i j =
      let near : IsNear R.kind a.r a.c v = corner-near R.kind a v j in
      let within : (a.r < R.rows) × (a.c < R.columns) = cell-within a i in
      In-filter (is_corner R.kind) v (flat_map (λ r. map (λ x. corner r x) (upto (R.columns + 2))) (upto (R.rows + 1))) near.2
      (In-flat_map (λ r. map (λ x. corner r x) (upto (R.columns + 2))) v v.r (upto (R.rows + 1))
      (In-range v.r 0 (R.rows + 1) (omega arith) (omega (arith, near.0, within.0)))
      (In-map (λ x. corner v.r x) v.x (upto (R.columns + 2)) (In-range v.x 0 (R.columns + 2) (omega arith) (omega (arith, near.1, within.1)))))

  -- every corner of the region is among its vertices
  pub In-vertices : (v : Corner) → is_corner_of R v ≡ true → In v (vertices R)
  In-vertices v e = go (corner_of-parts R v e)
    where
      go : (a : Cell) × In a R.cells × In v (corners R.kind a) → In v (vertices R)
      go (a, i, j) = In-filter (is_corner_of R) v (corner_places R) e (corner-place a v i j)

  -- every step round a cell is among the edges
  pub In-edges : (a : Cell) (e : Step) → In a R.cells → In e (steps_round R.kind a) → In e (edges R)
  In-edges a e i j =
      In-flat_map (λ u. map (λ v. (u, v)) (steps R u)) e e.0 (corner_places R)
      (corner-place a e.0 i (round-corners R.kind a e j).0)
      (In-map (λ v. (e.0, v)) e.1 (steps R e.0) (step-In R a e i j))

  -- ---- the edges that are no cell's left side

  abbrev pub left_steps : List Step
  left_steps = map (left_here R.kind) R.cells

  abbrev pub tree_part : List Step
  tree_part = without step_eq left_steps (edges R)

  pub In-tree_part : (a : Cell) (e : Step) → In a R.cells → In e (steps_round R.kind a) → In e tree_part ⊎ In e left_steps
  In-tree_part a e i j = In-without step_eq step_eq-same step_eq-refl e left_steps (edges R) (In-edges a e i j)

  -- there is one less than there are corners
  pub length-tree_part : HasEulerOne R → length tree_part + 1 ≤ length (vertices R)
  length-tree_part euler =
      let fewer : length tree_part + length left_steps ≤ length (edges R) = length-without step_eq step_eq-same step_eq-refl left_steps (edges R) once inside in
      let lefts : length left_steps ≡ cell_count R = length-map R.cells (left_here R.kind) in
      omega (arith, fewer, lefts, length-edges R, euler)
    where
      once : Distinct left_steps
      once = Distinct-map (left_here R.kind) R.cells one Distinct-cells
        where
          one : (a b : Cell) → left_here R.kind a ≡ left_here R.kind b → a ≡ b
          one a b e =
              let p : (a.r ≡ b.r) × (a.c ≡ b.c) = left-one R.kind (is_dark a) (is_dark b) a.r a.c b.r b.c (same_step _ _ e) in
              let row : a.r ≡ b.r = p.0 in
              let column : a.c ≡ b.c = p.1 in
              λ i. record { r = row i; c = column i }

      inside : (e : Step) → In e left_steps → In e (edges R)
      inside e i = go (In-map_parts (left_here R.kind) e R.cells i)
        where
          go : (a : Cell) × In a R.cells × (e ≡ left_here R.kind a) → In e (edges R)
          go (a, j, same) = In-edges a e j (subst (λ (es : List Step). In e es) (sym (steps-table R.kind a)) (inl same))
