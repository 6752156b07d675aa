-- The walk along the boundary, by the exits that are left.
use Rattle.std.proofs.Common.{◌≡◌, ◌≢◌, ℕ, ◌+◌, ◌*◌, ◌<◌, ◌≤◌, ◌⊎◌, inl, inr, Bool, true, false, ◌||◌, not, cond, List, [], ◌∷◌, ◌++◌, map, length, Option, Some, refl, sym, ◌∙◌, ap, subst, arith, get_or}
use Rattle.std.specs.Prelude.{◌==◌, find, filter, slice_set, count_by, unwrap_or}
use Rattle.std.specs.List.{list_any, position_or_len}
use Rattle.std.proofs.lemmas.Bool.{cases_Bool, cases_eq, ne_eqb, false_from_ne_true}
use Rattle.std.proofs.lemmas.List.{get_or-set_same, get_or-set_other, length-set, length-map}
use Rattle.std.proofs.lemmas.List.Folds.{find_at, list_any-append}
use Rattle.std.proofs.lemmas.List.Sums.{sum_by-set}
use Rattle.std.proofs.lemmas.Option.{slice_get-get_or}
use Rattle.std.proofs.lemmas.Nat.{mul-add-lt}
use Rattle.std.proofs.Math.Nat.{mul_comm}
use Rattle.tl_definitions.specs.declared.Corner.{Corner}
use Rattle.tl_definitions.specs.declared.rings.Dart.{Dart}
use Rattle.tl_definitions.specs.Lattice.{corner, corner_eq, corner_lt, is_corner, Side}
use Rattle.tl_definitions.specs.Region.{Region, corner_places, boundary}
use Rattle.tl_definitions.specs.Accepted.{IsPlaced, is_pinch, circuit_corners, IsCircuit}
use Rattle.tl_definitions.specs.Darts.{back, darts, leaves}
use Rattle.tl_definitions.specs.Boundary.{is_boundary_corner, IsClosedWalk, side_from}
use Rattle.tl_lists.proofs.Members.{In, In-filter, In-filter_parts, In-map_parts}
use Rattle.tl_lists.proofs.Searches.{find-In}
use Rattle.tl_lists.proofs.Orders.{later, linked-tail}
use Rattle.tl_lists.proofs.Distinct.{Distinct, Distinct-from, Distinct-filter, without, In-without, length-without}
use Rattle.tl_lists.proofs.Positions.{position-missing, position-some, position-within}
use Rattle.tl_lists.specs.Lists.{linked}
use Rattle.tl_definitions.proofs.CornerPlaces.{corner_places-linked}
use Rattle.tl_definitions.proofs.BoundarySides.{boundary-corners}
use Rattle.tl_definitions.proofs.NextCorner.{exit-from}
use Rattle.tl_definitions.proofs.Walks.{corner-In, In-corner, map-push, IsWalk, walk-start, walk-more, walk-closes, closed-sides}
use Rattle.tl_definitions.proofs.Circuits.{boundary-within, boundary-places, no_pinch-sides, from-boundary, boundary-from, IsFirstBoundaryCorner, closed-circuit, circuit-passes}
use Rattle.tl_definitions.proofs.Corners.{corner_eq-same, corner_eq-refl, corner_lt-irreflexive, corner_lt-transitive, same_place}
use Rattle.tl_grid.specs.declared.walk.BoundaryStep.{BoundaryStep}
use Rattle.tl_grid.specs.declared.patterns.TheConstants.{NO_EXIT}
use Rattle.tl_grid.specs.Patterns.{exit_of}
use Rattle.tl_grid.specs.Survey.{exit_left, AreExitsLeft}
use Rattle.tl_grid.specs.Sides.{dart_by, side_by}
use Rattle.tl_grid.proofs.GridLemmas.{or_false}
use Rattle.tl_grid.proofs.SurveyLemmas.{exit-boundary}

abbrev pub HasNoPinch : Region → Type 0
HasNoPinch R = list_any (is_pinch R) (corner_places R) ≡ false

-- what holds of a corner that the walk has come to
pub record IsPassable (R : Region) (v : Corner) : Type 0 where
  pub row : v.r < R.rows + 1
  pub column : v.x < R.columns + 2
  pub corner : is_corner R.kind v ≡ true
  pub no_pinch : is_pinch R v ≡ false
  pub boundary : is_boundary_corner R v ≡ true

pub passable : (R : Region) (start v : Corner) (walk : List Side) → IsPlaced R → HasNoPinch R → IsWalk R start v walk → IsPassable R v
passable R start v walk placed free w =
    let (s, i, e) = w.goes_on in
    let p = boundary-within R s placed i in
    subst (IsPassable R) e (record {
      row = p.0;
      column = p.1;
      corner = (boundary-corners R s i).0;
      no_pinch = (no_pinch-sides R placed free s i).0;
      boundary = from-boundary R s i;
    })

-- ---- exits

pub exit-place : (R : Region) (passed : List Corner) (left : List ℕ) (v : Corner) → AreExitsLeft R passed left → v.r < R.rows + 1 → v.x < R.columns + 2
    → v.r * (R.columns + 2) + v.x < length left
exit-place R passed left v a h k =
    omega (arith, mul-add-lt v.r (R.columns + 2) v.x (R.rows + 1) h k, a.size, mul_comm (R.columns + 2) (R.rows + 1))

-- one corner more is passed
exits-more : (R : Region) (passed : List Corner) (left after : List ℕ) (v : Corner) → AreExitsLeft R passed left → v.r < R.rows + 1 → v.x < R.columns + 2
    → after ≡ slice_set left (v.r * (R.columns + 2) + v.x) NO_EXIT → AreExitsLeft R (passed ++ v ∷ []) after
exits-more R passed left after v a h k e = record {
  size = ap length e ∙ length-set left (v.r * (R.columns + 2) + v.x) NO_EXIT ∙ a.size;
  at = λ u i j. ap (λ (l : List ℕ). get_or l (place u) 0) e ∙ at u i j (cases_eq (place u) (place v)) ∙ sym (pushed u);
}
  where
    place : Corner → ℕ
    place u = u.r * (R.columns + 2) + u.x

    other : Corner → Bool → ℕ
    other u t = cond (is_corner R.kind u) (cond t NO_EXIT (exit_of R u)) NO_EXIT

    pushed : (u : Corner) → exit_left R (passed ++ v ∷ []) u ≡ other u (list_any (corner_eq u) passed || (corner_eq u v || false))
    pushed u = ap (other u) (list_any-append (corner_eq u) passed (v ∷ []))

    passed_now : (u : Corner) → corner_eq u v ≡ true → other u (list_any (corner_eq u) passed || (corner_eq u v || false)) ≡ NO_EXIT
    passed_now u t = go (is_corner R.kind u) (list_any (corner_eq u) passed)
      where
        go : (c s : Bool) → cond c (cond (s || (corner_eq u v || false)) NO_EXIT (exit_of R u)) NO_EXIT ≡ NO_EXIT
        go true true = refl
        go true false = rw (t) refl
        go false s = refl

    at : (u : Corner) → u.r < R.rows + 1 → u.x < R.columns + 2 → (place u ≡ place v) ⊎ (place u ≡ place v → ⊥)
        → get_or (slice_set left (place v) NO_EXIT) (place u) 0 ≡ other u (list_any (corner_eq u) passed || (corner_eq u v || false))
    at u i j (inl same) =
        let is : u ≡ v = same_place u v (R.columns + 2) j k same in
        ap (λ (n : ℕ). get_or (slice_set left (place v) NO_EXIT) n 0) same ∙ get_or-set_same left (place v) NO_EXIT 0 (exit-place R passed left v a h k)
        ∙ sym (passed_now u (ap (corner_eq u) (sym is) ∙ corner_eq-refl u))
    at u i j (inr differ) =
        let no : corner_eq u v ≡ false = false_from_ne_true _ (λ t. differ (ap place (corner_eq-same u v t))) in
        get_or-set_other left (place v) (place u) NO_EXIT 0 differ ∙ a.at u i j
        ∙ ap (other u) (sym (ap (λ (t : Bool). list_any (corner_eq u) passed || (t || false)) no ∙ or_false (list_any (corner_eq u) passed)))

-- an exit that is taken is one fewer
pub exits-fewer : (left : List ℕ) (i : ℕ) → i < length left → get_or left i 0 ≢ NO_EXIT
    → count_by (λ n. not (n == NO_EXIT)) (slice_set left i NO_EXIT) < count_by (λ n. not (n == NO_EXIT)) left
exits-fewer left i h e =
    let sum = sum_by-set (λ n. cond (not (n == NO_EXIT)) 1 0) left i NO_EXIT 0 h in
    let one : ◌≡◌ {A = ℕ} (cond (not (get_or left i 0 == NO_EXIT)) 1 0) 1 = ap (λ (t : Bool). cond (not t) 1 0) (ne_eqb _ _ e) in
    omega (arith, sum, one)

-- the number of the first dart by which the boundary leaves the corner names that dart
exit-dart : (R : Region) (v : Corner) → exit_of R v ≢ NO_EXIT → find (leaves R v) (darts R.kind) ≡ Some (dart_by R.kind (exit_of R v))
exit-dart R v h = go (cases_Bool (list_any (leaves R v) (darts R.kind)))
  where
    none : Dart
    none = record { left = back 0 0; right = back 0 0 }

    go : (list_any (leaves R v) (darts R.kind) ≡ true) ⊎ (list_any (leaves R v) (darts R.kind) ≡ false) → find (leaves R v) (darts R.kind) ≡ Some (dart_by R.kind (exit_of R v))
    go (inr e) = absurd (h (ap (λ (o : Option ℕ). unwrap_or o NO_EXIT) (position-missing (leaves R v) (darts R.kind) e)))
    go (inl e) =
        let number : exit_of R v ≡ position_or_len (leaves R v) (darts R.kind) =
        ap (λ (o : Option ℕ). unwrap_or o NO_EXIT) (position-some (leaves R v) (darts R.kind) e) in
        find_at (leaves R v) (darts R.kind)
        ∙ slice_get-get_or (darts R.kind) (position_or_len (leaves R v) (darts R.kind)) none (position-within (leaves R v) (darts R.kind) e)
        ∙ ap (λ (n : ℕ). Some (dart_by R.kind n)) (sym number)

-- ---- the walk and the exits so far

pub record IsWalkLeft (R : Region) (start v : Corner) (steps : List BoundaryStep) (left : List ℕ) : Type 0 where
  pub walk : IsWalk R start v (map (side_by R.kind) steps)
  pub exits : AreExitsLeft R (circuit_corners (map (side_by R.kind) steps)) left

pub left-start : (R : Region) (v : Corner) (left : List ℕ) → is_boundary_corner R v ≡ true → AreExitsLeft R [] left → IsWalkLeft R v v [] left
left-start R v left e a =
    let (s, i, same) = boundary-from R v e in
    record { walk = subst (λ z. IsWalk R z z []) same (walk-start R s i); exits = a }

module _ (R : Region) (start v : Corner) (steps : List BoundaryStep) (left : List ℕ) (placed : IsPlaced R) (free : HasNoPinch R) (w : IsWalkLeft R start v steps left) where
  abbrev pub walked : List Side
  walked = map (side_by R.kind) steps

  pub left-here : IsPassable R v
  left-here = passable R start v walked placed free w.walk

  -- what is left of the exit is the corner's, if it hasn't been passed
  exit-here : (t : Bool) → list_any (corner_eq v) (circuit_corners walked) ≡ t → get_or left (v.r * (R.columns + 2) + v.x) 0 ≡ cond t NO_EXIT (exit_of R v)
  exit-here t e = w.exits.at v left-here.row left-here.column ∙ rw (left-here.corner, e) refl

  pub left-more : (step : BoundaryStep) (after : List ℕ) → step.r ≡ v.r → step.x ≡ v.x → step.dart ≡ get_or left (v.r * (R.columns + 2) + v.x) 0 → step.dart ≢ NO_EXIT
      → after ≡ slice_set left (v.r * (R.columns + 2) + v.x) NO_EXIT → IsWalkLeft R start (side_by R.kind step).to (steps ++ step ∷ []) after
  left-more step after row column is some e = go (cases_Bool (list_any (corner_eq v) (circuit_corners walked)))
    where
      go : (list_any (corner_eq v) (circuit_corners walked) ≡ true) ⊎ (list_any (corner_eq v) (circuit_corners walked) ≡ false)
          → IsWalkLeft R start (side_by R.kind step).to (steps ++ step ∷ []) after
      go (inl t) = absurd (some (is ∙ exit-here true t))
      go (inr t) =
          let dart : step.dart ≡ exit_of R v = is ∙ exit-here false t in
          let from : corner step.r step.x ≡ v = λ i. corner (row i) (column i) in
          let found : find (leaves R v) (darts R.kind) ≡ Some (dart_by R.kind step.dart) =
          exit-dart R v (λ n. some (dart ∙ n)) ∙ ap (λ (n : ℕ). Some (dart_by R.kind n)) (sym dart) in
          let side : Some (side_by R.kind step) ≡ side_from R v =
          (λ i. Some (side_by R.kind (record { r = row i; x = column i; dart = step.dart })))
          ∙ exit-from R v (dart_by R.kind step.dart) left-here.corner left-here.no_pinch found in
          let q = find-In (λ s. corner_eq s.from v) (boundary R) (side_by R.kind step) (sym side) in
          record {
            walk =
                subst (IsWalk R start (side_by R.kind step).to) (sym (map-push (side_by R.kind) steps step))
                (walk-more R start (side_by R.kind step) walked q.0 (subst (λ z. IsWalk R start z walked) (sym from) w.walk)
                (λ i. cc (t, In-corner v (circuit_corners walked) (subst (λ z. In z (circuit_corners walked)) from i))));
            exits =
                subst (λ l. AreExitsLeft R l after) (sym (ap circuit_corners (map-push (side_by R.kind) steps step)
                ∙ map-push (λ (s : Side). s.from) walked (side_by R.kind step) ∙ ap (λ (u : Corner). circuit_corners walked ++ u ∷ []) from))
                (exits-more R (circuit_corners walked) left after v w.exits left-here.row left-here.column e);
          }

  pub left-closed : get_or left (v.r * (R.columns + 2) + v.x) 0 ≡ NO_EXIT → IsClosedWalk R start walked
  left-closed e = go (cases_Bool (list_any (corner_eq v) (circuit_corners walked)))
    where
      go : (list_any (corner_eq v) (circuit_corners walked) ≡ true) ⊎ (list_any (corner_eq v) (circuit_corners walked) ≡ false) → IsClosedWalk R start walked
      go (inl t) = walk-closes R start v walked (no_pinch-sides R placed free) w.walk (corner-In v (circuit_corners walked) t)
      go (inr t) =
          let none : exit_of R v ≡ NO_EXIT = sym (exit-here false t) ∙ e in
          cc (exit-boundary R v left-here.corner, left-here.boundary, none)

-- ---- one circuit

linked-Distinct : (vs : List Corner) → linked corner_lt vs ≡ true → Distinct vs
linked-Distinct [] e = tt
linked-Distinct (v ∷ vs) e = (
  λ i. corner_lt-irreflexive v (later corner_lt corner_lt-irreflexive corner_lt-transitive v vs v e i),
  linked-Distinct vs (linked-tail corner_lt corner_lt-irreflexive corner_lt-transitive v vs e),
)

-- The boundary is one circuit exactly where the walk has as many sides as there are boundary corners.
module _ (R : Region) (start : Corner) (walk : List Side) (placed : IsPlaced R) (free : HasNoPinch R) (first : IsFirstBoundaryCorner R start) (w : IsClosedWalk R start walk) where
  abbrev pub all : List Corner
  all = filter (is_boundary_corner R) (corner_places R)

  abbrev corners : List Corner
  corners = circuit_corners walk

  within : (v : Corner) → In v corners → In v all
  within v i =
      let (s, j, e) = In-map_parts (λ (s : Side). s.from) v walk i in
      let b = closed-sides R start walk w s j in
      subst (λ u. In u all) (sym e) (In-filter (is_boundary_corner R) s.from (corner_places R) (from-boundary R s b) (boundary-places R s placed b).0)

  fewer : length (without corner_eq corners all) + length corners ≤ length all
  fewer = length-without corner_eq corner_eq-same corner_eq-refl corners all (Distinct-from corner_eq corner_eq-refl corners w.once) within

  count : length corners ≡ length walk
  count = length-map walk (λ (s : Side). s.from)

  pub full-circuit : length walk ≡ length all → IsCircuit R walk
  full-circuit e =
      closed-circuit R start walk placed (no_pinch-sides R placed free) first w
      (λ s i. passed s.from (In-without corner_eq corner_eq-same corner_eq-refl s.from corners all
      (In-filter (is_boundary_corner R) s.from (corner_places R) (from-boundary R s i) (boundary-places R s placed i).0)) (without corner_eq corners all) refl)
    where
      passed : (v : Corner) → In v (without corner_eq corners all) ⊎ In v corners → (rest : List Corner) → without corner_eq corners all ≡ rest → In v corners
      passed v (inr i) rest f = i
      passed v (inl i) [] f = absurd (subst (In v) f i)
      passed v (inl i) (u ∷ us) f = absurd (omega (arith, fewer, count, e, ap length f))

  pub circuit-full : (other : List Side) → IsCircuit R other → length walk ≡ length all
  circuit-full other c =
      let back = length-without corner_eq corner_eq-same corner_eq-refl all corners
      (Distinct-filter (is_boundary_corner R) (corner_places R) (linked-Distinct (corner_places R) (corner_places-linked R))) passes in
      omega (arith, fewer, back, count)
    where
      passes : (v : Corner) → In v all → In v corners
      passes v i =
          let (s, j, e) = boundary-from R v (In-filter_parts (is_boundary_corner R) v (corner_places R) i).1 in
          subst (λ u. In u corners) e (circuit-passes R start walk other placed (no_pinch-sides R placed free) first w c s j)
