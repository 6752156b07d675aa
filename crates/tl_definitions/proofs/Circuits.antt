-- The walk from the first boundary corner is the circuit exactly where it passes every boundary corner.
use Rattle.std.proofs.Common.{◌≡◌, ◌+◌, ◌<◌, ◌≤◌, ◌⊎◌, inl, inr, Bool, true, false, List, [], ◌∷◌, ◌++◌, map, cond, Some, None, refl, sym, ◌∙◌, ap, subst, arith}
use Rattle.std.specs.Prelude.{find}
use Rattle.std.specs.List.{list_any}
use Rattle.tl_definitions.specs.declared.Kind.{Kind}
use Rattle.tl_definitions.specs.declared.Kind.TheVariants.{Square, Triangle}
use Rattle.tl_definitions.specs.declared.Corner.{Corner}
use Rattle.tl_definitions.specs.declared.rings.Dart.{Dart}
use Rattle.tl_definitions.specs.Lattice.{corner_eq, corner_lt, Side}
use Rattle.tl_definitions.specs.Region.{Region, corner_places, boundary, side_eq}
use Rattle.tl_definitions.specs.Accepted.{IsPlaced, is_pinch, circuit_corners, IsCircuit}
use Rattle.tl_lists.specs.Lists.{turned, distinct, is_first_of}
use Rattle.tl_definitions.specs.Darts.{darts}
use Rattle.tl_definitions.specs.Boundary.{is_boundary_corner, IsClosedWalk}
use Rattle.tl_definitions.proofs.Regions.{has-within}
use Rattle.tl_lists.proofs.Members.{In, In-map, Each, Each-at, any-In, In-any_of, In-map_parts, list_all-In, In-list_all}
use Rattle.tl_definitions.proofs.Darts.{cell_back-lies}
use Rattle.tl_definitions.proofs.BoundarySides.{boundary-corners, boundary-leaves, boundary-comes}
use Rattle.tl_definitions.proofs.NextCorner.{one_side_from}
use Rattle.tl_lists.proofs.Searches.{find-In, find-first}
use Rattle.tl_definitions.proofs.CornerPlaces.{corner_places-linked, In-corner_places}
use Rattle.tl_definitions.proofs.Walks.{side-In, In-side, In-last_cases, distinct-tail, IsFreeOfPinches, closed-sides, closed-begins}
use Rattle.tl_definitions.proofs.Corners.{corner_eq-same, corner_eq-refl, corner_lt-irreflexive, corner_lt-transitive}

-- ---- boundary corners are corner places

abbrev IsNear : Dart → Type 0
IsNear g = (g.left.rows ≤ 1) × (g.left.columns ≤ 2) × (g.right.rows ≤ 1) × (g.right.columns ≤ 2)

darts_near : (k : Kind) → Each IsNear (darts k)
darts_near Square = (
  (omega arith, omega arith, omega arith, omega arith),
  (
    (omega arith, omega arith, omega arith, omega arith),
    (
      (omega arith, omega arith, omega arith, omega arith),
      ((omega arith, omega arith, omega arith, omega arith), tt),
    ),
  ),
)
darts_near Triangle = (
  (omega arith, omega arith, omega arith, omega arith),
  (
    (omega arith, omega arith, omega arith, omega arith),
    (
      (omega arith, omega arith, omega arith, omega arith),
      (
        (omega arith, omega arith, omega arith, omega arith),
        (
          (omega arith, omega arith, omega arith, omega arith),
          ((omega arith, omega arith, omega arith, omega arith), tt),
        ),
      ),
    ),
  ),
)

pub boundary-within : (R : Region) (s : Side) → IsPlaced R → In s (boundary R)
    → (s.from.r < R.rows + 1) × (s.from.x < R.columns + 2) × (s.to.r < R.rows + 1) × (s.to.x < R.columns + 2)
boundary-within R s placed i =
    let (g, l) = boundary-leaves R s i in
    let (h, m) = boundary-comes R s i in
    let here = cell_back-lies s.from g.left s.cell l.cell in
    let there = cell_back-lies s.to h.right s.cell m.cell in
    let near : IsNear g = Each-at IsNear g (darts R.kind) (darts_near R.kind) l.dart in
    let near_there : IsNear h = Each-at IsNear h (darts R.kind) (darts_near R.kind) m.dart in
    let within = has-within R s.cell placed l.inside in (
      omega (arith, here.row, near.0, within.0),
      omega (arith, here.column, near.1, within.1),
      omega (arith, there.row, near_there.2, within.0),
      omega (arith, there.column, near_there.3, within.1),
    )

pub boundary-places : (R : Region) (s : Side) → IsPlaced R → In s (boundary R) → In s.from (corner_places R) × In s.to (corner_places R)
boundary-places R s placed i =
    let p = boundary-within R s placed i in
    let corners = boundary-corners R s i in
    (In-corner_places R s.from corners.0 p.0 p.1, In-corner_places R s.to corners.1 p.2 p.3)

none_of : {A : Type 0} (p : A → Bool) (x : A) (xs : List A) → list_any p xs ≡ false → In x xs → p x ≡ false
none_of p x xs e i = go (p x) refl
  where
    go : (t : Bool) → p x ≡ t → p x ≡ false
    go true h = cc (sym e, In-any_of p x xs i h)
    go false h = h

-- without a pinch the ends of boundary sides are none
pub no_pinch-sides : (R : Region) → IsPlaced R → list_any (is_pinch R) (corner_places R) ≡ false → IsFreeOfPinches R
no_pinch-sides R placed e s i =
    let p = boundary-places R s placed i in
    (none_of (is_pinch R) s.from (corner_places R) e p.0, none_of (is_pinch R) s.to (corner_places R) e p.1)

-- ---- the first boundary corner

pub from-boundary : (R : Region) (s : Side) → In s (boundary R) → is_boundary_corner R s.from ≡ true
from-boundary R s i = In-any_of (λ t. corner_eq t.from s.from) s (boundary R) i (corner_eq-refl s.from)

pub boundary-from : (R : Region) (v : Corner) → is_boundary_corner R v ≡ true → (s : Side) × In s (boundary R) × (s.from ≡ v)
boundary-from R v e = let (s, i, q) = any-In (λ t. corner_eq t.from v) (boundary R) e in (s, i, corner_eq-same s.from v q)

abbrev pub IsFirstBoundaryCorner : Region → Corner → Type 0
IsFirstBoundaryCorner R v = find (is_boundary_corner R) (corner_places R) ≡ Some v

first-before : (R : Region) (start : Corner) (s : Side) → IsPlaced R → IsFirstBoundaryCorner R start → In s (boundary R) → (s.from ≡ start) ⊎ (corner_lt start s.from ≡ true)
first-before R start s placed first i =
    find-first corner_lt corner_lt-irreflexive corner_lt-transitive (is_boundary_corner R) (corner_places R) start s.from (corner_places-linked R) first
    (boundary-places R s placed i).0 (from-boundary R s i)

pub first-boundary : (R : Region) (start : Corner) → IsFirstBoundaryCorner R start → (s : Side) × In s (boundary R) × (s.from ≡ start)
first-boundary R start first = boundary-from R start (find-In (is_boundary_corner R) (corner_places R) start first).1

-- ---- the circuit

abbrev pub PassesAll : Region → List Side → Type 0
PassesAll R walk = (s : Side) → In s (boundary R) → In s.from (circuit_corners walk)

-- a closed walk from the first boundary corner that passes all of them is the circuit
pub closed-circuit : (R : Region) (start : Corner) (walk : List Side) → IsPlaced R → IsFreeOfPinches R → IsFirstBoundaryCorner R start → IsClosedWalk R start walk
    → PassesAll R walk → IsCircuit R walk
closed-circuit R start walk placed free first w all = record {
  on_boundary = list_all-In (λ s. list_any (side_eq s) (boundary R)) walk (λ s i. In-side s (boundary R) (closed-sides R start walk w s i));
  whole = list_all-In (λ s. list_any (side_eq s) walk) (boundary R) (λ s i. In-side s walk (on_walk s i));
  closed = w.closed;
  once = w.once;
  first = let b = closed-begins R start walk w in begins b.0 b.1;
}
  where
    on_walk : (s : Side) → In s (boundary R) → In s walk
    on_walk s i =
        let (t, j, e) = In-map_parts (λ (u : Side). u.from) s.from walk (all s i) in
        subst (λ z. In z walk) (sym (one_side_from R s t (free s i).0 i (closed-sides R start walk w t j) (sym e))) j

    later_corner : (rest : List Corner) → circuit_corners walk ≡ start ∷ rest → (v : Corner) → In v rest → corner_lt start v ≡ true
    later_corner rest e v i =
        let new = (distinct-tail start rest (subst (λ l. distinct corner_eq l ≡ true) e w.once)).0 in
        let (s, j, same) = In-map_parts (λ (u : Side). u.from) v walk (subst (λ l. In v l) (sym e) (inr i)) in
        elim (first-before R start s placed first (closed-sides R start walk w s j)) [
          | inl is ↦ absurd (new (subst (λ z. In z rest) (same ∙ is) i))
          | inr lt ↦ subst (λ z. corner_lt start z ≡ true) (sym same) lt
        ]

    begins : (rest : List Corner) → circuit_corners walk ≡ start ∷ rest → is_first_of corner_lt (circuit_corners walk) ≡ true
    begins rest e = subst (λ l. is_first_of corner_lt l ≡ true) (sym e) (list_all-In (corner_lt start) rest (later_corner rest e))

-- Corners that a list of sides reaches in turn from one of the walk are all on the walk.
reached : (R : Region) (walk : List Side) (last : Corner) → IsFreeOfPinches R → ((s : Side) → In s walk → In s (boundary R))
    → ((s : Side) → In s walk → In s.to (circuit_corners walk)) → (e : Side) (es : List Side) → ((s : Side) → In s (e ∷ es) → In s (boundary R))
    → map (λ s. s.to) (e ∷ es) ≡ circuit_corners es ++ last ∷ [] → In e.from (circuit_corners walk)
    → (s : Side) → In s (e ∷ es) → In s.from (circuit_corners walk)
reached R walk last free on ends e [] on_es l i s (inl same) = subst (λ z. In z.from (circuit_corners walk)) (sym same) i
reached R walk last free on ends e [] on_es l i s (inr j) = absurd j
reached R walk last free on ends e (d ∷ es) on_es l i s (inl same) = subst (λ z. In z.from (circuit_corners walk)) (sym same) i
reached R walk last free on ends e (d ∷ es) on_es l i s (inr j) =
    let p = heads e.to d.from (map (λ s. s.to) (d ∷ es)) (circuit_corners es ++ last ∷ []) l in
    let (t, k, same) = In-map_parts (λ (u : Side). u.from) e.from walk i in
    let here : e ≡ t = one_side_from R e t (free e (on_es e (inl refl))).0 (on_es e (inl refl)) (on t k) (sym same) in
    let next : In d.from (circuit_corners walk) = subst (λ z. In z (circuit_corners walk)) p.0 (subst (λ z. In z.to (circuit_corners walk)) (sym here) (ends t k)) in
    reached R walk last free on ends d es (λ u m. on_es u (inr m)) p.1 next s j
  where
    heads : (u v : Corner) (us vs : List Corner) → u ∷ us ≡ v ∷ vs → (u ≡ v) × (us ≡ vs)
    heads u v us vs e = (cc e, cc e)

-- where there is a circuit, the closed walk from the first boundary corner passes all boundary corners
pub circuit-passes : (R : Region) (start : Corner) (walk circuit : List Side) → IsPlaced R → IsFreeOfPinches R → IsFirstBoundaryCorner R start → IsClosedWalk R start walk
    → IsCircuit R circuit → PassesAll R walk
circuit-passes R start walk circuit placed free first w c s i =
    go circuit c (side-In s circuit (In-list_all (λ t. list_any (side_eq t) circuit) (boundary R) s c.whole i))
  where
    ends : (t : Side) → In t walk → In t.to (circuit_corners walk)
    ends t j = in_turned (circuit_corners walk) (subst (λ l. In t.to l) w.closed (In-map (λ (u : Side). u.to) t walk j))
      where
        in_turned : (vs : List Corner) → In t.to (turned vs) → In t.to vs
        in_turned [] k = absurd k
        in_turned (v ∷ vs) k = elim (In-last_cases t.to v vs k) [ inl m ↦ inr m | inr e ↦ inl e ]

    start_side : (t : Side) × In t (boundary R) × (t.from ≡ start)
    start_side = first-boundary R start first

    start_on_walk : In start (circuit_corners walk)
    start_on_walk = subst (λ l. In start l) (sym (closed-begins R start walk w).1) (inl refl)

    go : (ds : List Side) → IsCircuit R ds → In s ds → In s.from (circuit_corners walk)
    go [] d j = absurd j
    go (e ∷ es) d j =
        reached R walk e.from free (closed-sides R start walk w) ends e es on (d.closed) (subst (λ v. In v (circuit_corners walk)) (sym at_start) start_on_walk) s j
      where
        on : (t : Side) → In t (e ∷ es) → In t (boundary R)
        on t k = side-In t (boundary R) (In-list_all (λ u. list_any (side_eq u) (boundary R)) (e ∷ es) t d.on_boundary k)

        -- the circuit begins at the first boundary corner as well
        at_start : e.from ≡ start
        at_start =
            let t = start_side.0 in
            let k : In t (e ∷ es) = side-In t (e ∷ es) (In-list_all (λ u. list_any (side_eq u) (e ∷ es)) (boundary R) t d.whole start_side.1) in
            meet t start_side.2 k (first-before R start e placed first (on e (inl refl)))
          where
            meet : (t : Side) → t.from ≡ start → In t (e ∷ es) → (e.from ≡ start) ⊎ (corner_lt start e.from ≡ true) → e.from ≡ start
            meet t same k (inl is) = is
            meet t same (inl is) (inr lt) = sym (ap (λ (u : Side). u.from) is) ∙ same
            meet t same (inr m) (inr lt) =
                let before : corner_lt e.from start ≡ true =
                subst (λ v. corner_lt e.from v ≡ true) same (In-list_all (corner_lt e.from) (circuit_corners es) t.from d.first (In-map (λ (u : Side). u.from) t es m)) in
                absurd (corner_lt-irreflexive start (corner_lt-transitive start e.from start lt before))

-- ---- no boundary corner at all

-- where no place is a boundary corner there is no boundary, and the empty circuit goes along all of it
pub no_corner-circuit : (R : Region) → IsPlaced R → find (is_boundary_corner R) (corner_places R) ≡ None → IsCircuit R []
no_corner-circuit R placed none = record {
  on_boundary = refl;
  whole = list_all-In (λ s. list_any (side_eq s) []) (boundary R) (λ s i. absurd (never (corner_places R) none s.from (boundary-places R s placed i).0 (from-boundary R s i)));
  closed = refl;
  once = refl;
  first = refl;
}
  where
    never : (vs : List Corner) → find (is_boundary_corner R) vs ≡ None → (v : Corner) → In v vs → is_boundary_corner R v ≡ true → ⊥
    never [] e v i h = i
    never (u ∷ vs) e v i h = go (is_boundary_corner R u) refl e i (λ f j. never vs f v j h)
      where
        go : (t : Bool) → is_boundary_corner R u ≡ t → cond t (Some u) (find (is_boundary_corner R) vs) ≡ None → (v ≡ u) ⊎ In v vs → (find (is_boundary_corner R) vs ≡ None → In v vs → ⊥) → ⊥
        go true k f j ih = cc f
        go false k f (inl same) ih = cc (sym h, ap (is_boundary_corner R) same, k)
        go false k f (inr j) ih = ih f j
