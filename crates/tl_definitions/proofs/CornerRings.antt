-- The corners and the edges of a region, by the rings of corners.
use Rattle.std.proofs.Common.{◌≡◌, ◌+◌, inl, inr, Bool, true, false, ◌&&◌, [], ◌∷◌, cond, Option, Some, None, refl, sym, ◌∙◌, ap, subst, arith}
use Rattle.std.specs.List.{list_any}
use Rattle.std.proofs.lemmas.Bool.{and_parts, and_from, or_cases, or_left, or_right}
use Rattle.tl_definitions.specs.declared.Kind.{Kind}
use Rattle.tl_definitions.specs.declared.Kind.TheVariants.{Square, Triangle}
use Rattle.tl_definitions.specs.declared.Cell.{Cell}
use Rattle.tl_definitions.specs.declared.Corner.{Corner}
use Rattle.tl_definitions.specs.declared.rings.Dart.{Dart}
use Rattle.tl_definitions.specs.Lattice.{corner, corner_eq, is_corner, is_dark, corners, sides, Side, side}
use Rattle.tl_definitions.specs.Region.{Region, has, has_at, all_sides, joins_corners, is_edge, is_corner_of}
use Rattle.tl_definitions.specs.Darts.{darts, left_cell, right_cell, other_end, is_edge_of}
use Rattle.tl_lists.proofs.Tests.{same_test}
use Rattle.tl_definitions.proofs.Cells.{In-any, In-has}
use Rattle.tl_lists.proofs.Members.{In, In-flat_map, Each, Each-at, any-In, In-any_of, In-flat_map_parts}
use Rattle.tl_definitions.proofs.Darts.{Lies, IsEnd, cell_back-lies, lies-cell_back, end-is, same_dart, side_darts, dart}
use Rattle.tl_definitions.proofs.DartSides.{left_side, right_side}
use Rattle.tl_definitions.proofs.Corners.{corner_eq-same, corner_eq-refl}

-- ---- cells that are there

pub has_at-some : (R : Region) (o : Option Cell) → has_at R o ≡ true → (c : Cell) × (o ≡ Some c) × (has R c ≡ true)
has_at-some R None e = cc e
has_at-some R (Some c) e = (c, refl, e)

pub has-has_at : (R : Region) (o : Option Cell) (c : Cell) → o ≡ Some c → has R c ≡ true → has_at R o ≡ true
has-has_at R o c e h = ap (has_at R) e ∙ h

-- ---- corners

abbrev IsLeft : Kind → Cell → Corner → Type 0
IsLeft k a v = (g : Dart) × In g (darts k) × Lies v g.left a

corner_darts : (k : Kind) (a : Cell) → Each (IsLeft k a) (corners k a)
corner_darts Square a = (
  (dart 0 0 0 1, inr (inr (inl refl)), record { row = omega arith; column = omega arith }),
  (
    (dart 0 1 1 1, inr (inr (inr (inl refl))), record { row = omega arith; column = omega arith }),
    (
      (dart 1 0 0 0, inr (inl refl), record { row = omega arith; column = omega arith }),
      ((dart 1 1 1 0, inl refl, record { row = omega arith; column = omega arith }), tt),
    ),
  ),
)
corner_darts Triangle a = go (is_dark a)
  where
    go : (t : Bool)
        → Each (IsLeft Triangle a) (cond t (corner a.r (a.c + 1) ∷ corner (a.r + 1) a.c ∷ corner (a.r + 1) (a.c + 2) ∷ []) (corner a.r a.c ∷ corner a.r (a.c + 2) ∷ corner (a.r + 1) (a.c + 1) ∷ []))
    go true = (
      (dart 0 1 0 2, inr (inr (inr (inr (inl refl)))), record { row = omega arith; column = omega arith }),
      (
        (dart 1 0 0 0, inr (inr (inl refl)), record { row = omega arith; column = omega arith }),
        ((dart 1 2 1 1, inl refl, record { row = omega arith; column = omega arith }), tt),
      ),
    )
    go false = (
      (dart 0 0 0 1, inr (inr (inr (inl refl))), record { row = omega arith; column = omega arith }),
      (
        (dart 0 2 1 2, inr (inr (inr (inr (inr (inl refl))))), record { row = omega arith; column = omega arith }),
        ((dart 1 1 1 0, inr (inl refl), record { row = omega arith; column = omega arith }), tt),
      ),
    )

-- A corner is one of the region exactly where a cell of its ring is.
pub is_corner_of-ring : (R : Region) (v : Corner) → is_corner R.kind v ≡ true
    → is_corner_of R v ≡ list_any (λ g. has_at R (left_cell v g)) (darts R.kind)
is_corner_of-ring R v h = same_test (is_corner_of R v) (list_any (λ g. has_at R (left_cell v g)) (darts R.kind)) there back
  where
    there : is_corner_of R v ≡ true → list_any (λ g. has_at R (left_cell v g)) (darts R.kind) ≡ true
    there e =
        let (a, i, m) = any-In (λ a. list_any (corner_eq v) (corners R.kind a)) R.cells e in
        let (u, j, n) = any-In (corner_eq v) (corners R.kind a) m in
        let (g, l, lies) = Each-at (IsLeft R.kind a) u (corners R.kind a) (corner_darts R.kind a) j in
        let lies_v : Lies v g.left a = subst (λ z. Lies z g.left a) (sym (corner_eq-same v u n)) lies in
        In-any_of (λ g. has_at R (left_cell v g)) g (darts R.kind) l
        (has-has_at R (left_cell v g) a (lies-cell_back v g.left a lies_v) (In-has a R.cells i))

    back : list_any (λ g. has_at R (left_cell v g)) (darts R.kind) ≡ true → is_corner_of R v ≡ true
    back e =
        let (g, i, m) = any-In (λ g. has_at R (left_cell v g)) (darts R.kind) e in
        let (c, is, in_R) = has_at-some R (left_cell v g) m in
        let s = left_side R.kind v c g h i (cell_back-lies v g.left c is) in
        In-any_of (λ a. list_any (corner_eq v) (corners R.kind a)) c R.cells (In-any c R.cells in_R)
        (In-any_of (corner_eq v) v (corners R.kind c) s.touches (corner_eq-refl v))

-- ---- edges

-- The dart's edge is one of the region exactly where one of its two cells is.
pub is_edge-dart : (R : Region) (v w : Corner) (g : Dart) → is_corner R.kind v ≡ true → In g (darts R.kind) → IsEnd R.kind v g w
    → is_edge R v w ≡ is_edge_of R v g
is_edge-dart R v w g h i e = same_test (is_edge R v w) (is_edge_of R v g) there back
  where
    same : w ≡ other_end R.kind v g
    same = end-is R.kind v w g e

    from_left : (a : Cell) (s : Side) → In a R.cells → In s (sides R.kind a) → (corner_eq s.from v && corner_eq s.to w) ≡ true → is_edge_of R v g ≡ true
    from_left a s j m q =
        let p = and_parts (corner_eq s.from v) (corner_eq s.to w) q in
        let (b, by) = (side_darts R.kind a s m).0 in
        let ends : IsEnd R.kind v b w = subst (λ z. IsEnd R.kind v b z) (corner_eq-same s.to w p.1) (subst (λ z. IsEnd R.kind z b s.to) (corner_eq-same s.from v p.0) by.ends) in
        let lies : Lies v g.left a = subst (λ z. Lies v z.left a) (same_dart R.kind v w b g by.dart i ends e) (subst (λ z. Lies z b.left a) (corner_eq-same s.from v p.0) by.lies) in
        or_left (has_at R (left_cell v g)) _ (has-has_at R (left_cell v g) a (lies-cell_back v g.left a lies) (In-has a R.cells j))

    from_right : (a : Cell) (s : Side) → In a R.cells → In s (sides R.kind a) → (corner_eq s.from w && corner_eq s.to v) ≡ true → is_edge_of R v g ≡ true
    from_right a s j m q =
        let p = and_parts (corner_eq s.from w) (corner_eq s.to v) q in
        let (b, by) = (side_darts R.kind a s m).1 in
        let ends : IsEnd R.kind v b w = subst (λ z. IsEnd R.kind v b z) (corner_eq-same s.from w p.0) (subst (λ z. IsEnd R.kind z b s.from) (corner_eq-same s.to v p.1) by.ends) in
        let lies : Lies v g.right a = subst (λ z. Lies v z.right a) (same_dart R.kind v w b g by.dart i ends e) (subst (λ z. Lies z b.right a) (corner_eq-same s.to v p.1) by.lies) in
        or_right (has_at R (left_cell v g)) _ (has-has_at R (right_cell v g) a (lies-cell_back v g.right a lies) (In-has a R.cells j))

    there : is_edge R v w ≡ true → is_edge_of R v g ≡ true
    there m =
        let (s, j, q) = any-In (joins_corners v w) (all_sides R) m in
        let (a, k, n) = In-flat_map_parts (sides R.kind) s R.cells j in
        elim (or_cases (corner_eq s.from v && corner_eq s.to w) (corner_eq s.from w && corner_eq s.to v) q) [ inl t ↦ from_left a s k n t | inr t ↦ from_right a s k n t ]

    joined : (c : Cell) (s : Side) → has R c ≡ true → In s (sides R.kind c) → joins_corners v w s ≡ true → is_edge R v w ≡ true
    joined c s in_R j q = In-any_of (joins_corners v w) s (all_sides R) (In-flat_map (sides R.kind) s c R.cells (In-any c R.cells in_R) j) q

    back : is_edge_of R v g ≡ true → is_edge R v w ≡ true
    back m = elim (or_cases (has_at R (left_cell v g)) (has_at R (right_cell v g)) m) [ inl t ↦ by_left (has_at-some R (left_cell v g) t) | inr t ↦ by_right (has_at-some R (right_cell v g) t) ]
      where
        by_left : (c : Cell) × (left_cell v g ≡ Some c) × (has R c ≡ true) → is_edge R v w ≡ true
        by_left (c, is, in_R) =
            let s = left_side R.kind v c g h i (cell_back-lies v g.left c is) in
            joined c (side c v (other_end R.kind v g)) in_R s.side
            (or_left (corner_eq v v && corner_eq (other_end R.kind v g) w) _ (and_from _ _ (corner_eq-refl v) (subst (λ z. corner_eq z w ≡ true) same (corner_eq-refl w))))

        by_right : (c : Cell) × (right_cell v g ≡ Some c) × (has R c ≡ true) → is_edge R v w ≡ true
        by_right (c, is, in_R) =
            let s = right_side R.kind v c g h i (cell_back-lies v g.right c is) in
            joined c (side c (other_end R.kind v g) v) in_R s.side
            (or_right (corner_eq (other_end R.kind v g) v && corner_eq v w) _ (and_from _ _ (subst (λ z. corner_eq z w ≡ true) same (corner_eq-refl w)) (corner_eq-refl v)))
