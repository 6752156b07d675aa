-- The boundary sides that leave a corner and those that come to it.
use Rattle.std.proofs.Common.{◌≡◌, true, false, not, Some, sym, ◌∙◌, ap, subst}
use Rattle.std.proofs.lemmas.Bool.{and_parts, and_from, false_from_ne_true, not_from_false}
use Rattle.tl_definitions.specs.declared.Cell.{Cell}
use Rattle.tl_definitions.specs.declared.Corner.{Corner}
use Rattle.tl_definitions.specs.declared.rings.Dart.{Dart}
use Rattle.tl_definitions.specs.Lattice.{corner_eq, is_corner, sides, Side, side}
use Rattle.tl_definitions.specs.Region.{Region, has, has_at, all_sides, is_other_side, is_boundary, boundary}
use Rattle.tl_definitions.specs.Darts.{darts, left_cell, right_cell, other_end}
use Rattle.tl_definitions.proofs.Cells.{In-any, In-has}
use Rattle.tl_lists.proofs.Members.{In, In-filter, In-flat_map, In-flat_map_parts, list_all-In, In-list_all, In-filter_parts}
use Rattle.tl_definitions.proofs.Darts.{Lies, IsEnd, EntersBy, cell_back-lies, lies-cell_back, end-is, same_dart, side_darts}
use Rattle.tl_definitions.proofs.DartSides.{IsSideOf, left_side, right_side}
use Rattle.tl_definitions.proofs.CornerRings.{has_at-some, has-has_at}
use Rattle.tl_definitions.proofs.Corners.{corner_eq-same, corner_eq-refl}

-- A boundary side, by the dart at its first end.
pub record LeavesThrough (R : Region) (s : Side) (g : Dart) : Type 0 where
  pub dart : In g (darts R.kind)
  pub cell : left_cell s.from g ≡ Some s.cell
  pub inside : has R s.cell ≡ true
  pub outside : has_at R (right_cell s.from g) ≡ false
  pub ends : s.to ≡ other_end R.kind s.from g

-- and by the dart at its second end
pub record ComesThrough (R : Region) (s : Side) (g : Dart) : Type 0 where
  pub dart : In g (darts R.kind)
  pub cell : right_cell s.to g ≡ Some s.cell
  pub inside : has R s.cell ≡ true
  pub outside : has_at R (left_cell s.to g) ≡ false
  pub begins : s.from ≡ other_end R.kind s.to g

not_across : (R : Region) (s t : Side) → In s (boundary R) → In t (all_sides R) → is_other_side s t ≡ true → ⊥
not_across R s t i j e =
    let p : In s (all_sides R) × (is_boundary R s ≡ true) = In-filter_parts (is_boundary R) s (all_sides R) i in
    let q : not (is_other_side s t) ≡ true = In-list_all (λ t. not (is_other_side s t)) (all_sides R) t p.1 j in
    cc (sym (ap not e), q)

cell_sides : (R : Region) (c : Cell) (s : Side) → has R c ≡ true → In s (sides R.kind c) → In s (all_sides R)
cell_sides R c s h i = In-flat_map (sides R.kind) s c R.cells (In-any c R.cells h) i

-- The ends of a boundary side are corners.
pub boundary-corners : (R : Region) (s : Side) → In s (boundary R) → (is_corner R.kind s.from ≡ true) × (is_corner R.kind s.to ≡ true)
boundary-corners R s i =
    let (a, j, m) = In-flat_map_parts (sides R.kind) s R.cells (In-filter_parts (is_boundary R) s (all_sides R) i).0 in
    let p = side_darts R.kind a s m in
    (p.3, p.4)

-- A boundary side leaves its first end, and comes to its second end.
pub boundary-leaves : (R : Region) (s : Side) → In s (boundary R) → (g : Dart) × LeavesThrough R s g
boundary-leaves R s i =
    let (a, j, m) = In-flat_map_parts (sides R.kind) s R.cells (In-filter_parts (is_boundary R) s (all_sides R) i).0 in
    let p = side_darts R.kind a s m in
    let (g, by) = p.0 in
    let in_R : has R a ≡ true = In-has a R.cells j in
    let ends : s.to ≡ other_end R.kind s.from g = end-is R.kind s.from s.to g by.ends in (
      g,
      record {
        dart = by.dart;
        cell = lies-cell_back s.from g.left a by.lies ∙ ap (λ (c : Cell). Some c) (sym p.2);
        inside = subst (λ c. has R c ≡ true) (sym p.2) in_R;
        outside = false_from_ne_true (has_at R (right_cell s.from g)) (λ e. across g by.dart p.3 ends (has_at-some R (right_cell s.from g) e));
        ends = ends;
      },
    )
  where
    across : (g : Dart) → In g (darts R.kind) → is_corner R.kind s.from ≡ true → s.to ≡ other_end R.kind s.from g → (c : Cell) × (right_cell s.from g ≡ Some c) × (has R c ≡ true) → ⊥
    across g k h e (c, is, in_R) =
        let o = right_side R.kind s.from c g h k (cell_back-lies s.from g.right c is) in
        not_across R s (side c (other_end R.kind s.from g) s.from) i (cell_sides R c (side c (other_end R.kind s.from g) s.from) in_R o.side)
        (and_from _ _ (corner_eq-refl s.from) (subst (λ z. corner_eq s.to z ≡ true) e (corner_eq-refl s.to)))

pub boundary-comes : (R : Region) (s : Side) → In s (boundary R) → (g : Dart) × ComesThrough R s g
boundary-comes R s i =
    let (a, j, m) = In-flat_map_parts (sides R.kind) s R.cells (In-filter_parts (is_boundary R) s (all_sides R) i).0 in
    let p = side_darts R.kind a s m in
    let (g, by) = p.1 in
    let in_R : has R a ≡ true = In-has a R.cells j in
    let begins : s.from ≡ other_end R.kind s.to g = end-is R.kind s.to s.from g by.ends in (
      g,
      record {
        dart = by.dart;
        cell = lies-cell_back s.to g.right a by.lies ∙ ap (λ (c : Cell). Some c) (sym p.2);
        inside = subst (λ c. has R c ≡ true) (sym p.2) in_R;
        outside = false_from_ne_true (has_at R (left_cell s.to g)) (λ e. across g by.dart p.4 begins (has_at-some R (left_cell s.to g) e));
        begins = begins;
      },
    )
  where
    across : (g : Dart) → In g (darts R.kind) → is_corner R.kind s.to ≡ true → s.from ≡ other_end R.kind s.to g → (c : Cell) × (left_cell s.to g ≡ Some c) × (has R c ≡ true) → ⊥
    across g k h e (c, is, in_R) =
        let o = left_side R.kind s.to c g h k (cell_back-lies s.to g.left c is) in
        not_across R s (side c s.to (other_end R.kind s.to g)) i (cell_sides R c (side c s.to (other_end R.kind s.to g)) in_R o.side)
        (and_from _ _ (subst (λ z. corner_eq s.from z ≡ true) e (corner_eq-refl s.from)) (corner_eq-refl s.to))

-- The cell beside a dart whose other cell isn't in the region has its edge as a boundary side.
pub leaving_side : (R : Region) (v : Corner) (g : Dart) (c : Cell) → is_corner R.kind v ≡ true → In g (darts R.kind) → left_cell v g ≡ Some c → has R c ≡ true → has_at R (right_cell v g) ≡ false
    → In (side c v (other_end R.kind v g)) (boundary R)
leaving_side R v g c h i is in_R out =
    In-filter (is_boundary R) (side c v w) (all_sides R) (list_all-In (λ t. not (is_other_side (side c v w) t)) (all_sides R) alone) (cell_sides R c (side c v w) in_R o.side)
  where
    w : Corner
    w = other_end R.kind v g

    o : IsSideOf R.kind v c g (side c v w)
    o = left_side R.kind v c g h i (cell_back-lies v g.left c is)

    across : (t : Side) (b : Cell) (d : Dart) → In b R.cells → EntersBy R.kind b t.from t.to d → v ≡ t.to → w ≡ t.from → ⊥
    across t b d j by to from =
        let ends : IsEnd R.kind v d w = subst (λ z. IsEnd R.kind z d w) (sym to) (subst (λ z. IsEnd R.kind t.to d z) (sym from) by.ends) in
        let lies : Lies v g.right b = subst (λ z. Lies v z.right b) (same_dart R.kind v w d g by.dart i ends o.ends) (subst (λ z. Lies z d.right b) (sym to) by.lies) in
        cc (sym out, has-has_at R (right_cell v g) b (lies-cell_back v g.right b lies) (In-has b R.cells j))

    alone : (t : Side) → In t (all_sides R) → not (is_other_side (side c v w) t) ≡ true
    alone t j = not_from_false (is_other_side (side c v w) t) (false_from_ne_true (is_other_side (side c v w) t) none)
      where
        none : is_other_side (side c v w) t ≡ true → ⊥
        none e =
            let q = and_parts (corner_eq v t.to) (corner_eq w t.from) e in
            let (b, k, m) = In-flat_map_parts (sides R.kind) t R.cells j in
            let (d, by) = (side_darts R.kind b t m).1 in
            across t b d k by (corner_eq-same v t.to q.0) (corner_eq-same w t.from q.1)
