-- Without a pinch one boundary side leaves each boundary corner, and one comes to it.
use Rattle.std.proofs.Common.{◌≡◌, ◌-◌, true, false, not, Option, Some, None, refl, sym, ◌∙◌, ap, subst, arith}
use Rattle.std.specs.Prelude.{find, is_some}
use Rattle.std.proofs.lemmas.Bool.{and_parts, and_from, not-true}
use Rattle.tl_definitions.specs.declared.Cell.{Cell}
use Rattle.tl_definitions.specs.declared.Corner.{Corner}
use Rattle.tl_definitions.specs.declared.rings.Dart.{Dart}
use Rattle.tl_definitions.specs.Lattice.{cell, corner_eq, is_corner, Side, side}
use Rattle.tl_definitions.specs.Region.{Region, has_at, boundary}
use Rattle.tl_definitions.specs.Accepted.{is_pinch}
use Rattle.tl_definitions.specs.Darts.{darts, left_cell, right_cell, other_end, leaves, enters}
use Rattle.tl_definitions.specs.Boundary.{side_from, is_boundary_corner}
use Rattle.tl_lists.proofs.Tests.{same_test, some_same}
use Rattle.tl_lists.proofs.Members.{In, any-In, In-any_of}
use Rattle.tl_definitions.proofs.Darts.{Lies, cell_back-lies}
use Rattle.tl_lists.proofs.Searches.{find-only, find-In, find-none, none-find}
use Rattle.tl_definitions.proofs.CornerRings.{has_at-some, has-has_at}
use Rattle.tl_definitions.proofs.Turns.{one_leaves, one_enters, leaves_where_enters}
use Rattle.tl_definitions.proofs.BoundarySides.{LeavesThrough, ComesThrough, boundary-corners, boundary-leaves, boundary-comes, leaving_side}
use Rattle.tl_definitions.proofs.Corners.{corner_eq-same, corner_eq-refl}

-- the dart of a boundary side, as a test
pub leaves-from : (R : Region) (s : Side) (g : Dart) → LeavesThrough R s g → leaves R s.from g ≡ true
leaves-from R s g l = and_from _ _ (has-has_at R (left_cell s.from g) s.cell l.cell l.inside) (ap not l.outside)

pub enters-from : (R : Region) (s : Side) (g : Dart) → ComesThrough R s g → enters R s.to g ≡ true
enters-from R s g l = and_from _ _ (ap not l.outside) (has-has_at R (right_cell s.to g) s.cell l.cell l.inside)

-- and a boundary side from the test of its dart
pub leaves-side : (R : Region) (v : Corner) (g : Dart) → is_corner R.kind v ≡ true → In g (darts R.kind) → leaves R v g ≡ true
    → (c : Cell) × (left_cell v g ≡ Some c) × In (side c v (other_end R.kind v g)) (boundary R)
leaves-side R v g h i e =
    let p = and_parts (has_at R (left_cell v g)) (not (has_at R (right_cell v g))) e in
    let (c, is, in_R) = has_at-some R (left_cell v g) p.0 in
    (c, is, leaving_side R v g c h i is in_R (not-true _ p.1))

-- a boundary side leaves where one comes, and comes where one leaves
pub side_after : (R : Region) (s : Side) → In s (boundary R) → (t : Side) × In t (boundary R) × (t.from ≡ s.to)
side_after R s i =
    let (g, l) = boundary-comes R s i in
    let (h, j, e) = leaves_where_enters R s.to g l.dart (enters-from R s g l) in
    let (c, is, k) = leaves-side R s.to h (boundary-corners R s i).1 j e in
    (side c s.to (other_end R.kind s.to h), k, refl)

same_side : (s t : Side) → s.cell ≡ t.cell → s.from ≡ t.from → s.to ≡ t.to → s ≡ t
same_side s t e f g = λ i. record { cell = e i; from = f i; to = g i }

-- Where there is no pinch, two boundary sides that leave one corner are the same,
pub one_side_from : (R : Region) (s t : Side) → is_pinch R s.from ≡ false → In s (boundary R) → In t (boundary R) → t.from ≡ s.from → s ≡ t
one_side_from R s t p i j e =
    let (g, l) = boundary-leaves R s i in
    let (h, m) = boundary-leaves R t j in
    let same : h ≡ g = one_leaves R s.from h g p m.dart (subst (λ v. leaves R v h ≡ true) e (leaves-from R t h m)) l.dart (leaves-from R s g l) in
    let cells : left_cell s.from g ≡ Some t.cell = subst (λ d. left_cell s.from d ≡ Some t.cell) same (subst (λ v. left_cell v h ≡ Some t.cell) e m.cell) in
    let ends : t.to ≡ other_end R.kind s.from g = subst (λ d. t.to ≡ other_end R.kind s.from d) same (subst (λ v. t.to ≡ other_end R.kind v h) e m.ends) in
    same_side s t (some_same s.cell t.cell (sym l.cell ∙ cells)) (sym e) (l.ends ∙ sym ends)

-- and so are two that come to one.
pub one_side_to : (R : Region) (s t : Side) → is_pinch R s.to ≡ false → In s (boundary R) → In t (boundary R) → t.to ≡ s.to → s ≡ t
one_side_to R s t p i j e =
    let (g, l) = boundary-comes R s i in
    let (h, m) = boundary-comes R t j in
    let same : h ≡ g = one_enters R s.to h g p m.dart (subst (λ v. enters R v h ≡ true) e (enters-from R t h m)) l.dart (enters-from R s g l) in
    let cells : right_cell s.to g ≡ Some t.cell = subst (λ d. right_cell s.to d ≡ Some t.cell) same (subst (λ v. right_cell v h ≡ Some t.cell) e m.cell) in
    let begins : t.from ≡ other_end R.kind s.to g = subst (λ d. t.from ≡ other_end R.kind s.to d) same (subst (λ v. t.from ≡ other_end R.kind v h) e m.begins) in
    same_side s t (some_same s.cell t.cell (sym l.cell ∙ cells)) (l.begins ∙ sym begins) (sym e)

-- the boundary side from a corner
pub find_from : (R : Region) (s : Side) → is_pinch R s.from ≡ false → In s (boundary R) → find (λ t. corner_eq t.from s.from) (boundary R) ≡ Some s
find_from R s p i =
    find-only (λ t. corner_eq t.from s.from) (boundary R) s i (corner_eq-refl s.from)
    (λ t j e. sym (one_side_from R s t p i j (corner_eq-same t.from s.from e)))

-- ---- the first dart that the boundary leaves by

-- it is the dart of the boundary side from the corner
pub exit-side : (R : Region) (v : Corner) (g : Dart) → is_corner R.kind v ≡ true → is_pinch R v ≡ false → find (leaves R v) (darts R.kind) ≡ Some g
    → (c : Cell) × Lies v g.left c × (side_from R v ≡ Some (side c v (other_end R.kind v g)))
exit-side R v g h p e =
    let q = find-In (leaves R v) (darts R.kind) g e in
    let (c, is, i) = leaves-side R v g h q.0 q.1 in
    (c, cell_back-lies v g.left c is, find_from R (side c v (other_end R.kind v g)) p i)

pub no_exit-side : (R : Region) (v : Corner) → find (leaves R v) (darts R.kind) ≡ None → side_from R v ≡ None
no_exit-side R v e =
    none-find (λ s. corner_eq s.from v) (boundary R)
    (λ s i q.
    let (g, l) = boundary-leaves R s i in
    find-none (leaves R v) (darts R.kind) e g l.dart (subst (λ z. leaves R z g ≡ true) (corner_eq-same s.from v q) (leaves-from R s g l)))

-- a corner is a boundary corner exactly where there is such a dart
pub boundary_corner-exit : (R : Region) (v : Corner) → is_corner R.kind v ≡ true → is_boundary_corner R v ≡ is_some (find (leaves R v) (darts R.kind))
boundary_corner-exit R v h = go (find (leaves R v) (darts R.kind)) refl
  where
    go : (o : Option Dart) → find (leaves R v) (darts R.kind) ≡ o → is_boundary_corner R v ≡ is_some o
    go None e =
        same_test (is_boundary_corner R v) false
        (λ m.
        let (s, i, q) = any-In (λ s. corner_eq s.from v) (boundary R) m in
        absurd (find-none (λ s. corner_eq s.from v) (boundary R) (no_exit-side R v e) s i q))
        (λ f. cc f)
    go (Some g) e =
        let q = find-In (leaves R v) (darts R.kind) g e in
        let (c, is, i) = leaves-side R v g h q.0 q.1 in
        In-any_of (λ s. corner_eq s.from v) (side c v (other_end R.kind v g)) (boundary R) i (corner_eq-refl v)

lies-cell : (v : Corner) (g : Dart) (c : Cell) → Lies v g.left c → c ≡ cell (v.r - g.left.rows) (v.x - g.left.columns)
lies-cell v g c l =
    let rows : c.r ≡ v.r - g.left.rows = omega (arith, l.row) in
    let columns : c.c ≡ v.x - g.left.columns = omega (arith, l.column) in
    λ i. record { r = rows i; c = columns i }

pub exit-from : (R : Region) (v : Corner) (g : Dart) → is_corner R.kind v ≡ true → is_pinch R v ≡ false → find (leaves R v) (darts R.kind) ≡ Some g
    → Some (side (cell (v.r - g.left.rows) (v.x - g.left.columns)) v (other_end R.kind v g)) ≡ side_from R v
exit-from R v g h p e =
    let (c, l, is) = exit-side R v g h p e in
    sym (is ∙ ap (λ (a : Cell). Some (side a v (other_end R.kind v g))) (lies-cell v g c l))
