-- A directed step of a region is an outward dart along one of its edges.
use Rattle.std.proofs.Common.{◌≡◌, ◌+◌, ◌%◌, ◌⊎◌, inl, inr, true, ◌&&◌, sym, ◌∙◌, subst, arith}
use Rattle.std.specs.List.{list_any}
use Rattle.std.proofs.lemmas.Bool.{and_parts, and_from, or_cases, eqb-true, eq-eqb}
use Rattle.tl_definitions.specs.declared.Kind.{Kind}
use Rattle.tl_definitions.specs.declared.Kind.TheVariants.{Square, Triangle}
use Rattle.tl_definitions.specs.declared.Cell.{Cell}
use Rattle.tl_definitions.specs.declared.Corner.{Corner}
use Rattle.tl_definitions.specs.declared.rings.Dart.{Dart}
use Rattle.tl_definitions.specs.Lattice.{corner_eq, cell_width, is_corner, steps_out, Side, sides}
use Rattle.tl_definitions.specs.Region.{Region, all_sides, joins_corners, is_edge, is_step, steps}
use Rattle.tl_definitions.specs.Darts.{darts, leads_to, is_outward, is_step_by}
use Rattle.tl_lists.specs.Lists.{present}
use Rattle.tl_lists.proofs.Tests.{same_test}
use Rattle.tl_lists.proofs.Members.{In, Each, Each-at, any-In, In-any_of, In-filter, In-filter_parts, In-flat_map_parts}
use Rattle.tl_definitions.proofs.Corners.{corner_eq-same}
use Rattle.tl_definitions.proofs.Darts.{IsEnd, side_darts}
use Rattle.tl_definitions.proofs.CornerRings.{is_edge-dart}
use Rattle.tl_definitions.proofs.Steps.{IsMove, move-step, step-move}
use Rattle.tl_definitions.proofs.Walks.{corner-In, In-corner}

-- ---- where a dart leads

end-leads : (k : Kind) (v w : Corner) (g : Dart) → IsEnd k v g w → leads_to k v g w ≡ true
end-leads k v w g e =
    and_from _ _ (eq-eqb (v.r + 1) (w.r + (g.left.rows + g.right.rows)) e.row)
    (eq-eqb (v.x + cell_width k) (w.x + (g.left.columns + g.right.columns)) e.column)

leads-end : (k : Kind) (v w : Corner) (g : Dart) → leads_to k v g w ≡ true → IsEnd k v g w
leads-end k v w g e =
    let p = and_parts _ _ e in
    record {
      row = eqb-true (v.r + 1) (w.r + (g.left.rows + g.right.rows)) p.0;
      column = eqb-true (v.x + cell_width k) (w.x + (g.left.columns + g.right.columns)) p.1;
    }

-- an edge of a region is a dart of its ends
abbrev HasDart : Kind → Corner → Corner → Type 0
HasDart k u v = (is_corner k u ≡ true) × ((g : Dart) × In g (darts k) × IsEnd k u g v)

edge-dart : (R : Region) (u v : Corner) → is_edge R u v ≡ true → HasDart R.kind u v
edge-dart R u v e =
    let (s, i, joins) = any-In (joins_corners u v) (all_sides R) e in
    let (a, j, k) = In-flat_map_parts (sides R.kind) s R.cells i in
    go a s k (or_cases _ _ joins)
  where
    go : (a : Cell) (s : Side) → In s (sides R.kind a) → ((corner_eq s.from u && corner_eq s.to v) ≡ true) ⊎ ((corner_eq s.from v && corner_eq s.to u) ≡ true)
        → HasDart R.kind u v
    go a s i (inl h) =
        let p = and_parts _ _ h in
        let from : s.from ≡ u = corner_eq-same s.from u p.0 in
        let to : s.to ≡ v = corner_eq-same s.to v p.1 in
        let by = side_darts R.kind a s i in
        let (g, leaves) = by.0 in (
          subst (λ (z : Corner). is_corner R.kind z ≡ true) from by.3,
          (g, leaves.dart, subst (λ (z : Corner). IsEnd R.kind u g z) to (subst (λ (z : Corner). IsEnd R.kind z g s.to) from leaves.ends)),
        )
    go a s i (inr h) =
        let p = and_parts _ _ h in
        let from : s.from ≡ v = corner_eq-same s.from v p.0 in
        let to : s.to ≡ u = corner_eq-same s.to u p.1 in
        let by = side_darts R.kind a s i in
        let (g, enters) = by.1 in (
          subst (λ (z : Corner). is_corner R.kind z ≡ true) to by.4,
          (g, enters.dart, subst (λ (z : Corner). IsEnd R.kind u g z) from (subst (λ (z : Corner). IsEnd R.kind z g s.from) to enters.ends)),
        )

-- ---- the outward darts

-- the dart leads out exactly where its edge is that of a step from the corner
abbrev Fits : Kind → Corner → Corner → Dart → Type 0
Fits k u v g = IsEnd k u g v → (IsMove k u v → is_outward u g ≡ true) × (is_outward u g ≡ true → IsMove k u v)

move-even : (u v : Corner) → IsMove Square u v → (u.r ≡ v.r → ⊥) → (u.r + u.x) % 2 ≡ 0
move-even u v (inl (even, column, rest)) other = even
move-even u v (inr (odd, row, rest)) other = absurd (other row)

move-odd : (u v : Corner) → IsMove Square u v → (u.x ≡ v.x → ⊥) → (u.r + u.x) % 2 ≡ 1
move-odd u v (inl (even, column, rest)) other = absurd (other column)
move-odd u v (inr (odd, row, rest)) other = odd

square-fits : (u v : Corner) → Each (Fits Square u v) (darts Square)
square-fits u v = (
  (λ e. (
    (λ m. eq-eqb _ 0 (omega (arith, move-even u v m (λ same. omega (arith, e.row, same))))),
    (λ o. inl (omega (arith, eqb-true _ _ o), omega (arith, e.column), inl (omega (arith, e.row)))),
  )),
  (
    (λ e. (
      (λ m. eq-eqb _ 0 (omega (arith, move-odd u v m (λ same. omega (arith, e.column, same))))),
      (λ o. inr (omega (arith, eqb-true _ _ o), omega (arith, e.row), inr (omega (arith, e.column)))),
    )),
    (
      (λ e. (
        (λ m. eq-eqb _ 0 (omega (arith, move-even u v m (λ same. omega (arith, e.row, same))))),
        (λ o. inl (omega (arith, eqb-true _ _ o), omega (arith, e.column), inr (omega (arith, e.row)))),
      )),
      (
        (λ e. (
          (λ m. eq-eqb _ 0 (omega (arith, move-odd u v m (λ same. omega (arith, e.column, same))))),
          (λ o. inr (omega (arith, eqb-true _ _ o), omega (arith, e.row), inl (omega (arith, e.column)))),
        )),
        tt,
      ),
    ),
  ),
)

-- the three edges that steps come along
not-move : (u v : Corner) → (u.r ≡ v.r → u.x + 2 ≡ v.x → ⊥) → (u.r ≡ v.r + 1 → u.x ≡ v.x + 1 → ⊥) → (u.r + 1 ≡ v.r → u.x ≡ v.x + 1 → ⊥) → IsMove Triangle u v → ⊥
not-move u v p q r (inl (row, on)) = p row on
not-move u v p q r (inr (inl (up, back))) = q up back
not-move u v p q r (inr (inr (down, back))) = r down back

triangle-fits : (u v : Corner) → (u.r + u.x) % 2 ≡ 1 → Each (Fits Triangle u v) (darts Triangle)
triangle-fits u v odd = (
  (λ e. ((λ m. eq-eqb _ 0 (omega (arith, odd))), (λ o. inr (inl (omega (arith, e.row), omega (arith, e.column)))))),
  (
    (λ e. (
      (λ m. absurd (not-move u v (λ p q. omega (arith, e.row, p)) (λ p q. omega (arith, e.column, q)) (λ p q. omega (arith, e.row, p)) m)),
      (λ o. absurd (omega (arith, odd, eqb-true _ _ o))),
    )),
    (
      (λ e. ((λ m. eq-eqb _ 0 (omega (arith, odd))), (λ o. inl (omega (arith, e.row), omega (arith, e.column))))),
      (
        (λ e. (
          (λ m. absurd (not-move u v (λ p q. omega (arith, e.row, p)) (λ p q. omega (arith, e.row, p)) (λ p q. omega (arith, e.column, q)) m)),
          (λ o. absurd (omega (arith, odd, eqb-true _ _ o))),
        )),
        (
          (λ e. ((λ m. eq-eqb _ 0 (omega (arith, odd))), (λ o. inr (inr (omega (arith, e.row), omega (arith, e.column)))))),
          (
            (λ e. (
              (λ m. absurd (not-move u v (λ p q. omega (arith, e.column, q)) (λ p q. omega (arith, e.row, p)) (λ p q. omega (arith, e.row, p)) m)),
              (λ o. absurd (omega (arith, odd, eqb-true _ _ o))),
            )),
            tt,
          ),
        ),
      ),
    ),
  ),
)

fits : (k : Kind) (u v : Corner) (g : Dart) → is_corner k u ≡ true → In g (darts k) → Fits k u v g
fits Square u v g h i = Each-at (Fits Square u v) g (darts Square) (square-fits u v) i
fits Triangle u v g h i = Each-at (Fits Triangle u v) g (darts Triangle) (triangle-fits u v (eqb-true _ _ h)) i

-- ---- steps

-- A step of the region leads from a corner of the lattice along an outward dart that is an edge of the region.
pub is_step-darts : (R : Region) (u v : Corner) → is_step R u v ≡ (is_corner R.kind u && list_any (is_step_by R u v) (darts R.kind))
is_step-darts R u v = same_test (is_step R u v) (is_corner R.kind u && list_any (is_step_by R u v) (darts R.kind)) there back
  where
    found : IsMove R.kind u v → is_edge R u v ≡ true → HasDart R.kind u v
        → (is_corner R.kind u && list_any (is_step_by R u v) (darts R.kind)) ≡ true
    found move edge (h, (g, i, end)) =
        and_from _ _ h
        (In-any_of (is_step_by R u v) g (darts R.kind) i
        (and_from _ _ (and_from _ _ ((fits R.kind u v g h i end).0 move) (end-leads R.kind u v g end)) (sym (is_edge-dart R u v g h i end) ∙ edge)))

    there : is_step R u v ≡ true → (is_corner R.kind u && list_any (is_step_by R u v) (darts R.kind)) ≡ true
    there e =
        let (i, edge) = In-filter_parts (is_edge R u) v (present (steps_out R.kind u)) (corner-In v (steps R u) e) in
        found (step-move R.kind u v i) edge (edge-dart R u v edge)

    back : (is_corner R.kind u && list_any (is_step_by R u v) (darts R.kind)) ≡ true → is_step R u v ≡ true
    back e =
        let p = and_parts _ _ e in
        let (g, i, m) = any-In (is_step_by R u v) (darts R.kind) p.1 in
        let q = and_parts _ _ m in
        let r = and_parts _ _ q.0 in
        let end : IsEnd R.kind u g v = leads-end R.kind u v g r.1 in
        In-corner v (steps R u)
        (In-filter (is_edge R u) v (present (steps_out R.kind u)) (is_edge-dart R u v g p.0 i end ∙ q.1)
        (move-step R.kind u v ((fits R.kind u v g p.0 i end).1 r.0)))
