-- The darts of a corner's ring are sides of the cells beside them.
use Rattle.std.proofs.Common.{◌≡◌, ◌+◌, ◌%◌, inl, inr, true, false, [], ◌∷◌, refl, sym, subst, arith}
use Rattle.std.proofs.lemmas.Bool.{eqb-true, eq-eqb, ne_eqb}
use Rattle.tl_definitions.specs.declared.Kind.{Kind}
use Rattle.tl_definitions.specs.declared.Kind.TheVariants.{Square, Triangle}
use Rattle.tl_definitions.specs.declared.Cell.{Cell}
use Rattle.tl_definitions.specs.declared.Corner.{Corner}
use Rattle.tl_definitions.specs.declared.rings.Dart.{Dart}
use Rattle.tl_definitions.specs.Lattice.{corner, is_corner, is_dark, corners, sides, Side, side, cell_width}
use Rattle.tl_definitions.specs.Darts.{darts, other_end}
use Rattle.tl_lists.proofs.Members.{In, Each, Each-at}
use Rattle.tl_definitions.proofs.Darts.{Lies, IsEnd, end-is, dart}
use Rattle.tl_definitions.proofs.Corners.{corner-same}

-- The dart ends at its other end; it is a side of the cell, in the direction told; and the corner
-- is one of the cell's.
pub record IsSideOf (k : Kind) (v : Corner) (c : Cell) (g : Dart) (s : Side) : Type 0 where
  pub ends : IsEnd k v g (other_end k v g)
  pub side : In s (sides k c)
  pub touches : In v (corners k c)

abbrev Leaving : Kind → Corner → Cell → Dart → Type 0
Leaving k v c g = Lies v g.left c → IsSideOf k v c g (side c v (other_end k v g))

abbrev Entering : Kind → Corner → Cell → Dart → Type 0
Entering k v c g = Lies v g.right c → IsSideOf k v c g (side c (other_end k v g) v)

leaving : (k : Kind) (v u w : Corner) (c : Cell) (g : Dart) → (v.r ≡ u.r) × (v.x ≡ u.x) → (v.r + 1 ≡ w.r + (g.left.rows + g.right.rows)) × (v.x + cell_width k ≡ w.x + (g.left.columns + g.right.columns))
    → In (side c u w) (sides k c) → In u (corners k c) → IsSideOf k v c g (side c v (other_end k v g))
leaving k v u w c g p q i j =
    let e : IsEnd k v g w = record { row = q.0; column = q.1 } in
    let same : u ≡ v = sym (corner-same v u p.0 p.1) in
    let other : w ≡ other_end k v g = end-is k v w g e in
    record {
      ends = subst (λ z. IsEnd k v g z) other e;
      side = subst (λ z. In (side c v z) (sides k c)) other (subst (λ z. In (side c z w) (sides k c)) same i);
      touches = subst (λ z. In z (corners k c)) same j;
    }

entering : (k : Kind) (v u w : Corner) (c : Cell) (g : Dart) → (v.r ≡ u.r) × (v.x ≡ u.x) → (v.r + 1 ≡ w.r + (g.left.rows + g.right.rows)) × (v.x + cell_width k ≡ w.x + (g.left.columns + g.right.columns))
    → In (side c w u) (sides k c) → In u (corners k c) → IsSideOf k v c g (side c (other_end k v g) v)
entering k v u w c g p q i j =
    let e : IsEnd k v g w = record { row = q.0; column = q.1 } in
    let same : u ≡ v = sym (corner-same v u p.0 p.1) in
    let other : w ≡ other_end k v g = end-is k v w g e in
    record {
      ends = subst (λ z. IsEnd k v g z) other e;
      side = subst (λ z. In (side c z v) (sides k c)) other (subst (λ z. In (side c w z) (sides k c)) same i);
      touches = subst (λ z. In z (corners k c)) same j;
    }

square_leaving : (v : Corner) (c : Cell) → Each (Leaving Square v c) (darts Square)
square_leaving v c = (
  (λ l. leaving Square v (corner (c.r + 1) (c.c + 1)) (corner c.r (c.c + 1)) c (dart 1 1 1 0) (omega arith, omega arith) (omega arith, omega arith) (inr (inr (inl refl))) (inr (inr (inr (inl refl))))),
  (
    (λ l. leaving Square v (corner (c.r + 1) c.c) (corner (c.r + 1) (c.c + 1)) c (dart 1 0 0 0) (omega arith, omega arith) (omega arith, omega arith) (inr (inl refl)) (inr (inr (inl refl)))),
    (
      (λ l. leaving Square v (corner c.r c.c) (corner (c.r + 1) c.c) c (dart 0 0 0 1) (omega arith, omega arith) (omega arith, omega arith) (inl refl) (inl refl)),
      (
        (λ l. leaving Square v (corner c.r (c.c + 1)) (corner c.r c.c) c (dart 0 1 1 1) (omega arith, omega arith) (omega arith, omega arith) (inr (inr (inr (inl refl)))) (inr (inl refl))),
        tt,
      ),
    ),
  ),
)

square_entering : (v : Corner) (c : Cell) → Each (Entering Square v c) (darts Square)
square_entering v c = (
  (λ l. entering Square v (corner (c.r + 1) c.c) (corner c.r c.c) c (dart 1 1 1 0) (omega arith, omega arith) (omega arith, omega arith) (inl refl) (inr (inr (inl refl)))),
  (
    (λ l. entering Square v (corner c.r c.c) (corner c.r (c.c + 1)) c (dart 1 0 0 0) (omega arith, omega arith) (omega arith, omega arith) (inr (inr (inr (inl refl)))) (inl refl)),
    (
      (λ l. entering Square v (corner c.r (c.c + 1)) (corner (c.r + 1) (c.c + 1)) c (dart 0 0 0 1) (omega arith, omega arith) (omega arith, omega arith) (inr (inr (inl refl))) (inr (inl refl))),
      (
        (λ l. entering Square v (corner (c.r + 1) (c.c + 1)) (corner (c.r + 1) c.c) c (dart 0 1 1 1) (omega arith, omega arith) (omega arith, omega arith) (inr (inl refl)) (inr (inr (inr (inl refl))))),
        tt,
      ),
    ),
  ),
)

-- a triangle has the sides and corners of its colour
dark_cell : (v : Corner) (c : Cell) → (c.r + c.c) % 2 ≡ 0 → is_dark c ≡ true
dark_cell v c e = eq-eqb ((c.r + c.c) % 2) 0 e

light_cell : (v : Corner) (c : Cell) → ¬ ((c.r + c.c) % 2 ≡ 0) → is_dark c ≡ false
light_cell v c e = ne_eqb ((c.r + c.c) % 2) 0 e

dark_sides : (c : Cell) → is_dark c ≡ true → (s : Side)
    → In s (side c (corner c.r (c.c + 1)) (corner (c.r + 1) c.c) ∷ side c (corner (c.r + 1) c.c) (corner (c.r + 1) (c.c + 2)) ∷ side c (corner (c.r + 1) (c.c + 2)) (corner c.r (c.c + 1)) ∷ [])
    → In s (sides Triangle c)
dark_sides c d s i = rw d i

light_sides : (c : Cell) → is_dark c ≡ false → (s : Side)
    → In s (side c (corner c.r c.c) (corner (c.r + 1) (c.c + 1)) ∷ side c (corner (c.r + 1) (c.c + 1)) (corner c.r (c.c + 2)) ∷ side c (corner c.r (c.c + 2)) (corner c.r c.c) ∷ [])
    → In s (sides Triangle c)
light_sides c d s i = rw d i

dark_corners : (c : Cell) → is_dark c ≡ true → (v : Corner)
    → In v (corner c.r (c.c + 1) ∷ corner (c.r + 1) c.c ∷ corner (c.r + 1) (c.c + 2) ∷ []) → In v (corners Triangle c)
dark_corners c d v i = rw d i

light_corners : (c : Cell) → is_dark c ≡ false → (v : Corner)
    → In v (corner c.r c.c ∷ corner c.r (c.c + 2) ∷ corner (c.r + 1) (c.c + 1) ∷ []) → In v (corners Triangle c)
light_corners c d v i = rw d i

triangle_leaving : (v : Corner) (c : Cell) → is_corner Triangle v ≡ true → Each (Leaving Triangle v c) (darts Triangle)
triangle_leaving v c h = (
  (λ l. let d : is_dark c ≡ true = dark_cell v c (omega (arith, eqb-true _ _ h)) in leaving Triangle v (corner (c.r + 1) (c.c + 2)) (corner c.r (c.c + 1)) c (dart 1 2 1 1) (omega arith, omega arith) (omega arith, omega arith) (dark_sides c d _ (inr (inr (inl refl)))) (dark_corners c d _ (inr (inr (inl refl))))),
  (
    (λ l. let d : is_dark c ≡ false = light_cell v c (omega (arith, eqb-true _ _ h)) in leaving Triangle v (corner (c.r + 1) (c.c + 1)) (corner c.r (c.c + 2)) c (dart 1 1 1 0) (omega arith, omega arith) (omega arith, omega arith) (light_sides c d _ (inr (inl refl))) (light_corners c d _ (inr (inr (inl refl))))),
    (
      (λ l. let d : is_dark c ≡ true = dark_cell v c (omega (arith, eqb-true _ _ h)) in leaving Triangle v (corner (c.r + 1) c.c) (corner (c.r + 1) (c.c + 2)) c (dart 1 0 0 0) (omega arith, omega arith) (omega arith, omega arith) (dark_sides c d _ (inr (inl refl))) (dark_corners c d _ (inr (inl refl)))),
      (
        (λ l. let d : is_dark c ≡ false = light_cell v c (omega (arith, eqb-true _ _ h)) in leaving Triangle v (corner c.r c.c) (corner (c.r + 1) (c.c + 1)) c (dart 0 0 0 1) (omega arith, omega arith) (omega arith, omega arith) (light_sides c d _ (inl refl)) (light_corners c d _ (inl refl))),
        (
          (λ l. let d : is_dark c ≡ true = dark_cell v c (omega (arith, eqb-true _ _ h)) in leaving Triangle v (corner c.r (c.c + 1)) (corner (c.r + 1) c.c) c (dart 0 1 0 2) (omega arith, omega arith) (omega arith, omega arith) (dark_sides c d _ (inl refl)) (dark_corners c d _ (inl refl))),
          (
            (λ l. let d : is_dark c ≡ false = light_cell v c (omega (arith, eqb-true _ _ h)) in leaving Triangle v (corner c.r (c.c + 2)) (corner c.r c.c) c (dart 0 2 1 2) (omega arith, omega arith) (omega arith, omega arith) (light_sides c d _ (inr (inr (inl refl)))) (light_corners c d _ (inr (inl refl)))),
            tt,
          ),
        ),
      ),
    ),
  ),
)

triangle_entering : (v : Corner) (c : Cell) → is_corner Triangle v ≡ true → Each (Entering Triangle v c) (darts Triangle)
triangle_entering v c h = (
  (λ l. let d : is_dark c ≡ false = light_cell v c (omega (arith, eqb-true _ _ h)) in entering Triangle v (corner (c.r + 1) (c.c + 1)) (corner c.r c.c) c (dart 1 2 1 1) (omega arith, omega arith) (omega arith, omega arith) (light_sides c d _ (inl refl)) (light_corners c d _ (inr (inr (inl refl))))),
  (
    (λ l. let d : is_dark c ≡ true = dark_cell v c (omega (arith, eqb-true _ _ h)) in entering Triangle v (corner (c.r + 1) c.c) (corner c.r (c.c + 1)) c (dart 1 1 1 0) (omega arith, omega arith) (omega arith, omega arith) (dark_sides c d _ (inl refl)) (dark_corners c d _ (inr (inl refl)))),
    (
      (λ l. let d : is_dark c ≡ false = light_cell v c (omega (arith, eqb-true _ _ h)) in entering Triangle v (corner c.r c.c) (corner c.r (c.c + 2)) c (dart 1 0 0 0) (omega arith, omega arith) (omega arith, omega arith) (light_sides c d _ (inr (inr (inl refl)))) (light_corners c d _ (inl refl))),
      (
        (λ l. let d : is_dark c ≡ true = dark_cell v c (omega (arith, eqb-true _ _ h)) in entering Triangle v (corner c.r (c.c + 1)) (corner (c.r + 1) (c.c + 2)) c (dart 0 0 0 1) (omega arith, omega arith) (omega arith, omega arith) (dark_sides c d _ (inr (inr (inl refl)))) (dark_corners c d _ (inl refl))),
        (
          (λ l. let d : is_dark c ≡ false = light_cell v c (omega (arith, eqb-true _ _ h)) in entering Triangle v (corner c.r (c.c + 2)) (corner (c.r + 1) (c.c + 1)) c (dart 0 1 0 2) (omega arith, omega arith) (omega arith, omega arith) (light_sides c d _ (inr (inl refl))) (light_corners c d _ (inr (inl refl)))),
          (
            (λ l. let d : is_dark c ≡ true = dark_cell v c (omega (arith, eqb-true _ _ h)) in entering Triangle v (corner (c.r + 1) (c.c + 2)) (corner (c.r + 1) c.c) c (dart 0 2 1 2) (omega arith, omega arith) (omega arith, omega arith) (dark_sides c d _ (inr (inl refl))) (dark_corners c d _ (inr (inr (inl refl))))),
            tt,
          ),
        ),
      ),
    ),
  ),
)

-- The cell to the left of a dart has its edge as a side that goes out from the corner.
pub left_side : (k : Kind) (v : Corner) (c : Cell) (g : Dart) → is_corner k v ≡ true → In g (darts k) → Lies v g.left c
    → IsSideOf k v c g (side c v (other_end k v g))
left_side Square v c g h i = Each-at (Leaving Square v c) g (darts Square) (square_leaving v c) i
left_side Triangle v c g h i = Each-at (Leaving Triangle v c) g (darts Triangle) (triangle_leaving v c h) i

-- The cell to the right of a dart has its edge as a side that comes to the corner.
pub right_side : (k : Kind) (v : Corner) (c : Cell) (g : Dart) → is_corner k v ≡ true → In g (darts k) → Lies v g.right c
    → IsSideOf k v c g (side c (other_end k v g) v)
right_side Square v c g h i = Each-at (Entering Square v c) g (darts Square) (square_entering v c) i
right_side Triangle v c g h i = Each-at (Entering Triangle v c) g (darts Triangle) (triangle_entering v c h) i
