-- Where the corners beside an inner corner stand.
use Rattle.std.proofs.Common.{◌≡◌, ℕ, ◌+◌, ◌-◌, ◌/◌, ◌%◌, ◌<◌, ◌≤◌, ◌⊎◌, inl, inr, Bool, true, false, [], ◌∷◌, cond, eqb, refl, sym, subst, arith}
use Rattle.std.proofs.lemmas.Bool.{and_parts, cases_eq, cases_order, eq-eqb, eqb-true, eqb-false}
use Rattle.std.specs.List.{list_any}
use Rattle.tl_definitions.specs.declared.Kind.{Kind}
use Rattle.tl_definitions.specs.declared.Kind.TheVariants.{Square, Triangle}
use Rattle.tl_definitions.specs.declared.Cell.{Cell}
use Rattle.tl_definitions.specs.declared.Corner.{Corner}
use Rattle.tl_definitions.specs.Lattice.{class_of, corner, corner_eq, corners, is_corner}
use Rattle.tl_definitions.specs.Region.{Region, is_corner_of, is_inner}
use Rattle.tl_definitions.proofs.Steps.{move-step, move-step_in}
use Rattle.tl_definitions.proofs.Corners.{corner_eq-same, corner-same}
use Rattle.tl_lists.proofs.Members.{In, any-In}
use Rattle.tl_closing.proofs.Stated.{HasRing, inner-ring}
use Rattle.tl_steps.proofs.Stated.{IsBeside, beside-corner}
use Rattle.tl_strings.specs.Strings.{column, row_of, slot_of}
use Rattle.tl_packing.specs.Packing.{AreBesideSquare, AreBesideTriangle, IsFrame, StandsAt}

-- ---- which corners are beside one

abbrev IsNext : ℕ → ℕ → Type 0
IsNext a b = (a ≡ b + 1) ⊎ (a + 1 ≡ b)

swapped : (a b : ℕ) → IsNext a b → IsNext b a
swapped a b (inl e) = inr (sym e)
swapped a b (inr e) = inl (sym e)

across-beside : (v u : Corner) → u.r ≡ v.r → IsNext u.x v.x → IsBeside Square v u
across-beside v u row next = go (cases_eq ((v.r + v.x) % 2) 0)
  where
    odd : IsNext u.x v.x → (v.r + v.x) % 2 ≡ 0 → (u.r + u.x) % 2 ≡ 1
    odd (inl e) even = omega (arith, row, e, even)
    odd (inr e) even = omega (arith, row, e, even)

    go : ((v.r + v.x) % 2 ≡ 0) ⊎ (((v.r + v.x) % 2 ≡ 0) → ⊥) → IsBeside Square v u
    go (inl even) = inl (move-step_in Square u v (inr (odd next even, row, next)))
    go (inr other) = inr (move-step Square v u (inr (omega (arith, other), sym row, swapped u.x v.x next)))

upright-beside : (v u : Corner) → u.x ≡ v.x → IsNext u.r v.r → IsBeside Square v u
upright-beside v u column next = go (cases_eq ((v.r + v.x) % 2) 0)
  where
    even : IsNext u.r v.r → (((v.r + v.x) % 2 ≡ 0) → ⊥) → (u.r + u.x) % 2 ≡ 0
    even (inl e) other = omega (arith, column, e, other)
    even (inr e) other = omega (arith, column, e, other)

    go : ((v.r + v.x) % 2 ≡ 0) ⊎ (((v.r + v.x) % 2 ≡ 0) → ⊥) → IsBeside Square v u
    go (inl here) = inr (move-step Square v u (inl (here, sym column, swapped u.r v.r next)))
    go (inr other) = inl (move-step_in Square u v (inl (even next other, column, next)))

-- ---- corners of the region are corners of the lattice

one-of_three : (P : Corner → Type 0) (a b c v : Corner) → P a → P b → P c → In v (a ∷ b ∷ c ∷ []) → P v
one-of_three P a b c v p q r (inl e) = subst P (sym e) p
one-of_three P a b c v p q r (inr (inl e)) = subst P (sym e) q
one-of_three P a b c v p q r (inr (inr (inl e))) = subst P (sym e) r
one-of_three P a b c v p q r (inr (inr (inr none))) = absurd none

abbrev IsOdd : Corner → Type 0
IsOdd u = (u.r + u.x) % 2 ≡ 1

of-cell : (k : Kind) (a : Cell) (v : Corner) → In v (corners k a) → is_corner k v ≡ true
of-cell Square a v i = refl
of-cell Triangle a v i = eq-eqb _ _ (go (eqb ((a.r + a.c) % 2) 0) refl i)
  where
    go : (t : Bool) → eqb ((a.r + a.c) % 2) 0 ≡ t
        → In v (cond t (corner a.r (a.c + 1) ∷ corner (a.r + 1) a.c ∷ corner (a.r + 1) (a.c + 2) ∷ []) (corner a.r a.c ∷ corner a.r (a.c + 2) ∷ corner (a.r + 1) (a.c + 1) ∷ []))
        → IsOdd v
    go true e j = let dark = eqb-true _ _ e in one-of_three IsOdd _ _ _ v (omega (arith, dark)) (omega (arith, dark)) (omega (arith, dark)) j
    go false e j = let light = eqb-false _ _ e in one-of_three IsOdd _ _ _ v (omega (arith, light)) (omega (arith, light)) (omega (arith, light)) j

pub region-corner : (R : Region) (v : Corner) → is_corner_of R v ≡ true → is_corner R.kind v ≡ true
region-corner R v e = go (any-In (λ a. list_any (corner_eq v) (corners R.kind a)) R.cells e)
  where
    at : (a : Cell) → (w : Corner) × In w (corners R.kind a) × (corner_eq v w ≡ true) → is_corner R.kind v ≡ true
    at a (w, i, same) = of-cell R.kind a v (subst (λ (u : Corner). In u (corners R.kind a)) (sym (corner_eq-same v w same)) i)

    go : (a : Cell) × In a R.cells × (list_any (corner_eq v) (corners R.kind a) ≡ true) → is_corner R.kind v ≡ true
    go (a, i, h) = at a (any-In (corner_eq v) (corners R.kind a) h)

-- ---- inner corners are in no first row or column

pub inner-corner : (R : Region) (v : Corner) → is_inner R v ≡ true → is_corner R.kind v ≡ true
inner-corner R v inner = (and_parts _ _ inner).0

abbrev pub IsWithin : Kind → Corner → Type 0
IsWithin Square v = (1 ≤ v.r) × (1 ≤ v.x)
IsWithin Triangle v = (1 ≤ v.r) × (2 ≤ v.x)

pub inner-within : (R : Region) (v : Corner) → is_inner R v ≡ true → IsWithin R.kind v
inner-within R v inner = go R.kind (inner-ring R v inner)
  where
    go : (k : Kind) → HasRing k R.cells v → IsWithin k v
    go Square ((a, i, p, q), ne, se, sw) = (omega (arith, p), omega (arith, q))
    go Triangle ((a, i, p, q), two, three, four, five, six) = (omega (arith, p), omega (arith, q))

-- ---- columns and slots

-- two corners of one class and row are at least two columns apart
pub class-apart : (k : Kind) (v w : Corner) → is_corner k v ≡ true → is_corner k w ≡ true → class_of k v ≡ class_of k w → v.r ≡ w.r → v.x < w.x
    → column k v + 2 ≤ column k w
class-apart Square v w p q class row less = omega (arith, class, row, less)
class-apart Triangle v w p q class row less = omega (arith, class, row, less, eqb-true _ _ p, eqb-true _ _ q)

-- and so those in one column, or in two beside each other, are the same
pub one-corner : (k : Kind) (v w : Corner) → is_corner k v ≡ true → is_corner k w ≡ true → class_of k v ≡ class_of k w → v.r ≡ w.r
    → column k v ≤ column k w + 1 → column k w ≤ column k v + 1 → v ≡ w
one-corner k v w p q class row left right = go (cases_order v.x w.x)
  where
    go : (v.x ≡ w.x) ⊎ ((v.x < w.x) ⊎ (w.x < v.x)) → v ≡ w
    go (inl e) = corner-same v w row e
    go (inr (inl l)) = absurd (omega (arith, class-apart k v w p q class row l, right))
    go (inr (inr l)) = absurd (omega (arith, class-apart k w v q p (sym class) (sym row) l, left))

-- ---- beside an inner corner

module _ (R : Region) (height first : ℕ) (frame : IsFrame R height first) (v : Corner) (inner : is_inner R v ≡ true) where
  pub slot-not_first : 64 ≤ slot_of R.kind first v
  slot-not_first = omega (arith, frame.columns v inner)

  stands : (k : Kind) (u : Corner) (class row slot : ℕ) → R.kind ≡ k → IsBeside k v u → first ≤ column k u + 1 → column k u ≤ column k v + 1 → class_of k u ≡ class → row_of u ≡ row
      → slot_of k first u ≡ slot → StandsAt R first class row slot u
  stands k u class row slot e beside near on of row_is slot_is = record {
    of_region = beside-corner R v u inner (subst (λ (j : Kind). IsBeside j v u) (sym e) beside);
    not_before = subst (λ (j : Kind). first ≤ column j u + 1) (sym e) near;
    reached = (v, inner, subst (λ (j : Kind). column j u ≤ column j v + 1) (sym e) on);
    of_class = subst (λ (j : Kind). class_of j u ≡ class) (sym e) of;
    row_is = row_is;
    slot_is = subst (λ (j : Kind). slot_of j first u ≡ slot) (sym e) slot_is;
  }

  pub square-beside : R.kind ≡ Square → AreBesideSquare R first v
  square-beside e =
      let within : (1 ≤ v.r) × (1 ≤ v.x) = subst (λ (j : Kind). IsWithin j v) e (inner-within R v inner) in
      let behind : first ≤ v.x = subst (λ (j : Kind). first ≤ column j v) e (frame.columns v inner) in
      record {
        west = stands Square (corner v.r (v.x - 1)) _ _ _ e (across-beside v _ refl (inr (omega (arith, within)))) (omega (arith, behind)) (omega arith)
            (omega (arith, within)) refl (omega (arith, within, behind));
        east = stands Square (corner v.r (v.x + 1)) _ _ _ e (across-beside v _ refl (inl refl)) (omega (arith, behind)) (omega arith)
            (omega (arith, within)) refl (omega (arith, within, behind));
        north = stands Square (corner (v.r - 1) v.x) _ _ _ e (upright-beside v _ refl (inr (omega (arith, within)))) (omega (arith, behind)) (omega arith)
            (omega (arith, within)) (omega (arith, within)) refl;
        south = stands Square (corner (v.r + 1) v.x) _ _ _ e (upright-beside v _ refl (inl refl)) (omega (arith, behind)) (omega arith)
            (omega (arith, within)) refl refl;
      }

  pub triangle-beside : R.kind ≡ Triangle → AreBesideTriangle R first v
  triangle-beside e =
      let within : (1 ≤ v.r) × (2 ≤ v.x) = subst (λ (j : Kind). IsWithin j v) e (inner-within R v inner) in
      let behind : first ≤ (v.x + v.r - 1) / 2 = subst (λ (j : Kind). first ≤ column j v) e (frame.columns v inner) in
      let odd : (v.r + v.x) % 2 ≡ 1 = eqb-true _ _ (subst (λ (j : Kind). is_corner j v ≡ true) e (inner-corner R v inner)) in
      record {
        west = stands Triangle (corner v.r (v.x - 2)) _ _ _ e (inl (move-step_in Triangle _ v (inl (refl, omega (arith, within)))))
            (omega (arith, within, behind)) (omega (arith, within)) (omega (arith, within)) refl (omega (arith, within, behind));
        north_east = stands Triangle (corner (v.r - 1) (v.x + 1)) _ _ _ e
            (inl (move-step_in Triangle _ v (inr (inr (omega (arith, within), refl)))))
            (omega (arith, within, behind)) (omega (arith, within)) (omega (arith, within)) (omega (arith, within)) (omega (arith, within, behind));
        south_east = stands Triangle (corner (v.r + 1) (v.x + 1)) _ _ _ e (inl (move-step_in Triangle _ v (inr (inl (refl, refl)))))
            (omega (arith, within, behind)) (omega (arith, within)) (omega (arith, within)) refl (omega (arith, within, behind));
        east = stands Triangle (corner v.r (v.x + 2)) _ _ _ e (inr (move-step Triangle v _ (inl (refl, refl))))
            (omega (arith, within, behind)) (omega (arith, within)) (omega (arith, within)) refl (omega (arith, within, behind));
        north_west = stands Triangle (corner (v.r - 1) (v.x - 1)) _ _ _ e
            (inr (move-step Triangle v _ (inr (inl (omega (arith, within), omega (arith, within))))))
            (omega (arith, within, behind)) (omega (arith, within)) (omega (arith, within)) (omega (arith, within)) (omega (arith, within, behind));
        south_west = stands Triangle (corner (v.r + 1) (v.x - 1)) _ _ _ e
            (inr (move-step Triangle v _ (inr (inr (refl, omega (arith, within))))))
            (omega (arith, within, behind)) (omega (arith, within)) (omega (arith, within)) refl (omega (arith, within, behind));
      }
