-- The corners of a region are corners of its lattice.
use Rattle.std.proofs.Common.{◌≡◌, ◌+◌, ◌%◌, inl, inr, Bool, true, false, cond, eqb, [], ◌∷◌, refl, sym, subst, arith}
use Rattle.std.specs.List.{list_any}
use Rattle.std.proofs.lemmas.Bool.{eqb-false, eqb-true, eq-eqb}
use Rattle.tl_definitions.specs.declared.Kind.{Kind}
use Rattle.tl_definitions.specs.declared.Kind.TheVariants.{Square, Triangle}
use Rattle.tl_definitions.specs.declared.Cell.{Cell}
use Rattle.tl_definitions.specs.declared.Corner.{Corner}
use Rattle.tl_definitions.specs.Lattice.{corner, corner_eq, corners, is_corner}
use Rattle.tl_definitions.specs.Region.{Region, is_corner_of}
use Rattle.tl_definitions.proofs.Corners.{corner_eq-same}
use Rattle.tl_lists.proofs.Members.{any-In, In}

one-of_three : (P : Corner → Type 0) (a b c v : Corner) → P a → P b → P c → In v (a ∷ b ∷ c ∷ []) → P v
one-of_three P a b c v p q r (inl e) = subst P (sym e) p
one-of_three P a b c v p q r (inr (inl e)) = subst P (sym e) q
one-of_three P a b c v p q r (inr (inr (inl e))) = subst P (sym e) r
one-of_three P a b c v p q r (inr (inr (inr none))) = absurd none

abbrev IsOdd : Corner → Type 0
IsOdd u = (u.r + u.x) % 2 ≡ 1

of-cell : (k : Kind) (a : Cell) (v : Corner) → In v (corners k a) → is_corner k v ≡ true
of-cell Square a v i = refl
of-cell Triangle a v i = eq-eqb _ _ (go (eqb ((a.r + a.c) % 2) 0) refl i)
  where
    go : (t : Bool) → eqb ((a.r + a.c) % 2) 0 ≡ t
        → In v (cond t (corner a.r (a.c + 1) ∷ corner (a.r + 1) a.c ∷ corner (a.r + 1) (a.c + 2) ∷ []) (corner a.r a.c ∷ corner a.r (a.c + 2) ∷ corner (a.r + 1) (a.c + 1) ∷ []))
        → IsOdd v
    go true e j = let dark = eqb-true _ _ e in one-of_three IsOdd _ _ _ v (omega (arith, dark)) (omega (arith, dark)) (omega (arith, dark)) j
    go false e j = let light = eqb-false _ _ e in one-of_three IsOdd _ _ _ v (omega (arith, light)) (omega (arith, light)) (omega (arith, light)) j

pub region-corner : (R : Region) (v : Corner) → is_corner_of R v ≡ true → is_corner R.kind v ≡ true
region-corner R v e = go (any-In (λ a. list_any (corner_eq v) (corners R.kind a)) R.cells e)
  where
    at : (a : Cell) → (w : Corner) × In w (corners R.kind a) × (corner_eq v w ≡ true) → is_corner R.kind v ≡ true
    at a (w, i, same) = of-cell R.kind a v (subst (λ (u : Corner). In u (corners R.kind a)) (sym (corner_eq-same v w same)) i)

    go : (a : Cell) × In a R.cells × (list_any (corner_eq v) (corners R.kind a) ≡ true) → is_corner R.kind v ≡ true
    go (a, i, h) = at a (any-In (corner_eq v) (corners R.kind a) h)
