-- A corner of a region is either an inner corner or a boundary corner, and never both.
use Rattle.std.proofs.Common.{◌≡◌, ◌⊎◌, inl, inr, Bool, true, false, ◌&&◌, ◌||◌, not, refl, sym, ◌∙◌, ap, subst}
use Rattle.std.specs.List.{list_any, list_all}
use Rattle.std.proofs.lemmas.Bool.{and_parts, and_from}
use Rattle.tl_definitions.specs.declared.Kind.{Kind}
use Rattle.tl_definitions.specs.declared.Kind.TheVariants.{Square, Triangle}
use Rattle.tl_definitions.specs.declared.Corner.{Corner}
use Rattle.tl_definitions.specs.Lattice.{cell_back, corner_eq, is_corner, ring, side}
use Rattle.tl_definitions.specs.Region.{Region, has_at, is_inner, is_corner_of, boundary}
use Rattle.tl_definitions.specs.Darts.{darts, left_cell, other_end, leaves}
use Rattle.tl_definitions.specs.Boundary.{is_boundary_corner}
use Rattle.tl_definitions.proofs.CornerRings.{is_corner_of-ring}
use Rattle.tl_definitions.proofs.Turns.{goes, every, every-at}
use Rattle.tl_definitions.proofs.BoundarySides.{boundary-leaves}
use Rattle.tl_definitions.proofs.NextCorner.{leaves-from, leaves-side}
use Rattle.tl_lists.proofs.Members.{any-In, In-any_of}
use Rattle.tl_definitions.proofs.Corners.{corner_eq-same, corner_eq-refl}

-- Where some place of a ring is taken and none of the taken ones is followed by one that isn't, all are taken.
abbrev fits : Bool → Bool → Bool → Bool
fits some left all = not some || (left || all)

abbrev four_fit : Bool → Bool → Bool → Bool → Bool
four_fit a b c d =
    fits (a || (b || (c || (d || false)))) (goes a b || (goes b c || (goes c d || (goes d a || false)))) (a && (b && (c && (d && true))))

four : (a b c d : Bool) → four_fit a b c d ≡ true
four a b c d =
    every-at (λ w. four_fit a b c w)
    (every-at (λ z. every (λ w. four_fit a b z w))
    (every-at (λ y. every (λ z. every (λ w. four_fit a y z w)))
    (every-at (λ x. every (λ y. every (λ z. every (λ w. four_fit x y z w)))) refl a) b) c) d

abbrev six_fit : Bool → Bool → Bool → Bool → Bool → Bool → Bool
six_fit a b c d e f =
    fits (a || (b || (c || (d || (e || (f || false))))))
    (goes a b || (goes b c || (goes c d || (goes d e || (goes e f || (goes f a || false)))))) (a && (b && (c && (d && (e && (f && true))))))

abbrev last_fit : Bool → Bool → Bool → Bool → Bool
last_fit a b c d = every (λ u. every (λ t. six_fit a b c d u t))

six : (a b c d e f : Bool) → six_fit a b c d e f ≡ true
six a b c d e f =
    every-at (λ t. six_fit a b c d e t)
    (every-at (λ u. every (λ t. six_fit a b c d u t))
    (every-at (λ w. last_fit a b c w)
    (every-at (λ z. every (λ w. last_fit a b z w))
    (every-at (λ y. every (λ z. every (λ w. last_fit a y z w)))
    (every-at (λ x. every (λ y. every (λ z. every (λ w. last_fit x y z w)))) refl a) b) c) d) e) f

ring_fits : (R : Region) (v : Corner)
    → fits (list_any (λ g. has_at R (left_cell v g)) (darts R.kind)) (list_any (leaves R v) (darts R.kind)) (list_all (has_at R) (ring R.kind v)) ≡ true
ring_fits R v = go R.kind
  where
    go : (k : Kind) → fits (list_any (λ g. has_at R (left_cell v g)) (darts k)) (list_any (leaves R v) (darts k)) (list_all (has_at R) (ring k v)) ≡ true
    go Square = four (has_at R (cell_back v 1 1)) (has_at R (cell_back v 1 0)) (has_at R (cell_back v 0 0)) (has_at R (cell_back v 0 1))
    go Triangle =
        six (has_at R (cell_back v 1 2)) (has_at R (cell_back v 1 1)) (has_at R (cell_back v 1 0)) (has_at R (cell_back v 0 0)) (has_at R (cell_back v 0 1))
        (has_at R (cell_back v 0 2))

-- and where all are taken, no taken one is followed by one that isn't
abbrev shuts : Bool → Bool → Bool
shuts all left = not (all && left)

abbrev four_shut : Bool → Bool → Bool → Bool → Bool
four_shut a b c d = shuts (a && (b && (c && (d && true)))) (goes a b || (goes b c || (goes c d || (goes d a || false))))

four_shuts : (a b c d : Bool) → four_shut a b c d ≡ true
four_shuts a b c d =
    every-at (λ w. four_shut a b c w)
    (every-at (λ z. every (λ w. four_shut a b z w))
    (every-at (λ y. every (λ z. every (λ w. four_shut a y z w)))
    (every-at (λ x. every (λ y. every (λ z. every (λ w. four_shut x y z w)))) refl a) b) c) d

abbrev six_shut : Bool → Bool → Bool → Bool → Bool → Bool → Bool
six_shut a b c d e f =
    shuts (a && (b && (c && (d && (e && (f && true)))))) (goes a b || (goes b c || (goes c d || (goes d e || (goes e f || (goes f a || false))))))

abbrev last_shut : Bool → Bool → Bool → Bool → Bool
last_shut a b c d = every (λ u. every (λ t. six_shut a b c d u t))

six_shuts : (a b c d e f : Bool) → six_shut a b c d e f ≡ true
six_shuts a b c d e f =
    every-at (λ t. six_shut a b c d e t)
    (every-at (λ u. every (λ t. six_shut a b c d u t))
    (every-at (λ w. last_shut a b c w)
    (every-at (λ z. every (λ w. last_shut a b z w))
    (every-at (λ y. every (λ z. every (λ w. last_shut a y z w)))
    (every-at (λ x. every (λ y. every (λ z. every (λ w. last_shut x y z w)))) refl a) b) c) d) e) f

ring_shuts : (R : Region) (v : Corner) → shuts (list_all (has_at R) (ring R.kind v)) (list_any (leaves R v) (darts R.kind)) ≡ true
ring_shuts R v = go R.kind
  where
    go : (k : Kind) → shuts (list_all (has_at R) (ring k v)) (list_any (leaves R v) (darts k)) ≡ true
    go Square = four_shuts (has_at R (cell_back v 1 1)) (has_at R (cell_back v 1 0)) (has_at R (cell_back v 0 0)) (has_at R (cell_back v 0 1))
    go Triangle =
        six_shuts (has_at R (cell_back v 1 2)) (has_at R (cell_back v 1 1)) (has_at R (cell_back v 1 0)) (has_at R (cell_back v 0 0))
        (has_at R (cell_back v 0 1)) (has_at R (cell_back v 0 2))

some_leaves : (R : Region) (v : Corner) → is_corner R.kind v ≡ true → list_any (leaves R v) (darts R.kind) ≡ true → is_boundary_corner R v ≡ true
some_leaves R v h e =
    let (g, i, m) = any-In (leaves R v) (darts R.kind) e in
    let (c, is, j) = leaves-side R v g h i m in
    In-any_of (λ s. corner_eq s.from v) (side c v (other_end R.kind v g)) (boundary R) j (corner_eq-refl v)

-- each corner of the region is one of the two
pub inner_or_boundary : (R : Region) (v : Corner) → is_corner R.kind v ≡ true → is_corner_of R v ≡ true → (is_inner R v ≡ true) ⊎ (is_boundary_corner R v ≡ true)
inner_or_boundary R v h e =
    go (list_any (leaves R v) (darts R.kind)) refl (list_all (has_at R) (ring R.kind v)) refl
    (subst (λ b. fits b (list_any (leaves R v) (darts R.kind)) (list_all (has_at R) (ring R.kind v)) ≡ true) (sym (is_corner_of-ring R v h) ∙ e) (ring_fits R v))
  where
    go : (l : Bool) → list_any (leaves R v) (darts R.kind) ≡ l → (a : Bool) → list_all (has_at R) (ring R.kind v) ≡ a → fits true l a ≡ true
        → (is_inner R v ≡ true) ⊎ (is_boundary_corner R v ≡ true)
    go true k a m f = inr (some_leaves R v h k)
    go false k true m f = inl (and_from _ _ h m)
    go false k false m f = cc f

-- and none is both
pub not_inner_and_boundary : (R : Region) (v : Corner) → is_inner R v ≡ true → is_boundary_corner R v ≡ true → ⊥
not_inner_and_boundary R v e f =
    let (s, i, q) = any-In (λ s. corner_eq s.from v) (boundary R) f in
    let (g, l) = boundary-leaves R s i in
    let left : list_any (leaves R v) (darts R.kind) ≡ true =
    In-any_of (leaves R v) g (darts R.kind) l.dart (subst (λ z. leaves R z g ≡ true) (corner_eq-same s.from v q) (leaves-from R s g l)) in
    let all : list_all (has_at R) (ring R.kind v) ≡ true = (and_parts (is_corner R.kind v) (list_all (has_at R) (ring R.kind v)) e).1 in
    let no : shuts true true ≡ true =
    ap (shuts true) (sym left) ∙ (ap (λ (b : Bool). shuts b (list_any (leaves R v) (darts R.kind))) (sym all) ∙ ring_shuts R v) in
    cc no
