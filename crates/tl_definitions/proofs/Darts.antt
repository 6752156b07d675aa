-- The sides of a cell are darts of the rings of their ends.
use Rattle.std.proofs.Common.{◌≡◌, ℕ, ◌+◌, ◌-◌, ◌%◌, inl, inr, Bool, true, false, [], ◌∷◌, cond, Option, Some, None, refl, ap, arith}
use Rattle.std.specs.Prelude.{nat_lt, ◌==◌, ◌&&◌, ◌||◌, not}
use Rattle.std.specs.List.{list_all}
use Rattle.std.proofs.lemmas.Bool.{and_parts, and_from, eqb-true, eqb-false, eq-eqb, ltb-true, ltb-false}
use Rattle.tl_definitions.specs.declared.Kind.{Kind}
use Rattle.tl_definitions.specs.declared.Kind.TheVariants.{Square, Triangle}
use Rattle.tl_definitions.specs.declared.Cell.{Cell}
use Rattle.tl_definitions.specs.declared.Corner.{Corner}
use Rattle.tl_definitions.specs.declared.rings.Back.{Back}
use Rattle.tl_definitions.specs.declared.rings.Dart.{Dart}
use Rattle.tl_definitions.specs.Lattice.{cell, corner, cell_at, cell_back, less, is_corner, is_dark, sides, Side, side, cell_width}
use Rattle.tl_definitions.specs.Darts.{darts, other_end}
use Rattle.tl_lists.proofs.Members.{In, Each, Each-at, In-list_all}
use Rattle.tl_definitions.proofs.Corners.{corner-same}

-- ---- places by coordinates

-- the cell is the one at this place of the corner's ring
pub record Lies (v : Corner) (b : Back) (c : Cell) : Type 0 where
  pub row : v.r ≡ c.r + b.rows
  pub column : v.x ≡ c.c + b.columns

pub less-some : (n k m : ℕ) → less n k ≡ Some m → n ≡ m + k
less-some n k m e = go (nat_lt n k) refl e
  where
    go : (t : Bool) → nat_lt n k ≡ t → cond t None (Some (n - k)) ≡ Some m → n ≡ m + k
    go true h f = cc f
    go false h f = let same : n - k ≡ m = cc f in omega (arith, same, ltb-false n k h)

pub less-of : (n k m : ℕ) → n ≡ m + k → less n k ≡ Some m
less-of n k m e = go (nat_lt n k) refl
  where
    go : (t : Bool) → nat_lt n k ≡ t → cond t None (Some (n - k)) ≡ Some m
    go true h = absurd (omega (arith, e, ltb-true n k h))
    go false h = let same : n - k ≡ m = omega (arith, e) in ap (λ (z : ℕ). Some z) same

pub cell_at-some : (o p : Option ℕ) (c : Cell) → cell_at o p ≡ Some c → (o ≡ Some c.r) × (p ≡ Some c.c)
cell_at-some None p c e = cc e
cell_at-some (Some r) None c e = cc e
cell_at-some (Some r) (Some x) c e =
    let same : cell r x ≡ c = cc e in
    (ap (λ (a : Cell). Some a.r) same, ap (λ (a : Cell). Some a.c) same)

pub cell_back-lies : (v : Corner) (b : Back) (c : Cell) → cell_back v b.rows b.columns ≡ Some c → Lies v b c
cell_back-lies v b c e =
    let p = cell_at-some (less v.r b.rows) (less v.x b.columns) c e in
    record { row = less-some v.r b.rows c.r p.0; column = less-some v.x b.columns c.c p.1 }

pub lies-cell_back : (v : Corner) (b : Back) (c : Cell) → Lies v b c → cell_back v b.rows b.columns ≡ Some c
lies-cell_back v b c l =
    rw (less-of v.r b.rows c.r l.row, less-of v.x b.columns c.c l.column) refl

-- the two ends of an edge
pub record IsEnd (k : Kind) (v : Corner) (g : Dart) (w : Corner) : Type 0 where
  pub row : v.r + 1 ≡ w.r + (g.left.rows + g.right.rows)
  pub column : v.x + cell_width k ≡ w.x + (g.left.columns + g.right.columns)

pub end-is : (k : Kind) (v w : Corner) (g : Dart) → IsEnd k v g w → w ≡ other_end k v g
end-is k v w g e = corner-same w (other_end k v g) (omega (arith, e.row)) (omega (arith, e.column))

-- two darts of a corner with one other end are the same
abbrev dart_eq : Dart → Dart → Bool
dart_eq g h =
    g.left.rows == h.left.rows && g.left.columns == h.left.columns && g.right.rows == h.right.rows && g.right.columns == h.right.columns

dart_eq-same : (g h : Dart) → dart_eq g h ≡ true → g ≡ h
dart_eq-same g h e =
    let p = and_parts (g.left.rows == h.left.rows && g.left.columns == h.left.columns && g.right.rows == h.right.rows) (g.right.columns == h.right.columns) e in
    let q = and_parts (g.left.rows == h.left.rows && g.left.columns == h.left.columns) (g.right.rows == h.right.rows) p.0 in
    let r = and_parts (g.left.rows == h.left.rows) (g.left.columns == h.left.columns) q.0 in
    let a = eqb-true _ _ r.0 in
    let b = eqb-true _ _ r.1 in
    let c = eqb-true _ _ q.1 in
    let d = eqb-true _ _ p.1 in
    λ i. record { left = record { rows = a i; columns = b i }; right = record { rows = c i; columns = d i } }

abbrev one_end : Dart → Dart → Bool
one_end g h =
    g.left.rows + g.right.rows == h.left.rows + h.right.rows && g.left.columns + g.right.columns == h.left.columns + h.right.columns

abbrev ends_tell : Kind → Bool
ends_tell k = list_all (λ g. list_all (λ h. not (one_end g h) || dart_eq g h) (darts k)) (darts k)

ends_tell-true : (k : Kind) → ends_tell k ≡ true
ends_tell-true Square = refl
ends_tell-true Triangle = refl

one_end-true : (g h : Dart) → g.left.rows + g.right.rows ≡ h.left.rows + h.right.rows → g.left.columns + g.right.columns ≡ h.left.columns + h.right.columns → one_end g h ≡ true
one_end-true g h e f =
    and_from _ _ (eq-eqb (g.left.rows + g.right.rows) (h.left.rows + h.right.rows) e) (eq-eqb (g.left.columns + g.right.columns) (h.left.columns + h.right.columns) f)

pub same_dart : (k : Kind) (v w : Corner) (g h : Dart) → In g (darts k) → In h (darts k) → IsEnd k v g w → IsEnd k v h w → g ≡ h
same_dart k v w g h i j e f =
    dart_eq-same g h (pass (one_end g h) (dart_eq g h) (In-list_all (λ h. not (one_end g h) || dart_eq g h) (darts k) h
    (In-list_all (λ g. list_all (λ h. not (one_end g h) || dart_eq g h) (darts k)) (darts k) g (ends_tell-true k) i) j)
    (one_end-true g h (omega (arith, e.row, f.row)) (omega (arith, e.column, f.column))))
  where
    pass : (s t : Bool) → (not s || t) ≡ true → s ≡ true → t ≡ true
    pass true t m n = m
    pass false t m n = cc n

-- ---- sides as darts

-- A side of a cell, from its first end: the cell is on the left of the dart that leads to the other end.
pub record LeavesBy (k : Kind) (c : Cell) (v w : Corner) (g : Dart) : Type 0 where
  pub dart : In g (darts k)
  pub lies : Lies v g.left c
  pub ends : IsEnd k v g w

-- and from its second end: the cell is on the right of the dart that leads back
pub record EntersBy (k : Kind) (c : Cell) (v w : Corner) (g : Dart) : Type 0 where
  pub dart : In g (darts k)
  pub lies : Lies w g.right c
  pub ends : IsEnd k w g v

abbrev pub HasDarts : Kind → Cell → Side → Type 0
HasDarts k c s =
    ((g : Dart) × LeavesBy k c s.from s.to g) × ((g : Dart) × EntersBy k c s.from s.to g) × (s.cell ≡ c) × (is_corner k s.from ≡ true) × (is_corner k s.to ≡ true)

abbrev pub dart : ℕ → ℕ → ℕ → ℕ → Dart
dart a b c d = record { left = record { rows = a; columns = b }; right = record { rows = c; columns = d } }

both_ways : (k : Kind) (a : Cell) (v w : Corner) (g h : Dart) → In g (darts k) → In h (darts k) → is_corner k v ≡ true → is_corner k w ≡ true
    → (v.r ≡ a.r + g.left.rows) × (v.x ≡ a.c + g.left.columns) × (v.r + 1 ≡ w.r + (g.left.rows + g.right.rows)) × (v.x + cell_width k ≡ w.x + (g.left.columns + g.right.columns))
    → (w.r ≡ a.r + h.right.rows) × (w.x ≡ a.c + h.right.columns) × (w.r + 1 ≡ v.r + (h.left.rows + h.right.rows)) × (w.x + cell_width k ≡ v.x + (h.left.columns + h.right.columns))
    → HasDarts k a (side a v w)
both_ways k a v w g h i j cv cw p q = (
  (g, record { dart = i; lies = record { row = p.0; column = p.1 }; ends = record { row = p.2; column = p.3 } }),
  (h, record { dart = j; lies = record { row = q.0; column = q.1 }; ends = record { row = q.2; column = q.3 } }),
  refl,
  cv,
  cw,
)

darts-square_side : (a : Cell) → Each (HasDarts Square a) (sides Square a)
darts-square_side a = (
  both_ways Square a (corner a.r a.c) (corner (a.r + 1) a.c) (dart 0 0 0 1) (dart 1 1 1 0) (inr (inr (inl refl))) (inl refl) refl refl
      (omega arith, omega arith, omega arith, omega arith) (omega arith, omega arith, omega arith, omega arith),
  (
    both_ways Square a (corner (a.r + 1) a.c) (corner (a.r + 1) (a.c + 1)) (dart 1 0 0 0) (dart 0 1 1 1) (inr (inl refl)) (inr (inr (inr (inl refl)))) refl refl
        (omega arith, omega arith, omega arith, omega arith) (omega arith, omega arith, omega arith, omega arith),
    (
      both_ways Square a (corner (a.r + 1) (a.c + 1)) (corner a.r (a.c + 1)) (dart 1 1 1 0) (dart 0 0 0 1) (inl refl) (inr (inr (inl refl))) refl refl
          (omega arith, omega arith, omega arith, omega arith) (omega arith, omega arith, omega arith, omega arith),
      (
        both_ways Square a (corner a.r (a.c + 1)) (corner a.r a.c) (dart 0 1 1 1) (dart 1 0 0 0) (inr (inr (inr (inl refl)))) (inr (inl refl)) refl refl
            (omega arith, omega arith, omega arith, omega arith) (omega arith, omega arith, omega arith, omega arith),
        tt,
      ),
    ),
  ),
)

odd : (n : ℕ) → n % 2 ≡ 1 → (n % 2 == 1) ≡ true
odd n e = eq-eqb (n % 2) 1 e

dark_side : (a : Cell) → is_dark a ≡ true
    → Each (HasDarts Triangle a) (side a (corner a.r (a.c + 1)) (corner (a.r + 1) a.c) ∷ side a (corner (a.r + 1) a.c) (corner (a.r + 1) (a.c + 2)) ∷ side a (corner (a.r + 1) (a.c + 2)) (corner a.r (a.c + 1)) ∷ [])
dark_side a h =
    let even : (a.r + a.c) % 2 ≡ 0 = eqb-true _ _ h in
    let top : is_corner Triangle (corner a.r (a.c + 1)) ≡ true = odd (a.r + (a.c + 1)) (omega (arith, even)) in
    let left_end : is_corner Triangle (corner (a.r + 1) a.c) ≡ true = odd (a.r + 1 + a.c) (omega (arith, even)) in
    let right_end : is_corner Triangle (corner (a.r + 1) (a.c + 2)) ≡ true = odd (a.r + 1 + (a.c + 2)) (omega (arith, even)) in (
      both_ways Triangle a (corner a.r (a.c + 1)) (corner (a.r + 1) a.c) (dart 0 1 0 2) (dart 1 1 1 0) (inr (inr (inr (inr (inl refl))))) (inr (inl refl)) top left_end
          (omega arith, omega arith, omega arith, omega arith) (omega arith, omega arith, omega arith, omega arith),
      (
        both_ways Triangle a (corner (a.r + 1) a.c) (corner (a.r + 1) (a.c + 2)) (dart 1 0 0 0) (dart 0 2 1 2) (inr (inr (inl refl))) (inr (inr (inr (inr (inr (inl refl)))))) left_end right_end
            (omega arith, omega arith, omega arith, omega arith) (omega arith, omega arith, omega arith, omega arith),
        (
          both_ways Triangle a (corner (a.r + 1) (a.c + 2)) (corner a.r (a.c + 1)) (dart 1 2 1 1) (dart 0 0 0 1) (inl refl) (inr (inr (inr (inl refl)))) right_end top
              (omega arith, omega arith, omega arith, omega arith) (omega arith, omega arith, omega arith, omega arith),
          tt,
        ),
      ),
    )

light_side : (a : Cell) → is_dark a ≡ false
    → Each (HasDarts Triangle a) (side a (corner a.r a.c) (corner (a.r + 1) (a.c + 1)) ∷ side a (corner (a.r + 1) (a.c + 1)) (corner a.r (a.c + 2)) ∷ side a (corner a.r (a.c + 2)) (corner a.r a.c) ∷ [])
light_side a h =
    let uneven : ¬ ((a.r + a.c) % 2 ≡ 0) = eqb-false _ _ h in
    let left_end : is_corner Triangle (corner a.r a.c) ≡ true = odd (a.r + a.c) (omega (arith, uneven)) in
    let foot : is_corner Triangle (corner (a.r + 1) (a.c + 1)) ≡ true = odd (a.r + 1 + (a.c + 1)) (omega (arith, uneven)) in
    let right_end : is_corner Triangle (corner a.r (a.c + 2)) ≡ true = odd (a.r + (a.c + 2)) (omega (arith, uneven)) in (
      both_ways Triangle a (corner a.r a.c) (corner (a.r + 1) (a.c + 1)) (dart 0 0 0 1) (dart 1 2 1 1) (inr (inr (inr (inl refl)))) (inl refl) left_end foot
          (omega arith, omega arith, omega arith, omega arith) (omega arith, omega arith, omega arith, omega arith),
      (
        both_ways Triangle a (corner (a.r + 1) (a.c + 1)) (corner a.r (a.c + 2)) (dart 1 1 1 0) (dart 0 1 0 2) (inr (inl refl)) (inr (inr (inr (inr (inl refl))))) foot right_end
            (omega arith, omega arith, omega arith, omega arith) (omega arith, omega arith, omega arith, omega arith),
        (
          both_ways Triangle a (corner a.r (a.c + 2)) (corner a.r a.c) (dart 0 2 1 2) (dart 1 0 0 0) (inr (inr (inr (inr (inr (inl refl)))))) (inr (inr (inl refl))) right_end left_end
              (omega arith, omega arith, omega arith, omega arith) (omega arith, omega arith, omega arith, omega arith),
          tt,
        ),
      ),
    )

side_darts-each : (k : Kind) (a : Cell) → Each (HasDarts k a) (sides k a)
side_darts-each Square a = darts-square_side a
side_darts-each Triangle a = go (is_dark a) refl
  where
    go : (t : Bool) → is_dark a ≡ t
        → Each (HasDarts Triangle a) (cond t
        (side a (corner a.r (a.c + 1)) (corner (a.r + 1) a.c) ∷ side a (corner (a.r + 1) a.c) (corner (a.r + 1) (a.c + 2)) ∷ side a (corner (a.r + 1) (a.c + 2)) (corner a.r (a.c + 1)) ∷ [])
        (side a (corner a.r a.c) (corner (a.r + 1) (a.c + 1)) ∷ side a (corner (a.r + 1) (a.c + 1)) (corner a.r (a.c + 2)) ∷ side a (corner a.r (a.c + 2)) (corner a.r a.c) ∷ []))
    go true h = dark_side a h
    go false h = light_side a h

-- each side of a cell is a dart at both of its ends, which are corners
pub side_darts : (k : Kind) (a : Cell) (s : Side) → In s (sides k a) → HasDarts k a s
side_darts k a s i = Each-at (HasDarts k a) s (sides k a) (side_darts-each k a) i
