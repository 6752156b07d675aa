-- Corners: when two are the same, and their raster order.
use Rattle.std.proofs.Common.{◌≡◌, ℕ, ◌+◌, ◌*◌, ◌/◌, ◌<◌, ◌⊎◌, inl, inr, true, ◌&&◌, refl, sym, ◌∙◌, ap, arith}
use Rattle.std.specs.Prelude.{nat_lt, ◌==◌}
use Rattle.std.proofs.lemmas.Bool.{and_parts, and_from, or_cases, or_left, or_right, eqb-true, eq-eqb, ltb-true, lt-ltb}
use Rattle.std.proofs.lemmas.Nat.{div-mul-add}
use Rattle.tl_definitions.specs.declared.Corner.{Corner}
use Rattle.tl_definitions.specs.Lattice.{corner_eq, corner_lt}

pub corner-same : (u v : Corner) → u.r ≡ v.r → u.x ≡ v.x → u ≡ v
corner-same u v h k = λ i. record { r = h i; x = k i }

pub corner_eq-parts : (u v : Corner) → corner_eq u v ≡ true → (u.r ≡ v.r) × (u.x ≡ v.x)
corner_eq-parts u v e = let p = and_parts (u.r == v.r) (u.x == v.x) e in (eqb-true _ _ p.0, eqb-true _ _ p.1)

pub corner_eq-same : (u v : Corner) → corner_eq u v ≡ true → u ≡ v
corner_eq-same u v e = let p = corner_eq-parts u v e in corner-same u v p.0 p.1

pub corner_eq-refl : (v : Corner) → corner_eq v v ≡ true
corner_eq-refl v = and_from _ _ (eq-eqb v.r v.r refl) (eq-eqb v.x v.x refl)

-- two corners with one place in a row-major list are the same
pub same_place : (u v : Corner) (w : ℕ) → u.x < w → v.x < w → u.r * w + u.x ≡ v.r * w + v.x → u ≡ v
same_place u v w h k e =
    let rows : u.r ≡ v.r = sym (div-mul-add u.r w u.x h) ∙ ap (λ (n : ℕ). n / w) e ∙ div-mul-add v.r w v.x k in
    let start : u.r * w ≡ v.r * w = ap (λ (n : ℕ). n * w) rows in
    corner-same u v rows (omega (arith, e, start))

-- ---- raster order

pub corner_lt-cases : (u v : Corner) → corner_lt u v ≡ true → (u.r < v.r) ⊎ ((u.r ≡ v.r) × (u.x < v.x))
corner_lt-cases u v e = go (or_cases (nat_lt u.r v.r) (u.r == v.r && nat_lt u.x v.x) e)
  where
    go : (nat_lt u.r v.r ≡ true) ⊎ ((u.r == v.r && nat_lt u.x v.x) ≡ true) → (u.r < v.r) ⊎ ((u.r ≡ v.r) × (u.x < v.x))
    go (inl h) = inl (ltb-true _ _ h)
    go (inr h) = let p = and_parts (u.r == v.r) (nat_lt u.x v.x) h in inr (eqb-true _ _ p.0, ltb-true _ _ p.1)

pub corner_lt-from : (u v : Corner) → (u.r < v.r) ⊎ ((u.r ≡ v.r) × (u.x < v.x)) → corner_lt u v ≡ true
corner_lt-from u v (inl h) = or_left (nat_lt u.r v.r) _ (lt-ltb _ _ h)
corner_lt-from u v (inr h) = or_right (nat_lt u.r v.r) _ (and_from _ _ (eq-eqb u.r v.r h.0) (lt-ltb u.x v.x h.1))

pub corner_lt-irreflexive : (v : Corner) → corner_lt v v ≡ true → ⊥
corner_lt-irreflexive v e = go (corner_lt-cases v v e)
  where
    go : (v.r < v.r) ⊎ ((v.r ≡ v.r) × (v.x < v.x)) → ⊥
    go (inl h) = omega (arith, h)
    go (inr h) = omega (arith, h.1)

pub corner_lt-transitive : (u v w : Corner) → corner_lt u v ≡ true → corner_lt v w ≡ true → corner_lt u w ≡ true
corner_lt-transitive u v w e f = corner_lt-from u w (go (corner_lt-cases u v e) (corner_lt-cases v w f))
  where
    go : (u.r < v.r) ⊎ ((u.r ≡ v.r) × (u.x < v.x)) → (v.r < w.r) ⊎ ((v.r ≡ w.r) × (v.x < w.x)) → (u.r < w.r) ⊎ ((u.r ≡ w.r) × (u.x < w.x))
    go (inl h) (inl k) = inl (omega (arith, h, k))
    go (inl h) (inr k) = inl (omega (arith, h, k.0))
    go (inr h) (inl k) = inl (omega (arith, h.0, k))
    go (inr h) (inr k) = inr (omega (arith, h.0, k.0), omega (arith, h.1, k.1))
