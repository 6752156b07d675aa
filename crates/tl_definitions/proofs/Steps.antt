-- Directed steps by their coordinates; and the steps to a corner are those from the corners before it.
use Rattle.std.proofs.Common.{◌≡◌, ℕ, ◌+◌, ◌%◌, ◌⊎◌, inl, inr, Bool, true, false, List, [], ◌∷◌, cond, Option, Some, None, refl, sym, ap, arith, eqb}
use Rattle.std.specs.List.{list_any, cons_option}
use Rattle.std.proofs.lemmas.Bool.{eqb-true, eqb-false, eq-eqb, ne_eqb}
use Rattle.tl_definitions.specs.declared.Kind.{Kind}
use Rattle.tl_definitions.specs.declared.Kind.TheVariants.{Square, Triangle}
use Rattle.tl_definitions.specs.declared.Corner.{Corner}
use Rattle.tl_definitions.specs.Lattice.{corner, corner_at, corner_eq, less, steps_out, steps_in, class_of}
use Rattle.tl_lists.specs.Lists.{present}
use Rattle.tl_lists.proofs.Tests.{same_test}
use Rattle.tl_lists.proofs.Members.{In}
use Rattle.tl_definitions.proofs.Corners.{corner-same}
use Rattle.tl_definitions.proofs.Darts.{less-of, less-some}
use Rattle.tl_definitions.proofs.Walks.{corner-In, In-corner}

corner_at-parts : (o p : Option ℕ) (v : Corner) (vs : List Corner) → In v (cons_option (corner_at o p) vs)
    → ((o ≡ Some v.r) × (p ≡ Some v.x)) ⊎ In v vs
corner_at-parts (Some r) (Some x) v vs (inl e) = inl (ap (λ (u : Corner). Some u.r) (sym e), ap (λ (u : Corner). Some u.x) (sym e))
corner_at-parts (Some r) (Some x) v vs (inr i) = inr i
corner_at-parts (Some r) None v vs i = inr i
corner_at-parts None p v vs i = inr i

-- v is at the end of a directed step from u; and u is where one to v begins
abbrev pub IsStepOut : Kind → Corner → Corner → Type 0
IsStepOut k u v = In v (present (steps_out k u))

abbrev pub IsStepIn : Kind → Corner → Corner → Type 0
IsStepIn k u v = In u (present (steps_in k v))

-- the same by coordinates
abbrev pub IsMove : Kind → Corner → Corner → Type 0
IsMove Square u v =
    (((u.r + u.x) % 2 ≡ 0) × (u.x ≡ v.x) × ((u.r ≡ v.r + 1) ⊎ (u.r + 1 ≡ v.r)))
    ⊎ (((u.r + u.x) % 2 ≡ 1) × (u.r ≡ v.r) × ((u.x ≡ v.x + 1) ⊎ (u.x + 1 ≡ v.x)))
IsMove Triangle u v =
    ((u.r ≡ v.r) × (u.x + 2 ≡ v.x))
    ⊎ (((u.r ≡ v.r + 1) × (u.x ≡ v.x + 1)) ⊎ ((u.r + 1 ≡ v.r) × (u.x ≡ v.x + 1)))

pub move-step : (k : Kind) (u v : Corner) → IsMove k u v → IsStepOut k u v
move-step Square u v (inl (even, column, inl up)) = rw (eq-eqb _ _ even, less-of u.r 1 v.r up) (inl (corner-same v (corner v.r u.x) refl (sym column)))
move-step Square u v (inl (even, column, inr down)) = rw (eq-eqb _ _ even) (last (corner_at (less u.r 1) (Some u.x)))
  where
    last : (o : Option Corner) → In v (cons_option o (corner (u.r + 1) u.x ∷ []))
    last None = inl (corner-same v (corner (u.r + 1) u.x) (sym down) (sym column))
    last (Some w) = inr (inl (corner-same v (corner (u.r + 1) u.x) (sym down) (sym column)))
move-step Square u v (inr (odd, row, inl back)) = rw (ne_eqb ((u.r + u.x) % 2) 0 (omega (arith, odd)), less-of u.x 1 v.x back) (inl (corner-same v (corner u.r v.x) (sym row) refl))
move-step Square u v (inr (odd, row, inr on)) = rw (ne_eqb ((u.r + u.x) % 2) 0 (omega (arith, odd))) (last (corner_at (Some u.r) (less u.x 1)))
  where
    last : (o : Option Corner) → In v (cons_option o (corner u.r (u.x + 1) ∷ []))
    last None = inl (corner-same v (corner u.r (u.x + 1)) (sym row) (sym on))
    last (Some w) = inr (inl (corner-same v (corner u.r (u.x + 1)) (sym row) (sym on)))
move-step Triangle u v (inl (row, on)) = inl (corner-same v (corner u.r (u.x + 2)) (sym row) (sym on))
move-step Triangle u v (inr (inl (up, back))) = rw (less-of u.r 1 v.r up, less-of u.x 1 v.x back) (inr (inl refl))
move-step Triangle u v (inr (inr (down, back))) = rw (less-of u.x 1 v.x back) (inr (last (corner_at (less u.r 1) (Some v.x))))
  where
    last : (o : Option Corner) → In v (cons_option o (corner (u.r + 1) v.x ∷ []))
    last None = inl (corner-same v (corner (u.r + 1) v.x) (sym down) refl)
    last (Some w) = inr (inl (corner-same v (corner (u.r + 1) v.x) (sym down) refl))

pub step-move : (k : Kind) (u v : Corner) → IsStepOut k u v → IsMove k u v
step-move Square u v i = go (eqb ((u.r + u.x) % 2) 0) refl i
  where
    even_cases : (u.r + u.x) % 2 ≡ 0 → ((less u.r 1 ≡ Some v.r) × (Some u.x ≡ Some v.x)) ⊎ ((v ≡ corner (u.r + 1) u.x) ⊎ ⊥) → IsMove Square u v
    even_cases e (inl (up, column)) = inl (e, cc column, inl (less-some u.r 1 v.r up))
    even_cases e (inr (inl same)) = inl (e, ap (λ (w : Corner). w.x) (sym same), inr (ap (λ (w : Corner). w.r) (sym same)))
    even_cases e (inr (inr none)) = absurd none

    odd_cases : (u.r + u.x) % 2 ≡ 1 → ((Some u.r ≡ Some v.r) × (less u.x 1 ≡ Some v.x)) ⊎ ((v ≡ corner u.r (u.x + 1)) ⊎ ⊥) → IsMove Square u v
    odd_cases e (inl (row, back)) = inr (e, cc row, inl (less-some u.x 1 v.x back))
    odd_cases e (inr (inl same)) = inr (e, ap (λ (w : Corner). w.r) (sym same), inr (ap (λ (w : Corner). w.x) (sym same)))
    odd_cases e (inr (inr none)) = absurd none

    go : (t : Bool) → eqb ((u.r + u.x) % 2) 0 ≡ t
        → In v (present (cond t (corner_at (less u.r 1) (Some u.x) ∷ Some (corner (u.r + 1) u.x) ∷ []) (corner_at (Some u.r) (less u.x 1) ∷ Some (corner u.r (u.x + 1)) ∷ [])))
        → IsMove Square u v
    go true e i = even_cases (eqb-true _ _ e) (corner_at-parts (less u.r 1) (Some u.x) v (corner (u.r + 1) u.x ∷ []) i)
    go false e i = odd_cases (odd (eqb-false _ _ e)) (corner_at-parts (Some u.r) (less u.x 1) v (corner u.r (u.x + 1) ∷ []) i)
      where
        odd : (((u.r + u.x) % 2 ≡ 0) → ⊥) → (u.r + u.x) % 2 ≡ 1
        odd h = omega (arith, h)
step-move Triangle u v (inl same) = inl (ap (λ (w : Corner). w.r) (sym same), ap (λ (w : Corner). w.x) (sym same))
step-move Triangle u v (inr i) = go (corner_at-parts (less u.r 1) (less u.x 1) v (present (corner_at (Some (u.r + 1)) (less u.x 1) ∷ [])) i)
  where
    last : ((Some (u.r + 1) ≡ Some v.r) × (less u.x 1 ≡ Some v.x)) ⊎ ⊥ → IsMove Triangle u v
    last (inl (down, back)) = inr (inr (cc down, less-some u.x 1 v.x back))
    last (inr none) = absurd none

    go : ((less u.r 1 ≡ Some v.r) × (less u.x 1 ≡ Some v.x)) ⊎ In v (present (corner_at (Some (u.r + 1)) (less u.x 1) ∷ [])) → IsMove Triangle u v
    go (inl (up, back)) = inr (inl (less-some u.r 1 v.r up, less-some u.x 1 v.x back))
    go (inr j) = last (corner_at-parts (Some (u.r + 1)) (less u.x 1) v [] j)

-- ---- the steps to a corner

-- the last of two or three places, whether the one before is there or not
after : (o : Option Corner) (u : Corner) (us : List Corner) → In u us → In u (cons_option o us)
after None u us i = i
after (Some w) u us i = inr i

pub move-step_in : (k : Kind) (u v : Corner) → IsMove k u v → IsStepIn k u v
move-step_in Square u v (inl (even, column, inl up)) =
    rw (ne_eqb ((v.r + v.x) % 2) 0 (omega (arith, even, column, up)))
    (after (corner_at (less v.r 1) (Some v.x)) u (corner (v.r + 1) v.x ∷ []) (inl (corner-same u (corner (v.r + 1) v.x) up column)))
move-step_in Square u v (inl (even, column, inr down)) =
    rw (ne_eqb ((v.r + v.x) % 2) 0 (omega (arith, even, column, down)), less-of v.r 1 u.r (sym down)) (inl (corner-same u (corner u.r v.x) refl column))
move-step_in Square u v (inr (odd, row, inl back)) =
    rw (eq-eqb ((v.r + v.x) % 2) 0 (omega (arith, odd, row, back))) (inl (corner-same u (corner v.r (v.x + 1)) row back))
move-step_in Square u v (inr (odd, row, inr on)) =
    rw (eq-eqb ((v.r + v.x) % 2) 0 (omega (arith, odd, row, on)), less-of v.x 1 u.x (sym on)) (inr (inl (corner-same u (corner v.r u.x) row refl)))
move-step_in Triangle u v (inl (row, on)) =
    rw (less-of v.x 2 u.x (sym on))
    (after (corner_at (less v.r 1) (Some (v.x + 1))) u (corner (v.r + 1) (v.x + 1) ∷ corner v.r u.x ∷ []) (inr (inl (corner-same u (corner v.r u.x) row refl))))
move-step_in Triangle u v (inr (inl (up, back))) =
    after (corner_at (less v.r 1) (Some (v.x + 1))) u (present (Some (corner (v.r + 1) (v.x + 1)) ∷ corner_at (Some v.r) (less v.x 2) ∷ []))
    (inl (corner-same u (corner (v.r + 1) (v.x + 1)) up back))
move-step_in Triangle u v (inr (inr (down, back))) = rw (less-of v.r 1 u.r (sym down)) (inl (corner-same u (corner u.r (v.x + 1)) refl back))

pub step_in-move : (k : Kind) (u v : Corner) → IsStepIn k u v → IsMove k u v
step_in-move Square u v i = go (eqb ((v.r + v.x) % 2) 0) refl i
  where
    even_cases : (v.r + v.x) % 2 ≡ 0 → (u ≡ corner v.r (v.x + 1)) ⊎ (((Some v.r ≡ Some u.r) × (less v.x 1 ≡ Some u.x)) ⊎ ⊥) → IsMove Square u v
    even_cases e (inl same) =
        let row : u.r ≡ v.r = ap (λ (w : Corner). w.r) same in
        let on : u.x ≡ v.x + 1 = ap (λ (w : Corner). w.x) same in
        inr (omega (arith, e, row, on), row, inl on)
    even_cases e (inr (inl (row, back))) =
        let same : v.r ≡ u.r = cc row in
        let on : v.x ≡ u.x + 1 = less-some v.x 1 u.x back in
        inr (omega (arith, e, same, on), sym same, inr (sym on))
    even_cases e (inr (inr none)) = absurd none

    odd_cases : (v.r + v.x) % 2 ≡ 1 → ((less v.r 1 ≡ Some u.r) × (Some v.x ≡ Some u.x)) ⊎ ((u ≡ corner (v.r + 1) v.x) ⊎ ⊥) → IsMove Square u v
    odd_cases e (inl (up, column)) =
        let same : v.x ≡ u.x = cc column in
        let down : v.r ≡ u.r + 1 = less-some v.r 1 u.r up in
        inl (omega (arith, e, same, down), sym same, inr (sym down))
    odd_cases e (inr (inl same)) =
        let column : u.x ≡ v.x = ap (λ (w : Corner). w.x) same in
        let up : u.r ≡ v.r + 1 = ap (λ (w : Corner). w.r) same in
        inl (omega (arith, e, column, up), column, inl up)
    odd_cases e (inr (inr none)) = absurd none

    go : (t : Bool) → eqb ((v.r + v.x) % 2) 0 ≡ t
        → In u (present (cond t (Some (corner v.r (v.x + 1)) ∷ corner_at (Some v.r) (less v.x 1) ∷ []) (corner_at (less v.r 1) (Some v.x) ∷ Some (corner (v.r + 1) v.x) ∷ [])))
        → IsMove Square u v
    go true e (inl same) = even_cases (eqb-true _ _ e) (inl same)
    go true e (inr i) = even_cases (eqb-true _ _ e) (inr (corner_at-parts (Some v.r) (less v.x 1) u [] i))
    go false e i = odd_cases (odd (eqb-false _ _ e)) (corner_at-parts (less v.r 1) (Some v.x) u (corner (v.r + 1) v.x ∷ []) i)
      where
        odd : (((v.r + v.x) % 2 ≡ 0) → ⊥) → (v.r + v.x) % 2 ≡ 1
        odd h = omega (arith, h)
step_in-move Triangle u v i = go (corner_at-parts (less v.r 1) (Some (v.x + 1)) u (present (Some (corner (v.r + 1) (v.x + 1)) ∷ corner_at (Some v.r) (less v.x 2) ∷ [])) i)
  where
    last : ((Some v.r ≡ Some u.r) × (less v.x 2 ≡ Some u.x)) ⊎ ⊥ → IsMove Triangle u v
    last (inl (row, on)) = inl (sym (cc row), sym (less-some v.x 2 u.x on))
    last (inr none) = absurd none

    go : ((less v.r 1 ≡ Some u.r) × (Some (v.x + 1) ≡ Some u.x)) ⊎ ((u ≡ corner (v.r + 1) (v.x + 1)) ⊎ In u (present (corner_at (Some v.r) (less v.x 2) ∷ []))) → IsMove Triangle u v
    go (inl (down, back)) = inr (inr (sym (less-some v.r 1 u.r down), sym (cc back)))
    go (inr (inl same)) = inr (inl (ap (λ (w : Corner). w.r) same, ap (λ (w : Corner). w.x) same))
    go (inr (inr j)) = last (corner_at-parts (Some v.r) (less v.x 2) u [] j)

-- A step leads to v from u exactly where one leads from u to v.
pub steps_in-steps_out : (k : Kind) (u v : Corner) → list_any (corner_eq u) (present (steps_in k v)) ≡ list_any (corner_eq v) (present (steps_out k u))
steps_in-steps_out k u v = same_test (list_any (corner_eq u) (present (steps_in k v))) (list_any (corner_eq v) (present (steps_out k u))) there back
  where
    there : list_any (corner_eq u) (present (steps_in k v)) ≡ true → list_any (corner_eq v) (present (steps_out k u)) ≡ true
    there e =
        In-corner v (present (steps_out k u)) (move-step k u v (step_in-move k u v (corner-In u (present (steps_in k v)) e)))

    back : list_any (corner_eq v) (present (steps_out k u)) ≡ true → list_any (corner_eq u) (present (steps_in k v)) ≡ true
    back e =
        In-corner u (present (steps_in k v)) (move-step_in k u v (step-move k u v (corner-In v (present (steps_out k u)) e)))

-- a step joins two classes
pub classes-differ : (k : Kind) (u v : Corner) → IsStepOut k u v → class_of k u ≡ class_of k v → ⊥
classes-differ k u v i = go k (step-move k u v i)
  where
    go : (k : Kind) → IsMove k u v → class_of k u ≡ class_of k v → ⊥
    go Square (inl (even, column, inl up)) e = omega (arith, even, column, up, e)
    go Square (inl (even, column, inr down)) e = omega (arith, even, column, down, e)
    go Square (inr (odd, row, inl back)) e = omega (arith, odd, row, back, e)
    go Square (inr (odd, row, inr on)) e = omega (arith, odd, row, on, e)
    go Triangle (inl (row, on)) e = omega (arith, on, e)
    go Triangle (inr (inl (up, back))) e = omega (arith, back, e)
    go Triangle (inr (inr (down, back))) e = omega (arith, back, e)
