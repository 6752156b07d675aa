-- The directed steps from a corner, counted by the darts of its ring.
use Rattle.std.proofs.Common.{◌≡◌, ℕ, ◌+◌, ◌%◌, inl, inr, Bool, true, false, ◌&&◌, List, [], ◌∷◌, map, length, cond, Option, Some, None, refl, sym, ◌∙◌, ap, subst, arith}
use Rattle.std.specs.Prelude.{◌==◌, filter, count_by}
use Rattle.std.proofs.lemmas.Bool.{eqb-true, eqb-false, eq-eqb, ne_eqb, or_cases}
use Rattle.std.proofs.lemmas.List.Sums.{sum_by-cons}
use Rattle.tl_definitions.specs.declared.Kind.{Kind}
use Rattle.tl_definitions.specs.declared.Kind.TheVariants.{Square, Triangle}
use Rattle.tl_definitions.specs.declared.Corner.{Corner}
use Rattle.tl_definitions.specs.declared.rings.Dart.{Dart}
use Rattle.tl_definitions.specs.Lattice.{corner, corner_at, less, is_corner, steps_out}
use Rattle.tl_definitions.specs.Region.{Region, is_edge, steps}
use Rattle.tl_lists.specs.Lists.{present}
use Rattle.tl_definitions.specs.Darts.{darts, left_cell, right_cell, other_end, is_outward, is_edge_of}
use Rattle.tl_lists.proofs.Tests.{same_test}
use Rattle.tl_lists.proofs.Members.{In}
use Rattle.tl_definitions.proofs.Darts.{IsEnd, cell_back-lies, dart, less-some, less-of}
use Rattle.tl_definitions.proofs.DartSides.{left_side, right_side}
use Rattle.tl_definitions.proofs.CornerRings.{is_edge-dart, has_at-some}

-- ---- a step by its dart

corner_at-some : (o p : Option ℕ) (w : Corner) → corner_at o p ≡ Some w → (o ≡ Some w.r) × (p ≡ Some w.x)
corner_at-some None p w e = cc e
corner_at-some (Some r) None w e = cc e
corner_at-some (Some r) (Some x) w e =
    let same : corner r x ≡ w = cc e in
    (ap (λ (a : Corner). Some a.r) same, ap (λ (a : Corner). Some a.x) same)

corner_at-of : (o p : Option ℕ) (w : Corner) → o ≡ Some w.r → p ≡ Some w.x → corner_at o p ≡ Some w
corner_at-of o p w e f = rw (e, f) refl

some_number : (m n : ℕ) → Some m ≡ Some n → m ≡ n
some_number m n e = cc e

some_from : (m n : ℕ) → m ≡ n → Some m ≡ Some n
some_from m n e = ap (λ (z : ℕ). Some z) e

-- the step leads to the dart's other end, and is there where that has coordinates
record IsStepBy (k : Kind) (v : Corner) (g : Dart) (o : Option Corner) : Type 0 where
  ends : (w : Corner) → o ≡ Some w → IsEnd k v g w
  leads : (w : Corner) → IsEnd k v g w → o ≡ Some w

up : (v : Corner) → IsStepBy Square v (dart 1 1 1 0) (corner_at (less v.r 1) (Some v.x))
up v = record {
  ends = λ w e. let p = corner_at-some (less v.r 1) (Some v.x) w e in record { row = omega (arith, less-some v.r 1 w.r p.0); column = omega (arith, some_number v.x w.x p.1) };
  leads = λ w e. corner_at-of (less v.r 1) (Some v.x) w (less-of v.r 1 w.r (omega (arith, e.row))) (some_from v.x w.x (omega (arith, e.column)));
}

left : (v : Corner) → IsStepBy Square v (dart 0 1 1 1) (corner_at (Some v.r) (less v.x 1))
left v = record {
  ends = λ w e. let p = corner_at-some (Some v.r) (less v.x 1) w e in record { row = omega (arith, some_number v.r w.r p.0); column = omega (arith, less-some v.x 1 w.x p.1) };
  leads = λ w e. corner_at-of (Some v.r) (less v.x 1) w (some_from v.r w.r (omega (arith, e.row))) (less-of v.x 1 w.x (omega (arith, e.column)));
}

down : (v : Corner) → IsStepBy Square v (dart 0 0 0 1) (corner_at (Some (v.r + 1)) (Some v.x))
down v = record {
  ends = λ w e. let p = corner_at-some (Some (v.r + 1)) (Some v.x) w e in record { row = omega (arith, some_number (v.r + 1) w.r p.0); column = omega (arith, some_number v.x w.x p.1) };
  leads = λ w e. corner_at-of (Some (v.r + 1)) (Some v.x) w (some_from (v.r + 1) w.r (omega (arith, e.row))) (some_from v.x w.x (omega (arith, e.column)));
}

right : (v : Corner) → IsStepBy Square v (dart 1 0 0 0) (corner_at (Some v.r) (Some (v.x + 1)))
right v = record {
  ends = λ w e. let p = corner_at-some (Some v.r) (Some (v.x + 1)) w e in record { row = omega (arith, some_number v.r w.r p.0); column = omega (arith, some_number (v.x + 1) w.x p.1) };
  leads = λ w e. corner_at-of (Some v.r) (Some (v.x + 1)) w (some_from v.r w.r (omega (arith, e.row))) (some_from (v.x + 1) w.x (omega (arith, e.column)));
}

along : (v : Corner) → IsStepBy Triangle v (dart 1 0 0 0) (corner_at (Some v.r) (Some (v.x + 2)))
along v = record {
  ends = λ w e. let p = corner_at-some (Some v.r) (Some (v.x + 2)) w e in record { row = omega (arith, some_number v.r w.r p.0); column = omega (arith, some_number (v.x + 2) w.x p.1) };
  leads = λ w e. corner_at-of (Some v.r) (Some (v.x + 2)) w (some_from v.r w.r (omega (arith, e.row))) (some_from (v.x + 2) w.x (omega (arith, e.column)));
}

up_left : (v : Corner) → IsStepBy Triangle v (dart 1 2 1 1) (corner_at (less v.r 1) (less v.x 1))
up_left v = record {
  ends = λ w e. let p = corner_at-some (less v.r 1) (less v.x 1) w e in record { row = omega (arith, less-some v.r 1 w.r p.0); column = omega (arith, less-some v.x 1 w.x p.1) };
  leads = λ w e. corner_at-of (less v.r 1) (less v.x 1) w (less-of v.r 1 w.r (omega (arith, e.row))) (less-of v.x 1 w.x (omega (arith, e.column)));
}

down_left : (v : Corner) → IsStepBy Triangle v (dart 0 1 0 2) (corner_at (Some (v.r + 1)) (less v.x 1))
down_left v = record {
  ends = λ w e. let p = corner_at-some (Some (v.r + 1)) (less v.x 1) w e in record { row = omega (arith, some_number (v.r + 1) w.r p.0); column = omega (arith, less-some v.x 1 w.x p.1) };
  leads = λ w e. corner_at-of (Some (v.r + 1)) (less v.x 1) w (some_from (v.r + 1) w.r (omega (arith, e.row))) (less-of v.x 1 w.x (omega (arith, e.column)));
}

-- whether the step is there, along an edge of the region
abbrev edge_at : Region → Corner → Option Corner → Bool
edge_at R v None = false
edge_at R v (Some w) = is_edge R v w

edge_at-dart : (R : Region) (v : Corner) (g : Dart) (o : Option Corner) → is_corner R.kind v ≡ true → In g (darts R.kind) → IsStepBy R.kind v g o
    → edge_at R v o ≡ is_edge_of R v g
edge_at-dart R v g o h i by = same_test (edge_at R v o) (is_edge_of R v g) (there o refl) back
  where
    there : (p : Option Corner) → o ≡ p → edge_at R v p ≡ true → is_edge_of R v g ≡ true
    there None e m = cc m
    there (Some w) e m = sym (is_edge-dart R v w g h i (by.ends w e)) ∙ m

    told : IsEnd R.kind v g (other_end R.kind v g) → is_edge_of R v g ≡ true → edge_at R v o ≡ true
    told e m = ap (edge_at R v) (by.leads (other_end R.kind v g) e) ∙ (is_edge-dart R v (other_end R.kind v g) g h i e ∙ m)

    back : is_edge_of R v g ≡ true → edge_at R v o ≡ true
    back m = told (elim (or_cases _ _ m) [
      | inl t ↦ (let (c, is, in_R) = has_at-some R (left_cell v g) t in (left_side R.kind v c g h i (cell_back-lies v g.left c is)).ends)
      | inr t ↦ (let (c, is, in_R) = has_at-some R (right_cell v g) t in (right_side R.kind v c g h i (cell_back-lies v g.right c is)).ends)
    ]) m

-- ---- counts

abbrev tally : List Bool → ℕ
tally bs = count_by (λ b. b) bs

count_by-tally : {A : Type 0} (p : A → Bool) (xs : List A) → count_by p xs ≡ tally (map p xs)
count_by-tally p [] = refl
count_by-tally p (x ∷ xs) =
    sum_by-cons (λ y. cond (p y) 1 0) x xs ∙ (ap (λ (n : ℕ). cond (p x) 1 0 + n) (count_by-tally p xs) ∙ sym (sum_by-cons (λ b. cond b 1 0) (p x) (map p xs)))

steps-tally : (R : Region) (v : Corner) (os : List (Option Corner)) → length (filter (is_edge R v) (present os)) ≡ tally (map (edge_at R v) os)
steps-tally R v [] = refl
steps-tally R v (None ∷ os) = steps-tally R v os ∙ (omega arith ∙ sym (sum_by-cons (λ b. cond b 1 0) false (map (edge_at R v) os)))
steps-tally R v (Some w ∷ os) = go (is_edge R v w) (steps-tally R v os) ∙ sym (sum_by-cons (λ b. cond b 1 0) (is_edge R v w) (map (edge_at R v) os))
  where
    go : (t : Bool) → length (filter (is_edge R v) (present os)) ≡ tally (map (edge_at R v) os)
        → length (cond t (w ∷ filter (is_edge R v) (present os)) (filter (is_edge R v) (present os))) ≡ cond t 1 0 + tally (map (edge_at R v) os)
    go true e = omega (arith, e)
    go false e = omega (arith, e)

even_square : (a b : Bool) → tally (a ∷ b ∷ []) ≡ tally (a ∷ false ∷ b ∷ false ∷ [])
even_square true true = refl
even_square true false = refl
even_square false true = refl
even_square false false = refl

odd_square : (a b : Bool) → tally (a ∷ b ∷ []) ≡ tally (false ∷ b ∷ false ∷ a ∷ [])
odd_square true true = refl
odd_square true false = refl
odd_square false true = refl
odd_square false false = refl

triangles : (a b c : Bool) → tally (b ∷ a ∷ c ∷ []) ≡ tally (a ∷ false ∷ b ∷ false ∷ c ∷ false ∷ [])
triangles true true true = refl
triangles true true false = refl
triangles true false true = refl
triangles true false false = refl
triangles false true true = refl
triangles false true false = refl
triangles false false true = refl
triangles false false false = refl

-- an outward dart counts where its edge is one of the region, and another one doesn't
outward : (R : Region) (v : Corner) (g : Dart) → (v.r + v.x + (g.left.rows + g.left.columns)) % 2 ≡ 0 → (is_outward v g && is_edge_of R v g) ≡ is_edge_of R v g
outward R v g e = rw (eq-eqb ((v.r + v.x + (g.left.rows + g.left.columns)) % 2) 0 e) refl

inward : (R : Region) (v : Corner) (g : Dart) → ¬ ((v.r + v.x + (g.left.rows + g.left.columns)) % 2 ≡ 0) → (is_outward v g && is_edge_of R v g) ≡ false
inward R v g e = rw (ne_eqb ((v.r + v.x + (g.left.rows + g.left.columns)) % 2) 0 e) refl

edge_at-kind : (R : Region) (v : Corner) (k : Kind) (g : Dart) (o : Option Corner) → R.kind ≡ k → is_corner k v ≡ true → In g (darts k) → IsStepBy k v g o
    → edge_at R v o ≡ is_edge_of R v g
edge_at-kind R v k g o e =
    subst (λ (z : Kind). is_corner z v ≡ true → In g (darts z) → IsStepBy z v g o → edge_at R v o ≡ is_edge_of R v g) e (edge_at-dart R v g o)

abbrev counted : Region → Corner → Dart → Bool
counted R v g = is_outward v g && is_edge_of R v g

square_steps : (R : Region) (v : Corner) → R.kind ≡ Square → length (filter (is_edge R v) (present (steps_out Square v))) ≡ count_by (counted R v) (darts Square)
square_steps R v e = go ((v.r + v.x) % 2 == 0) refl
  where
    go : (t : Bool) → ((v.r + v.x) % 2 == 0) ≡ t
        → length (filter (is_edge R v) (present (cond t (corner_at (less v.r 1) (Some v.x) ∷ Some (corner (v.r + 1) v.x) ∷ []) (corner_at (Some v.r) (less v.x 1) ∷ Some (corner v.r (v.x + 1)) ∷ []))))
        ≡ count_by (counted R v) (darts Square)
    go true h =
        let even : (v.r + v.x) % 2 ≡ 0 = eqb-true _ _ h in
        let a = edge_at-kind R v Square (dart 1 1 1 0) (corner_at (less v.r 1) (Some v.x)) e refl (inl refl) (up v) in
        let b = edge_at-kind R v Square (dart 0 0 0 1) (Some (corner (v.r + 1) v.x)) e refl (inr (inr (inl refl))) (down v) in
        let ga = outward R v (dart 1 1 1 0) (omega (arith, even)) in
        let gb = inward R v (dart 1 0 0 0) (omega (arith, even)) in
        let gc = outward R v (dart 0 0 0 1) (omega (arith, even)) in
        let gd = inward R v (dart 0 1 1 1) (omega (arith, even)) in
        steps-tally R v (corner_at (less v.r 1) (Some v.x) ∷ Some (corner (v.r + 1) v.x) ∷ [])
        ∙ (ap (λ (l : List Bool). tally l) (λ i. a i ∷ b i ∷ [])
        ∙ (even_square (is_edge_of R v (dart 1 1 1 0)) (is_edge_of R v (dart 0 0 0 1))
        ∙ (sym (ap (λ (l : List Bool). tally l) (λ i. ga i ∷ gb i ∷ gc i ∷ gd i ∷ []))
        ∙ sym (count_by-tally (counted R v) (darts Square)))))
    go false h =
        let uneven : ¬ ((v.r + v.x) % 2 ≡ 0) = eqb-false _ _ h in
        let a = edge_at-kind R v Square (dart 0 1 1 1) (corner_at (Some v.r) (less v.x 1)) e refl (inr (inr (inr (inl refl)))) (left v) in
        let b = edge_at-kind R v Square (dart 1 0 0 0) (Some (corner v.r (v.x + 1))) e refl (inr (inl refl)) (right v) in
        let ga = inward R v (dart 1 1 1 0) (omega (arith, uneven)) in
        let gb = outward R v (dart 1 0 0 0) (omega (arith, uneven)) in
        let gc = inward R v (dart 0 0 0 1) (omega (arith, uneven)) in
        let gd = outward R v (dart 0 1 1 1) (omega (arith, uneven)) in
        steps-tally R v (corner_at (Some v.r) (less v.x 1) ∷ Some (corner v.r (v.x + 1)) ∷ [])
        ∙ (ap (λ (l : List Bool). tally l) (λ i. a i ∷ b i ∷ [])
        ∙ (odd_square (is_edge_of R v (dart 0 1 1 1)) (is_edge_of R v (dart 1 0 0 0))
        ∙ (sym (ap (λ (l : List Bool). tally l) (λ i. ga i ∷ gb i ∷ gc i ∷ gd i ∷ []))
        ∙ sym (count_by-tally (counted R v) (darts Square)))))

triangle_steps : (R : Region) (v : Corner) → R.kind ≡ Triangle → is_corner Triangle v ≡ true
    → length (filter (is_edge R v) (present (steps_out Triangle v))) ≡ count_by (counted R v) (darts Triangle)
triangle_steps R v e h =
    let uneven : (v.r + v.x) % 2 ≡ 1 = eqb-true _ _ h in
    let a = edge_at-kind R v Triangle (dart 1 2 1 1) (corner_at (less v.r 1) (less v.x 1)) e h (inl refl) (up_left v) in
    let b = edge_at-kind R v Triangle (dart 1 0 0 0) (Some (corner v.r (v.x + 2))) e h (inr (inr (inl refl))) (along v) in
    let c = edge_at-kind R v Triangle (dart 0 1 0 2) (corner_at (Some (v.r + 1)) (less v.x 1)) e h (inr (inr (inr (inr (inl refl))))) (down_left v) in
    let ga = outward R v (dart 1 2 1 1) (omega (arith, uneven)) in
    let gb = inward R v (dart 1 1 1 0) (omega (arith, uneven)) in
    let gc = outward R v (dart 1 0 0 0) (omega (arith, uneven)) in
    let gd = inward R v (dart 0 0 0 1) (omega (arith, uneven)) in
    let ge = outward R v (dart 0 1 0 2) (omega (arith, uneven)) in
    let gf = inward R v (dart 0 2 1 2) (omega (arith, uneven)) in
    steps-tally R v (Some (corner v.r (v.x + 2)) ∷ corner_at (less v.r 1) (less v.x 1) ∷ corner_at (Some (v.r + 1)) (less v.x 1) ∷ [])
    ∙ (ap (λ (l : List Bool). tally l) (λ i. b i ∷ a i ∷ c i ∷ [])
    ∙ (triangles (is_edge_of R v (dart 1 2 1 1)) (is_edge_of R v (dart 1 0 0 0)) (is_edge_of R v (dart 0 1 0 2))
    ∙ (sym (ap (λ (l : List Bool). tally l) (λ i. ga i ∷ gb i ∷ gc i ∷ gd i ∷ ge i ∷ gf i ∷ []))
    ∙ sym (count_by-tally (counted R v) (darts Triangle)))))

-- The directed steps from a corner are as many as its outward darts along edges of the region.
pub steps-count : (R : Region) (v : Corner) → is_corner R.kind v ≡ true
    → length (steps R v) ≡ count_by (λ g. is_outward v g && is_edge_of R v g) (darts R.kind)
steps-count R v h = go R.kind refl h
  where
    go : (k : Kind) → R.kind ≡ k → is_corner k v ≡ true → length (filter (is_edge R v) (present (steps_out k v))) ≡ count_by (counted R v) (darts k)
    go Square e c = square_steps R v e
    go Triangle e c = triangle_steps R v e c
