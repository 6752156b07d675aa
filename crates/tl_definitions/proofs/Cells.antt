-- Cells: when two are the same, and their raster order.
use Rattle.std.proofs.Common.{◌≡◌, true, eqb, Option, Some, None, sym, ap, refl, ◌<◌, ◌⊎◌, inl, inr, ◌&&◌, arith, List, [], ◌∷◌, subst, ℕ, Bool, false}
use Rattle.tl_definitions.specs.declared.Cell.{Cell}
use Rattle.std.proofs.lemmas.Bool.{eqb-true, and_parts, eq-eqb, or_cases, ltb-true, and_from, lt-ltb, or_left, or_right, ltb-false}
use Rattle.tl_definitions.specs.Lattice.{cell_eq, is_cell, cell_lt}
use Rattle.std.specs.Prelude.{nat_lt, ◌==◌}
use Rattle.std.specs.List.{list_any}
use Rattle.tl_lists.proofs.Members.{In}
use Rattle.tl_lists.specs.Lists.{present}
use Rattle.tl_lists.proofs.Tests.{nat_cases}

pub cell-same : (a b : Cell) → a.r ≡ b.r → a.c ≡ b.c → a ≡ b
cell-same a b h k = λ i. record { r = h i; c = k i }

pub cell_eq-parts : (a b : Cell) → cell_eq a b ≡ true → (a.r ≡ b.r) × (a.c ≡ b.c)
cell_eq-parts a b e =
    let p : (eqb a.r b.r ≡ true) × (eqb a.c b.c ≡ true) = and_parts (eqb a.r b.r) (eqb a.c b.c) e in
    (eqb-true _ _ p.0, eqb-true _ _ p.1)

pub cell_eq-same : (a b : Cell) → cell_eq a b ≡ true → a ≡ b
cell_eq-same a b e =
    let p : (a.r ≡ b.r) × (a.c ≡ b.c) = cell_eq-parts a b e in
    cell-same a b p.0 p.1

pub is_cell-some : (a : Cell) (o : Option Cell) → is_cell a o ≡ true → o ≡ Some a
is_cell-some a None e = cc e
is_cell-some a (Some b) e = ap (λ (c : Cell). Some c) (sym (cell_eq-same a b e))

pub cell_eq-of_parts : (a b : Cell) → a.r ≡ b.r → a.c ≡ b.c → cell_eq a b ≡ true
cell_eq-of_parts a b h k = rw (eq-eqb a.r b.r h, eq-eqb a.c b.c k) refl

pub cell_lt-cases : (a b : Cell) → cell_lt a b ≡ true → (a.r < b.r) ⊎ ((a.r ≡ b.r) × (a.c < b.c))
cell_lt-cases a b e = go (or_cases (nat_lt a.r b.r) _ e)
  where
    go : (nat_lt a.r b.r ≡ true) ⊎ ((a.r == b.r && nat_lt a.c b.c) ≡ true) → (a.r < b.r) ⊎ ((a.r ≡ b.r) × (a.c < b.c))
    go (inl h) = inl (ltb-true _ _ h)
    go (inr h) = inr (eqb-true _ _ (and_parts _ _ h).0, ltb-true _ _ (and_parts _ _ h).1)

pub cell_lt-from : (a b : Cell) → (a.r < b.r) ⊎ ((a.r ≡ b.r) × (a.c < b.c)) → cell_lt a b ≡ true
cell_lt-from a b (inl h) = or_left (nat_lt a.r b.r) _ (lt-ltb _ _ h)
cell_lt-from a b (inr h) = or_right (nat_lt a.r b.r) _ (and_from _ _ (eq-eqb _ _ h.0) (lt-ltb _ _ h.1))

pub cell_lt-irreflexive : (a : Cell) → cell_lt a a ≡ true → ⊥
cell_lt-irreflexive a e = go (cell_lt-cases a a e)
  where
    go : (a.r < a.r) ⊎ ((a.r ≡ a.r) × (a.c < a.c)) → ⊥
    go (inl h) = omega (arith, h)
    go (inr h) = omega (arith, h.1)

pub cell_lt-transitive : (a b c : Cell) → cell_lt a b ≡ true → cell_lt b c ≡ true → cell_lt a c ≡ true
cell_lt-transitive a b c e f = cell_lt-from a c (go (cell_lt-cases a b e) (cell_lt-cases b c f))
  where
    go : (a.r < b.r) ⊎ ((a.r ≡ b.r) × (a.c < b.c)) → (b.r < c.r) ⊎ ((b.r ≡ c.r) × (b.c < c.c)) → (a.r < c.r) ⊎ ((a.r ≡ c.r) × (a.c < c.c))
    go (inl h) (inl k) = inl (omega (arith, h, k))
    go (inl h) (inr k) = inl (omega (arith, h, k.0))
    go (inr h) (inl k) = inl (omega (arith, h.0, k))
    go (inr h) (inr k) = inr (omega (arith, h.0, k.0), omega (arith, h.1, k.1))

pub cell_eq-refl : (a : Cell) → cell_eq a a ≡ true
cell_eq-refl a = and_from _ _ (eq-eqb a.r a.r refl) (eq-eqb a.c a.c refl)

pub In-any : (a : Cell) (cells : List Cell) → list_any (cell_eq a) cells ≡ true → In a cells
In-any a [] e = cc e
In-any a (b ∷ bs) e = go (or_cases (cell_eq a b) _ e) (λ h. In-any a bs h)
  where
    go : (cell_eq a b ≡ true) ⊎ (list_any (cell_eq a) bs ≡ true) → (list_any (cell_eq a) bs ≡ true → In a bs) → In a (b ∷ bs)
    go (inl h) ih = inl (cell_eq-same a b h)
    go (inr h) ih = inr (ih h)

pub In-present : (b : Cell) (os : List (Option Cell)) → list_any (is_cell b) os ≡ true → In b (present os)
In-present b [] e = cc e
In-present b (None ∷ os) e = In-present b os e
In-present b (Some c ∷ os) e = go (or_cases (cell_eq b c) _ e) (λ h. In-present b os h)
  where
    go : (cell_eq b c ≡ true) ⊎ (list_any (is_cell b) os ≡ true) → (list_any (is_cell b) os ≡ true → In b (present os)) → In b (c ∷ present os)
    go (inl h) ih = inl (cell_eq-same b c h)
    go (inr h) ih = inr (ih h)

pub In-has : (a : Cell) (cells : List Cell) → In a cells → list_any (cell_eq a) cells ≡ true
In-has a [] i = absurd i
In-has a (b ∷ bs) (inl e) = or_left (cell_eq a b) _ (subst (λ c. cell_eq a c ≡ true) e (cell_eq-refl a))
In-has a (b ∷ bs) (inr i) = or_right (cell_eq a b) _ (In-has a bs i)

pub cell_lt-total : (a b : Cell) → cell_eq a b ≡ false → (cell_lt a b ≡ true) ⊎ (cell_lt b a ≡ true)
cell_lt-total a b differ = go (nat_cases a.r b.r) (nat_cases a.c b.c)
  where
    less : (m n : ℕ) → ¬ (m ≡ n) → (m < n) ⊎ (n < m)
    less m n h = go (nat_lt m n) refl
      where
        go : (t : Bool) → nat_lt m n ≡ t → (m < n) ⊎ (n < m)
        go true e = inl (ltb-true m n e)
        go false e = inr (omega (arith, h, ltb-false m n e))

    go : (a.r ≡ b.r) ⊎ (¬ (a.r ≡ b.r)) → (a.c ≡ b.c) ⊎ (¬ (a.c ≡ b.c)) → (cell_lt a b ≡ true) ⊎ (cell_lt b a ≡ true)
    go (inl h) (inl k) = cc (sym (cell_eq-of_parts a b h k), differ)
    go (inl h) (inr k) = elim (less a.c b.c k) [ inl l ↦ inl (cell_lt-from a b (inr (h, l))) | inr l ↦ inr (cell_lt-from b a (inr (sym h, l))) ]
    go (inr h) k = elim (less a.r b.r h) [ inl l ↦ inl (cell_lt-from a b (inl l)) | inr l ↦ inr (cell_lt-from b a (inl l)) ]
