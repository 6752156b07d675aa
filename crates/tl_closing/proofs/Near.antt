-- Different cells with a step in common are neighbours.
use Rattle.std.proofs.Common.{◌≡◌, ℕ, ◌+◌, ◌⊎◌, inl, inr, Bool, true, false, List, ◌∷◌, Some, cond, refl, sym, ◌∙◌, ap, subst, arith}
use Rattle.tl_definitions.specs.declared.Kind.{Kind}
use Rattle.tl_definitions.specs.declared.Kind.TheVariants.{Square, Triangle}
use Rattle.tl_definitions.specs.declared.Cell.{Cell}
use Rattle.tl_definitions.specs.declared.Corner.{Corner}
use Rattle.tl_definitions.specs.Lattice.{cell, is_cell, left, right, above, below, neighbours, are_neighbours, is_dark}
use Rattle.tl_definitions.proofs.Cells.{cell_eq-refl, cell-same}
use Rattle.tl_lists.proofs.Members.{In, Each, Each-at, In-any_of}
use Rattle.tl_definitions.proofs.Neighbours.{neighbours-back}
use Rattle.tl_definitions.proofs.Darts.{less-of}
use Rattle.tl_closing.specs.Closing.{steps_round}
use Rattle.tl_closing.proofs.Sides.{left_step, other_steps, steps-table}
use Rattle.tl_closing.proofs.Centres.{IsCentre, round-centre, cell-one}

-- where a light cell lies that has a step in common with a dark one
abbrev Beside : Kind → ℕ → ℕ → ℕ → ℕ → Type 0
Beside Square r c r' c' = ((r ≡ r') × (c ≡ c' + 1)) ⊎ (((r + 1 ≡ r') × (c ≡ c')) ⊎ (((r ≡ r') × (c + 1 ≡ c')) ⊎ ((r ≡ r' + 1) × (c ≡ c'))))
Beside Triangle r c r' c' = ((r ≡ r') × (c ≡ c' + 1)) ⊎ (((r + 1 ≡ r') × (c ≡ c')) ⊎ ((r ≡ r') × (c + 1 ≡ c')))

across : (k : Kind) (r c r' c' : ℕ) → Each (λ e. IsCentre k false r' c' e → Beside k r c r' c') (left_step k true r c ∷ other_steps k true r c)
across Square r c r' c' = (
  (λ p. inl (omega (arith, p), omega (arith, p))),
  (
    (λ p. inr (inl (omega (arith, p), omega (arith, p)))),
    ((λ p. inr (inr (inl (omega (arith, p), omega (arith, p))))), ((λ p. inr (inr (inr (omega (arith, p), omega (arith, p))))), tt)),
  ),
)
across Triangle r c r' c' = (
  (λ p. inl (omega (arith, p), omega (arith, p))),
  ((λ p. inr (inl (omega (arith, p), omega (arith, p)))), ((λ p. inr (inr (omega (arith, p), omega (arith, p)))), tt)),
)

pub left-is : (a b : Cell) → a.r ≡ b.r → a.c ≡ b.c + 1 → left a ≡ Some b
left-is a b h l = rw (less-of a.c 1 b.c l) (ap (λ (x : Cell). Some x) (cell-same (cell a.r b.c) b h refl))

pub above-is : (a b : Cell) → a.r ≡ b.r + 1 → a.c ≡ b.c → above a ≡ Some b
above-is a b h l = rw (less-of a.r 1 b.r h) (ap (λ (x : Cell). Some x) (cell-same (cell b.r a.c) b refl l))

pub right-is : (a b : Cell) → a.r ≡ b.r → a.c + 1 ≡ b.c → right a ≡ Some b
right-is a b h l = ap (λ (x : Cell). Some x) (cell-same (cell a.r (a.c + 1)) b h l)

pub below-is : (a b : Cell) → a.r + 1 ≡ b.r → a.c ≡ b.c → below a ≡ Some b
below-is a b h l = ap (λ (x : Cell). Some x) (cell-same (cell (a.r + 1) a.c) b h l)

beside-In : (k : Kind) (a b : Cell) → is_dark a ≡ true → Beside k a.r a.c b.r b.c → In (Some b) (neighbours k a)
beside-In Square a b dark (inl p) = inl (sym (left-is a b p.0 p.1))
beside-In Square a b dark (inr (inl p)) = inr (inr (inr (inl (sym (below-is a b p.0 p.1)))))
beside-In Square a b dark (inr (inr (inl p))) = inr (inl (sym (right-is a b p.0 p.1)))
beside-In Square a b dark (inr (inr (inr p))) = inr (inr (inl (sym (above-is a b p.0 p.1))))
beside-In Triangle a b dark (inl p) = inl (sym (left-is a b p.0 p.1))
beside-In Triangle a b dark (inr (inl p)) = inr (inr (inl (sym (third (is_dark a) dark))))
  where
    third : (t : Bool) → t ≡ true → cond t (below a) (above a) ≡ Some b
    third true e = below-is a b p.0 p.1
    third false e = cc e
beside-In Triangle a b dark (inr (inr p)) = inr (inl (sym (right-is a b p.0 p.1)))

dark-light-near : (k : Kind) (a b : Cell) (e : Corner × Corner) → is_dark a ≡ true → is_dark b ≡ false → In e (steps_round k a) → In e (steps_round k b)
    → are_neighbours k a b ≡ true
dark-light-near k a b e dark light i j =
    In-any_of (is_cell b) (Some b) (neighbours k a)
    (beside-In k a b dark
    (Each-at (λ e. IsCentre k false b.r b.c e → Beside k a.r a.c b.r b.c) e (left_step k true a.r a.c ∷ other_steps k true a.r a.c) (across k a.r a.c b.r b.c)
    (subst (λ (t : Bool). In e (left_step k t a.r a.c ∷ other_steps k t a.r a.c)) dark (subst (λ (es : List (Corner × Corner)). In e es) (steps-table k a) i))
    (subst (λ (t : Bool). IsCentre k t b.r b.c e) light (round-centre k b e j))))
    (cell_eq-refl b)

pub shared-near : (k : Kind) (a b : Cell) (e : Corner × Corner) → (a ≡ b → ⊥) → In e (steps_round k a) → In e (steps_round k b) → are_neighbours k a b ≡ true
shared-near k a b e differ i j = go (is_dark a) (is_dark b) refl refl
  where
    go : (s t : Bool) → is_dark a ≡ s → is_dark b ≡ t → are_neighbours k a b ≡ true
    go true true p q = absurd (differ (cell-one k a b e (p ∙ sym q) i j))
    go true false p q = dark-light-near k a b e p q i j
    go false true p q = neighbours-back k b a (dark-light-near k b a e q p j i)
    go false false p q = absurd (differ (cell-one k a b e (p ∙ sym q) i j))
