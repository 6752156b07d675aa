-- The directed steps round a cell, its left step among them, and its corners, as tables by kind and colour.
use Rattle.std.proofs.Common.{◌≡◌, ℕ, ◌+◌, ◌%◌, ◌≤◌, inl, inr, Bool, true, false, List, [], ◌∷◌, map, cond, refl, sym, ◌∙◌, ap, arith, eqb}
use Rattle.std.proofs.lemmas.Bool.{eqb-true, eqb-false, eq-eqb, ne_eqb}
use Rattle.tl_definitions.specs.declared.Kind.{Kind}
use Rattle.tl_definitions.specs.declared.Kind.TheVariants.{Square, Triangle}
use Rattle.tl_definitions.specs.declared.Cell.{Cell}
use Rattle.tl_definitions.specs.declared.Corner.{Corner}
use Rattle.tl_definitions.specs.Lattice.{corner, is_corner, is_dark, corners, Side, side, sides}
use Rattle.tl_lists.specs.Lists.{turned}
use Rattle.tl_lists.proofs.Members.{In, Each}
use Rattle.tl_closing.specs.Closing.{step_along, steps_round}
use Rattle.tl_definitions.proofs.Steps.{IsStepOut, move-step}

-- a dark cell has an even sum of row and column, and a light one an odd sum
abbrev pub Parity : Bool → ℕ → Type 0
Parity true n = n % 2 ≡ 0
Parity false n = n % 2 ≡ 1

pub parity-of : (a : Cell) → Parity (is_dark a) (a.r + a.c)
parity-of a = go (is_dark a) refl
  where
    odd : (n : ℕ) → (n % 2 ≡ 0 → ⊥) → n % 2 ≡ 1
    odd n h = omega (arith, h)

    go : (t : Bool) → eqb ((a.r + a.c) % 2) 0 ≡ t → Parity t (a.r + a.c)
    go true e = eqb-true _ _ e
    go false e = odd (a.r + a.c) (eqb-false _ _ e)

pub dark-from : (a : Cell) → (a.r + a.c) % 2 ≡ 0 → is_dark a ≡ true
dark-from a e = eq-eqb _ _ e

pub light-from : (a : Cell) → (a.r + a.c) % 2 ≡ 1 → is_dark a ≡ false
light-from a e = ne_eqb ((a.r + a.c) % 2) 0 (omega (arith, e))

-- ---- the tables

abbrev pub left_step : Kind → Bool → ℕ → ℕ → Corner × Corner
left_step Square true r c = (corner r c, corner (r + 1) c)
left_step Square false r c = (corner (r + 1) c, corner r c)
left_step Triangle true r c = (corner r (c + 1), corner (r + 1) c)
left_step Triangle false r c = (corner (r + 1) (c + 1), corner r c)

abbrev pub other_steps : Kind → Bool → ℕ → ℕ → List (Corner × Corner)
other_steps Square true r c =
    (corner (r + 1) c, corner (r + 1) (c + 1)) ∷ (corner (r + 1) (c + 1), corner r (c + 1)) ∷ (corner r (c + 1), corner r c) ∷ []
other_steps Square false r c =
    (corner (r + 1) (c + 1), corner (r + 1) c) ∷ (corner r (c + 1), corner (r + 1) (c + 1)) ∷ (corner r c, corner r (c + 1)) ∷ []
other_steps Triangle true r c = (corner (r + 1) c, corner (r + 1) (c + 2)) ∷ (corner (r + 1) (c + 2), corner r (c + 1)) ∷ []
other_steps Triangle false r c = (corner r (c + 2), corner (r + 1) (c + 1)) ∷ (corner r c, corner r (c + 2)) ∷ []

abbrev pub corner_table : Kind → Bool → ℕ → ℕ → List Corner
corner_table Square t r c = corner r c ∷ corner r (c + 1) ∷ corner (r + 1) c ∷ corner (r + 1) (c + 1) ∷ []
corner_table Triangle true r c = corner r (c + 1) ∷ corner (r + 1) c ∷ corner (r + 1) (c + 2) ∷ []
corner_table Triangle false r c = corner r c ∷ corner r (c + 2) ∷ corner (r + 1) (c + 1) ∷ []

pub corners-table : (k : Kind) (a : Cell) → corners k a ≡ corner_table k (is_dark a) a.r a.c
corners-table Square a = refl
corners-table Triangle a = go (is_dark a)
  where
    go : (t : Bool)
        → cond t (corner a.r (a.c + 1) ∷ corner (a.r + 1) a.c ∷ corner (a.r + 1) (a.c + 2) ∷ []) (corner a.r a.c ∷ corner a.r (a.c + 2) ∷ corner (a.r + 1) (a.c + 1) ∷ [])
        ≡ corner_table Triangle t a.r a.c
    go true = refl
    go false = refl

-- a step by the colour of its side's cell
abbrev pub directed : Bool → Corner → Corner → Corner × Corner
directed t u v = cond t (u, v) (v, u)

abbrev pub left_here : Kind → Cell → Corner × Corner
left_here k a = left_step k (is_dark a) a.r a.c

abbrev pub others_here : Kind → Cell → List (Corner × Corner)
others_here k a = other_steps k (is_dark a) a.r a.c

-- the steps round the two shapes of triangles, directed by the colour
abbrev up : Cell → Bool → List (Corner × Corner)
up a t =
    directed t (corner a.r (a.c + 1)) (corner (a.r + 1) a.c) ∷ directed t (corner (a.r + 1) a.c) (corner (a.r + 1) (a.c + 2))
    ∷ directed t (corner (a.r + 1) (a.c + 2)) (corner a.r (a.c + 1)) ∷ []

abbrev down : Cell → Bool → List (Corner × Corner)
down a t =
    directed t (corner a.r a.c) (corner (a.r + 1) (a.c + 1)) ∷ directed t (corner (a.r + 1) (a.c + 1)) (corner a.r (a.c + 2))
    ∷ directed t (corner a.r (a.c + 2)) (corner a.r a.c) ∷ []

pub steps-table : (k : Kind) (a : Cell) → steps_round k a ≡ left_here k a ∷ others_here k a
steps-table Square a = go (is_dark a)
  where
    go : (t : Bool)
        → directed t (corner a.r a.c) (corner (a.r + 1) a.c) ∷ directed t (corner (a.r + 1) a.c) (corner (a.r + 1) (a.c + 1))
        ∷ directed t (corner (a.r + 1) (a.c + 1)) (corner a.r (a.c + 1)) ∷ directed t (corner a.r (a.c + 1)) (corner a.r a.c) ∷ []
        ≡ left_step Square t a.r a.c ∷ other_steps Square t a.r a.c
    go true = refl
    go false = refl
steps-table Triangle a = go (is_dark a) refl
  where
    shapes : (t : Bool)
        → map step_along (cond t
        (side a (corner a.r (a.c + 1)) (corner (a.r + 1) a.c) ∷ side a (corner (a.r + 1) a.c) (corner (a.r + 1) (a.c + 2)) ∷ side a (corner (a.r + 1) (a.c + 2)) (corner a.r (a.c + 1)) ∷ [])
        (side a (corner a.r a.c) (corner (a.r + 1) (a.c + 1)) ∷ side a (corner (a.r + 1) (a.c + 1)) (corner a.r (a.c + 2)) ∷ side a (corner a.r (a.c + 2)) (corner a.r a.c) ∷ []))
        ≡ cond t (up a (is_dark a)) (down a (is_dark a))
    shapes true = refl
    shapes false = refl

    go : (t : Bool) → is_dark a ≡ t → map step_along (sides Triangle a) ≡ left_here Triangle a ∷ others_here Triangle a
    go true e =
        shapes (is_dark a) ∙ (ap (λ (t : Bool). cond t (up a t) (down a t)) e
        ∙ ap (λ (t : Bool). left_step Triangle t a.r a.c ∷ other_steps Triangle t a.r a.c) (sym e))
    go false e =
        shapes (is_dark a) ∙ (ap (λ (t : Bool). cond t (up a t) (down a t)) e
        ∙ ap (λ (t : Bool). left_step Triangle t a.r a.c ∷ other_steps Triangle t a.r a.c) (sym e))

-- The sides of a cell form one cycle: each ends where the next begins. So do the steps along them, which all go
-- as the sides do, or all backwards.
pub sides-cycle : (k : Kind) (a : Cell) → map (λ s. s.to) (sides k a) ≡ turned (map (λ s. s.from) (sides k a))
sides-cycle Square a = refl
sides-cycle Triangle a = go (is_dark a)
  where
    go : (t : Bool) → (λ (xs : List Side). map (λ s. s.to) xs ≡ turned (map (λ s. s.from) xs)) (cond t
        (side a (corner a.r (a.c + 1)) (corner (a.r + 1) a.c) ∷ side a (corner (a.r + 1) a.c) (corner (a.r + 1) (a.c + 2)) ∷ side a (corner (a.r + 1) (a.c + 2)) (corner a.r (a.c + 1)) ∷ [])
        (side a (corner a.r a.c) (corner (a.r + 1) (a.c + 1)) ∷ side a (corner (a.r + 1) (a.c + 1)) (corner a.r (a.c + 2)) ∷ side a (corner a.r (a.c + 2)) (corner a.r a.c) ∷ []))
    go true = refl
    go false = refl

-- ---- what the tables say

pub steps-out : (k : Kind) (t : Bool) (r c : ℕ) → Parity t (r + c) → Each (λ e. IsStepOut k e.0 e.1) (left_step k t r c ∷ other_steps k t r c)
steps-out Square true r c even = (
  move-step Square (corner r c) (corner (r + 1) c) (inl (even, refl, inr refl)),
  (
    move-step Square (corner (r + 1) c) (corner (r + 1) (c + 1)) (inr (omega (arith, even), refl, inr refl)),
    (
      move-step Square (corner (r + 1) (c + 1)) (corner r (c + 1)) (inl (omega (arith, even), refl, inl refl)),
      (move-step Square (corner r (c + 1)) (corner r c) (inr (omega (arith, even), refl, inl refl)), tt),
    ),
  ),
)
steps-out Square false r c odd = (
  move-step Square (corner (r + 1) c) (corner r c) (inl (omega (arith, odd), refl, inl refl)),
  (
    move-step Square (corner (r + 1) (c + 1)) (corner (r + 1) c) (inr (omega (arith, odd), refl, inl refl)),
    (
      move-step Square (corner r (c + 1)) (corner (r + 1) (c + 1)) (inl (omega (arith, odd), refl, inr refl)),
      (move-step Square (corner r c) (corner r (c + 1)) (inr (odd, refl, inr refl)), tt),
    ),
  ),
)
steps-out Triangle true r c even = (
  move-step Triangle (corner r (c + 1)) (corner (r + 1) c) (inr (inr (refl, refl))),
  (
    move-step Triangle (corner (r + 1) c) (corner (r + 1) (c + 2)) (inl (refl, refl)),
    (move-step Triangle (corner (r + 1) (c + 2)) (corner r (c + 1)) (inr (inl (refl, omega arith))), tt),
  ),
)
steps-out Triangle false r c odd = (
  move-step Triangle (corner (r + 1) (c + 1)) (corner r c) (inr (inl (refl, refl))),
  (
    move-step Triangle (corner r (c + 2)) (corner (r + 1) (c + 1)) (inr (inr (refl, omega arith))),
    (move-step Triangle (corner r c) (corner r (c + 2)) (inl (refl, refl)), tt),
  ),
)

-- the coordinates of the ends of equal steps
pub record SameStep (d e : Corner × Corner) : Type 0 where
  pub from_r : d.0.r ≡ e.0.r
  pub from_x : d.0.x ≡ e.0.x
  pub to_r : d.1.r ≡ e.1.r
  pub to_x : d.1.x ≡ e.1.x

pub same_step : (d e : Corner × Corner) → d ≡ e → SameStep d e
same_step d e p = record {
  from_r = ap (λ (z : Corner × Corner). z.0.r) p;
  from_x = ap (λ (z : Corner × Corner). z.0.x) p;
  to_r = ap (λ (z : Corner × Corner). z.1.r) p;
  to_x = ap (λ (z : Corner × Corner). z.1.x) p;
}

-- A step other than the left one can be the left step of a cell in a later column alone.
pub others-later : (k : Kind) (s t : Bool) (r c r' c' : ℕ) → Each (λ e. SameStep e (left_step k t r' c') → c + 1 ≤ c') (other_steps k s r c)
others-later Square true true r c r' c' = ((λ p. omega (arith, p)), ((λ p. omega (arith, p)), ((λ p. omega (arith, p)), tt)))
others-later Square true false r c r' c' = ((λ p. omega (arith, p)), ((λ p. omega (arith, p)), ((λ p. omega (arith, p)), tt)))
others-later Square false true r c r' c' = ((λ p. omega (arith, p)), ((λ p. omega (arith, p)), ((λ p. omega (arith, p)), tt)))
others-later Square false false r c r' c' = ((λ p. omega (arith, p)), ((λ p. omega (arith, p)), ((λ p. omega (arith, p)), tt)))
others-later Triangle true true r c r' c' = ((λ p. omega (arith, p)), ((λ p. omega (arith, p)), tt))
others-later Triangle true false r c r' c' = ((λ p. omega (arith, p)), ((λ p. omega (arith, p)), tt))
others-later Triangle false true r c r' c' = ((λ p. omega (arith, p)), ((λ p. omega (arith, p)), tt))
others-later Triangle false false r c r' c' = ((λ p. omega (arith, p)), ((λ p. omega (arith, p)), tt))

-- different cells have different left steps
pub left-one : (k : Kind) (s t : Bool) (r c r' c' : ℕ) → SameStep (left_step k s r c) (left_step k t r' c') → (r ≡ r') × (c ≡ c')
left-one Square true true r c r' c' p = (omega (arith, p), omega (arith, p))
left-one Square true false r c r' c' p = (omega (arith, p), omega (arith, p))
left-one Square false true r c r' c' p = (omega (arith, p), omega (arith, p))
left-one Square false false r c r' c' p = (omega (arith, p), omega (arith, p))
left-one Triangle true true r c r' c' p = (omega (arith, p), omega (arith, p))
left-one Triangle true false r c r' c' p = (omega (arith, p), omega (arith, p))
left-one Triangle false true r c r' c' p = (omega (arith, p), omega (arith, p))
left-one Triangle false false r c r' c' p = (omega (arith, p), omega (arith, p))

-- the steps round a cell join its corners
abbrev pub Joins : List Corner → Corner × Corner → Type 0
Joins vs e = In e.0 vs × In e.1 vs

pub steps-corners : (k : Kind) (t : Bool) (r c : ℕ) → Each (Joins (corner_table k t r c)) (left_step k t r c ∷ other_steps k t r c)
steps-corners Square true r c = (
  (inl refl, inr (inr (inl refl))),
  ((inr (inr (inl refl)), inr (inr (inr (inl refl)))), ((inr (inr (inr (inl refl))), inr (inl refl)), ((inr (inl refl), inl refl), tt))),
)
steps-corners Square false r c = (
  (inr (inr (inl refl)), inl refl),
  ((inr (inr (inr (inl refl))), inr (inr (inl refl))), ((inr (inl refl), inr (inr (inr (inl refl)))), ((inl refl, inr (inl refl)), tt))),
)
steps-corners Triangle true r c = ((inl refl, inr (inl refl)), ((inr (inl refl), inr (inr (inl refl))), ((inr (inr (inl refl)), inl refl), tt)))
steps-corners Triangle false r c = ((inr (inr (inl refl)), inl refl), ((inr (inl refl), inr (inr (inl refl))), ((inl refl, inr (inl refl)), tt)))

-- the corners of a cell are corners of the lattice, and not far away
abbrev pub IsNear : Kind → ℕ → ℕ → Corner → Type 0
IsNear k r c v = (v.r ≤ r + 1) × (v.x ≤ c + 2) × (is_corner k v ≡ true)

pub corners-near : (k : Kind) (t : Bool) (r c : ℕ) → Parity t (r + c) → Each (IsNear k r c) (corner_table k t r c)
corners-near Square t r c h = (
  (omega arith, omega arith, refl),
  ((omega arith, omega arith, refl), ((omega arith, omega arith, refl), ((omega arith, omega arith, refl), tt))),
)
corners-near Triangle true r c h = (
  (omega arith, omega arith, eq-eqb _ _ (omega (arith, h))),
  ((omega arith, omega arith, eq-eqb _ _ (omega (arith, h))), ((omega arith, omega arith, eq-eqb _ _ (omega (arith, h))), tt)),
)
corners-near Triangle false r c h = (
  (omega arith, omega arith, eq-eqb _ _ (omega (arith, h))),
  ((omega arith, omega arith, eq-eqb _ _ (omega (arith, h))), ((omega arith, omega arith, eq-eqb _ _ (omega (arith, h))), tt)),
)
