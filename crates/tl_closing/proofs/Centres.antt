-- A step knows the dark cell on its left and the light cell on its right, and two cells know the step between them.
use Rattle.std.proofs.Common.{◌≡◌, ℕ, ◌+◌, ◌*◌, ◌⊎◌, inl, inr, Bool, true, false, List, [], ◌∷◌, refl, sym, ◌∙◌, subst, arith}
use Rattle.tl_definitions.specs.declared.Kind.{Kind}
use Rattle.tl_definitions.specs.declared.Kind.TheVariants.{Square, Triangle}
use Rattle.tl_definitions.specs.declared.Cell.{Cell}
use Rattle.tl_definitions.specs.declared.Corner.{Corner}
use Rattle.tl_definitions.specs.Lattice.{is_dark}
use Rattle.tl_lists.proofs.Members.{In, Each, Each-at}
use Rattle.tl_definitions.proofs.Corners.{corner-same}
use Rattle.tl_closing.specs.Closing.{steps_round}
use Rattle.tl_lists.proofs.Distinct.{Distinct}
use Rattle.tl_closing.proofs.Sides.{left_step, other_steps, left_here, others_here, steps-table, SameStep, same_step}

-- The centre of a cell is the middle of each step round it, moved by half a cell to the left where the cell is dark
-- and to the right where it is light: two equations between the coordinates of the cell and of the step's ends.
abbrev pub IsCentre : Kind → Bool → ℕ → ℕ → Corner × Corner → Type 0
IsCentre Square true r c e =
    (2 * r + 1 + e.1.x ≡ e.0.r + e.1.r + e.0.x) × (2 * c + 1 + e.0.r ≡ e.0.x + e.1.x + e.1.r)
IsCentre Square false r c e =
    (2 * r + 1 + e.0.x ≡ e.0.r + e.1.r + e.1.x) × (2 * c + 1 + e.1.r ≡ e.0.x + e.1.x + e.0.r)
IsCentre Triangle true r c e =
    (6 * r + 4 + e.1.x ≡ 3 * e.0.r + 3 * e.1.r + e.0.x) × (2 * c + 2 + e.0.r ≡ e.0.x + e.1.x + e.1.r)
IsCentre Triangle false r c e =
    (6 * r + 2 + e.0.x ≡ 3 * e.0.r + 3 * e.1.r + e.1.x) × (2 * c + 2 + e.1.r ≡ e.0.x + e.1.x + e.0.r)

steps-centre : (k : Kind) (t : Bool) (r c : ℕ) → Each (IsCentre k t r c) (left_step k t r c ∷ other_steps k t r c)
steps-centre Square true r c = ((omega arith, omega arith), ((omega arith, omega arith), ((omega arith, omega arith), ((omega arith, omega arith), tt))))
steps-centre Square false r c = ((omega arith, omega arith), ((omega arith, omega arith), ((omega arith, omega arith), ((omega arith, omega arith), tt))))
steps-centre Triangle true r c = ((omega arith, omega arith), ((omega arith, omega arith), ((omega arith, omega arith), tt)))
steps-centre Triangle false r c = ((omega arith, omega arith), ((omega arith, omega arith), ((omega arith, omega arith), tt)))

abbrev pub Centre : Kind → Cell → Corner × Corner → Type 0
Centre k a e = IsCentre k (is_dark a) a.r a.c e

pub round-centre : (k : Kind) (a : Cell) (e : Corner × Corner) → In e (steps_round k a) → Centre k a e
round-centre k a e i =
    Each-at (IsCentre k (is_dark a) a.r a.c) e (left_here k a ∷ others_here k a) (steps-centre k (is_dark a) a.r a.c)
    (subst (λ (es : List (Corner × Corner)). In e es) (steps-table k a) i)

-- two cells of one colour with a common step are the same
centre-one : (k : Kind) (t : Bool) (r c r' c' : ℕ) (e : Corner × Corner) → IsCentre k t r c e → IsCentre k t r' c' e → (r ≡ r') × (c ≡ c')
centre-one Square true r c r' c' e p q = (omega (arith, p, q), omega (arith, p, q))
centre-one Square false r c r' c' e p q = (omega (arith, p, q), omega (arith, p, q))
centre-one Triangle true r c r' c' e p q = (omega (arith, p, q), omega (arith, p, q))
centre-one Triangle false r c r' c' e p q = (omega (arith, p, q), omega (arith, p, q))

pub cell-one : (k : Kind) (a b : Cell) (e : Corner × Corner) → is_dark a ≡ is_dark b → In e (steps_round k a) → In e (steps_round k b) → a ≡ b
cell-one k a b e same i j =
    let p : (a.r ≡ b.r) × (a.c ≡ b.c) =
    centre-one k (is_dark a) a.r a.c b.r b.c e (round-centre k a e i) (subst (λ (t : Bool). IsCentre k t b.r b.c e) (sym same) (round-centre k b e j)) in
    let row : a.r ≡ b.r = p.0 in
    let column : a.c ≡ b.c = p.1 in
    λ i. record { r = row i; c = column i }

-- two steps that a dark and a light cell have in common are the same
abbrev Ends : Corner × Corner → Corner × Corner → Type 0
Ends d e = ((d.0.r ≡ e.0.r) × (d.0.x ≡ e.0.x)) × ((d.1.r ≡ e.1.r) × (d.1.x ≡ e.1.x))

centres-step : (k : Kind) (r c r' c' : ℕ) (d e : Corner × Corner) → IsCentre k true r c d → IsCentre k false r' c' d
    → IsCentre k true r c e → IsCentre k false r' c' e → Ends d e
centres-step Square r c r' c' d e p q s t = ((omega (arith, p, q, s, t), omega (arith, p, q, s, t)), (omega (arith, p, q, s, t), omega (arith, p, q, s, t)))
centres-step Triangle r c r' c' d e p q s t = ((omega (arith, p, q, s, t), omega (arith, p, q, s, t)), (omega (arith, p, q, s, t), omega (arith, p, q, s, t)))

dark-light-step : (k : Kind) (a b : Cell) (d e : Corner × Corner) → is_dark a ≡ true → is_dark b ≡ false
    → In d (steps_round k a) → In d (steps_round k b) → In e (steps_round k a) → In e (steps_round k b) → d ≡ e
dark-light-step k a b d e dark light i j m n =
    let p : Ends d e =
    centres-step k a.r a.c b.r b.c d e
    (subst (λ (t : Bool). IsCentre k t a.r a.c d) dark (round-centre k a d i)) (subst (λ (t : Bool). IsCentre k t b.r b.c d) light (round-centre k b d j))
    (subst (λ (t : Bool). IsCentre k t a.r a.c e) dark (round-centre k a e m)) (subst (λ (t : Bool). IsCentre k t b.r b.c e) light (round-centre k b e n)) in
    let from : d.0 ≡ e.0 = corner-same d.0 e.0 p.0.0 p.0.1 in
    let to : d.1 ≡ e.1 = corner-same d.1 e.1 p.1.0 p.1.1 in
    λ i. (from i, to i)

-- two different cells have no more than one step in common
pub step-one : (k : Kind) (a b : Cell) (d e : Corner × Corner) → (a ≡ b → ⊥)
    → In d (steps_round k a) → In d (steps_round k b) → In e (steps_round k a) → In e (steps_round k b) → d ≡ e
step-one k a b d e differ i j m n = go (is_dark a) (is_dark b) refl refl
  where
    go : (s t : Bool) → is_dark a ≡ s → is_dark b ≡ t → d ≡ e
    go true true p q = absurd (differ (cell-one k a b d (p ∙ sym q) i j))
    go true false p q = dark-light-step k a b d e p q i j m n
    go false true p q = dark-light-step k b a d e q p j i n m
    go false false p q = absurd (differ (cell-one k a b d (p ∙ sym q) i j))

-- a step is round no more than two cells
pub cell-two : (k : Kind) (a b c : Cell) (e : Corner × Corner) → (a ≡ b → ⊥) → In e (steps_round k a) → In e (steps_round k b) → In e (steps_round k c)
    → (c ≡ a) ⊎ (c ≡ b)
cell-two k a b c e differ i j m = go (is_dark a) (is_dark b) (is_dark c) refl refl refl
  where
    go : (s t u : Bool) → is_dark a ≡ s → is_dark b ≡ t → is_dark c ≡ u → (c ≡ a) ⊎ (c ≡ b)
    go true true u p q h = absurd (differ (cell-one k a b e (p ∙ sym q) i j))
    go false false u p q h = absurd (differ (cell-one k a b e (p ∙ sym q) i j))
    go true false true p q h = inl (cell-one k c a e (h ∙ sym p) m i)
    go true false false p q h = inr (cell-one k c b e (h ∙ sym q) m j)
    go false true true p q h = inr (cell-one k c b e (h ∙ sym q) m j)
    go false true false p q h = inl (cell-one k c a e (h ∙ sym p) m i)

-- ---- the steps round a cell are different ones

not_among : (d : Corner × Corner) (es : List (Corner × Corner)) → Each (λ e. SameStep d e → ⊥) es → In d es → ⊥
not_among d es h i = Each-at (λ e. SameStep d e → ⊥) d es h i (same_step d d refl)

abbrev AreApart : List (Corner × Corner) → Type 0
AreApart [] = Unit {0}
AreApart (d ∷ es) = Each (λ e. SameStep d e → ⊥) es × AreApart es

once : (es : List (Corner × Corner)) → AreApart es → Distinct es
once [] h = tt
once (d ∷ es) h = (not_among d es h.0, once es h.1)

apart : (k : Kind) (t : Bool) (r c : ℕ) → AreApart (left_step k t r c ∷ other_steps k t r c)
apart Square true r c = (
  ((λ p. omega (arith, p)), ((λ p. omega (arith, p)), ((λ p. omega (arith, p)), tt))),
  (((λ p. omega (arith, p)), ((λ p. omega (arith, p)), tt)), (((λ p. omega (arith, p)), tt), (tt, tt))),
)
apart Square false r c = (
  ((λ p. omega (arith, p)), ((λ p. omega (arith, p)), ((λ p. omega (arith, p)), tt))),
  (((λ p. omega (arith, p)), ((λ p. omega (arith, p)), tt)), (((λ p. omega (arith, p)), tt), (tt, tt))),
)
apart Triangle true r c = (((λ p. omega (arith, p)), ((λ p. omega (arith, p)), tt)), (((λ p. omega (arith, p)), tt), (tt, tt)))
apart Triangle false r c = (((λ p. omega (arith, p)), ((λ p. omega (arith, p)), tt)), (((λ p. omega (arith, p)), tt), (tt, tt)))

pub round-once : (k : Kind) (a : Cell) → Distinct (steps_round k a)
round-once k a = subst (λ (es : List (Corner × Corner)). Distinct es) (sym (steps-table k a)) (once (left_here k a ∷ others_here k a) (apart k (is_dark a) a.r a.c))
