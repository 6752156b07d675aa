-- A function that rises by at most 1 along each step, and by 1 modulo the rise of a flip, falls along exactly one
-- step round each cell, and rises by 1 along the others.
use Rattle.std.proofs.Common.{◌≡◌, ℕ, suc, ◌-◌, ◌*◌, Bool, true, false, List, [], ◌∷◌, map, length, cond, refl, sym, ◌∙◌, ap, subst, arith, ℤ, pos, negsuc, ◌+ℤ◌, ◌*ℤ◌, ◌≤ℤ◌, ◌<ℤ◌, int_lt}
use Rattle.std.specs.Prelude.{count_by, IsTrue}
use Rattle.std.proofs.lemmas.Int.{ints}
use Rattle.tl_definitions.specs.declared.Kind.{Kind}
use Rattle.tl_definitions.specs.declared.Kind.TheVariants.{Square, Triangle}
use Rattle.tl_definitions.specs.declared.Cell.{Cell}
use Rattle.tl_definitions.specs.declared.Corner.{Corner}
use Rattle.tl_definitions.specs.Lattice.{is_dark, rise}
use Rattle.tl_definitions.specs.Region.{Region, is_step}
use Rattle.tl_lists.specs.Lists.{int_sum}
use Rattle.tl_lists.proofs.Members.{In, Each, Each-at, Each-from}
use Rattle.tl_lists.proofs.Counts.{count_by-passes, count_by-fails, Only, only-count_by, count}
use Rattle.tl_closing.specs.Closing.{steps_round}
use Rattle.tl_closing.proofs.Sides.{left_step, other_steps, left_here, others_here, steps-table}
use Rattle.tl_closing.proofs.Edges.{Step, is_step-from}
use Rattle.tl_closing.proofs.Round.{Rises, sum-rises}
use Rattle.tl_closing.proofs.Crossed.{climbs-sum, length-round}

pub lt-true : (a b : ℤ) → int_lt a b ≡ true → a <ℤ b
lt-true a b e = grind (arith, ints)

pub lt-false : (a b : ℤ) → int_lt a b ≡ false → b ≤ℤ a
lt-false a b e = grind (arith, ints)

-- ---- how far it can fall

abbrev Least : (Corner → ℤ) → Step → Type 0
Least h e = h e.1 ≤ℤ (h e.0 +ℤ pos 1)

abbrev Bounded : ℕ → (Corner → ℤ) → Step → Type 0
Bounded n h e = h e.0 ≤ℤ (h e.1 +ℤ pos n)

-- going on round the cell leads back in so many steps less 1
bounded : (k : Kind) (t : Bool) (r c : ℕ) (h : Corner → ℤ) → Each (Least h) (left_step k t r c ∷ other_steps k t r c)
    → Each (Bounded (rise k - 1) h) (left_step k t r c ∷ other_steps k t r c)
bounded Square true r c h (o, (p, (q, (s, tail)))) =
    (omega (arith, ints, o, p, q, s), (omega (arith, ints, o, p, q, s), (omega (arith, ints, o, p, q, s), (omega (arith, ints, o, p, q, s), tt))))
bounded Square false r c h (o, (p, (q, (s, tail)))) =
    (omega (arith, ints, o, p, q, s), (omega (arith, ints, o, p, q, s), (omega (arith, ints, o, p, q, s), (omega (arith, ints, o, p, q, s), tt))))
bounded Triangle true r c h (o, (p, (q, tail))) = (omega (arith, ints, o, p, q), (omega (arith, ints, o, p, q), (omega (arith, ints, o, p, q), tt)))
bounded Triangle false r c h (o, (p, (q, tail))) = (omega (arith, ints, o, p, q), (omega (arith, ints, o, p, q), (omega (arith, ints, o, p, q), tt)))

-- so the difference is one of two
two-values : (k : Kind) (x y q : ℤ) → y ≡ (x +ℤ pos 1) +ℤ (pos (rise k) *ℤ q) → y ≤ℤ (x +ℤ pos 1) → x ≤ℤ (y +ℤ pos (rise k - 1))
    → y ≡ x +ℤ cond (int_lt y x) (negsuc (rise k - 2)) (pos 1)
two-values k x y q e f g = go (int_lt y x) refl
  where
    falls : (k : Kind) → y ≡ (x +ℤ pos 1) +ℤ (pos (rise k) *ℤ q) → x ≤ℤ (y +ℤ pos (rise k - 1)) → y <ℤ x → y ≡ x +ℤ negsuc (rise k - 2)
    falls Square e g l = omega (arith, ints, e, g, l)
    falls Triangle e g l = omega (arith, ints, e, g, l)

    rises : (k : Kind) → y ≡ (x +ℤ pos 1) +ℤ (pos (rise k) *ℤ q) → x ≤ℤ y → y ≡ x +ℤ pos 1
    rises Square e l = omega (arith, ints, e, f, l)
    rises Triangle e l = omega (arith, ints, e, f, l)

    go : (t : Bool) → int_lt y x ≡ t → y ≡ x +ℤ cond t (negsuc (rise k - 2)) (pos 1)
    go true h = falls k e g (lt-true y x h)
    go false h = rises k e (lt-false y x h)

-- ---- one falls

count-same : {A : Type 0} (p : A → Bool) (xs : List A) → count p xs ≡ count_by p xs
count-same p [] = refl
count-same p (x ∷ xs) = go (p x) refl (count-same p xs)
  where
    go : (t : Bool) → p x ≡ t → count p xs ≡ count_by p xs → cond t (suc (count p xs)) (count p xs) ≡ count_by p (x ∷ xs)
    go true e ih = ap (λ (n : ℕ). suc n) ih ∙ sym (count_by-passes p x xs e)
    go false e ih = ih ∙ sym (count_by-fails p x xs e)

abbrev pub falls : (Corner → ℤ) → Step → Bool
falls h e = int_lt (h e.1) (h e.0)

-- along each directed step by 1 modulo the rise, and by no more than 1
pub record IsMild (R : Region) (h : Corner → ℤ) : Type 0 where
  pub modulo : (u v : Corner) → IsTrue (is_step R u v) → (m : ℤ) × (h v ≡ (h u +ℤ pos 1) +ℤ (pos (rise R.kind) *ℤ m))
  pub least : (u v : Corner) → IsTrue (is_step R u v) → h v ≤ℤ (h u +ℤ pos 1)

module _ (R : Region) (h : Corner → ℤ) (mild : IsMild R h) where
  abbrev pub fall_difference : Corner → Corner → ℤ
  fall_difference u v = cond (falls h (u, v)) (negsuc (rise R.kind - 2)) (pos 1)

  pub falls-by : (a : Cell) (e : Step) → In a R.cells → In e (steps_round R.kind a) → h e.1 ≡ h e.0 +ℤ fall_difference e.0 e.1
  falls-by a e i j = value (mild.modulo e.0 e.1 step)
    where
      step : IsTrue (is_step R e.0 e.1)
      step = is_step-from R a e.0 e.1 i j

      around : Each (Least h) (left_here R.kind a ∷ others_here R.kind a)
      around =
          Each-from (Least h) (left_here R.kind a ∷ others_here R.kind a)
          (λ d k. mild.least d.0 d.1 (is_step-from R a d.0 d.1 i (subst (λ (es : List Step). In d es) (sym (steps-table R.kind a)) k)))

      value : (m : ℤ) × (h e.1 ≡ (h e.0 +ℤ pos 1) +ℤ (pos (rise R.kind) *ℤ m)) → h e.1 ≡ h e.0 +ℤ fall_difference e.0 e.1
      value (m, same) =
          two-values R.kind (h e.0) (h e.1) m same (mild.least e.0 e.1 step)
          (Each-at (Bounded (rise R.kind - 1) h) e (left_here R.kind a ∷ others_here R.kind a) (bounded R.kind (is_dark a) a.r a.c h around)
          (subst (λ (es : List Step). In e es) (steps-table R.kind a) j))

  pub one-falls : (a : Cell) → In a R.cells → (e : Step) × Only (falls h) (steps_round R.kind a) e
  one-falls a i = only-count_by (falls h) (steps_round R.kind a) (sym (count-same (falls h) (steps_round R.kind a)) ∙ one)
    where
      sum : int_sum (map (λ e. fall_difference e.0 e.1) (steps_round R.kind a)) ≡ pos 0
      sum =
          subst (λ (es : List Step). int_sum (map (λ e. fall_difference e.0 e.1) es) ≡ pos 0) (sym (steps-table R.kind a))
          (sum-rises fall_difference h R.kind (is_dark a) a.r a.c
          (Each-from (Rises fall_difference h) (left_here R.kind a ∷ others_here R.kind a)
          (λ e k. falls-by a e i (subst (λ (es : List Step). In e es) (sym (steps-table R.kind a)) k))))

      count_is : (k : Kind) (n l : ℕ) (s : ℤ) → s +ℤ pos (rise k * n) ≡ pos l → s ≡ pos 0 → l ≡ rise k → n ≡ 1
      count_is Square n l s e f g = omega (arith, ints, e, f, g)
      count_is Triangle n l s e f g = omega (arith, ints, e, f, g)

      one : count (falls h) (steps_round R.kind a) ≡ 1
      one =
          count_is R.kind (count (falls h) (steps_round R.kind a)) (length (steps_round R.kind a))
          (int_sum (map (λ e. fall_difference e.0 e.1) (steps_round R.kind a)))
          (climbs-sum R.kind (falls h) (steps_round R.kind a)) sum (length-round R.kind a)
