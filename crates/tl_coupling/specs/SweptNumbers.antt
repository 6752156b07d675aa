-- The numbers after a sweep are the only ones that are swept from the old ones, and they depend on the bits of the inner corners
-- alone. Sweeps keep heights lawful and in order.
use Rattle.std.proofs.Common.{◌≡◌, ℕ, zero, suc, ◌+◌, ◌*◌, ◌<◌, ◌≤◌, ◌⊎◌, inl, inr, Bool, true, false, ◌&&◌, List, [], ◌∷◌, map, length, get_or, Option, Some, None, refl, sym, ◌∙◌, ap, subst, arith, ℤ, pos, ◌≤ℤ◌}
use Rattle.std.specs.Prelude.{fold, slice_get, is_some}
use Rattle.std.proofs.Math.Nat.{mul-le-mul_right}
use Rattle.std.proofs.lemmas.Bool.{and_parts, and_from, cases_lt, false_from_ne_true}
use Rattle.std.proofs.lemmas.Int.{ints}
use Rattle.std.proofs.lemmas.List.{get_or-map, get_or_past, length-map}
use Rattle.std.proofs.lemmas.Nat.{mul-add-lt}
use Rattle.tl_definitions.specs.declared.Corner.{Corner}
use Rattle.tl_definitions.specs.Lattice.{classes, corner, corner_eq}
use Rattle.tl_definitions.specs.Region.{Region, corner_rows, inner_corners, is_corner_of, is_inner}
use Rattle.tl_definitions.specs.Accepted.{Accepted, IsPlaced}
use Rattle.tl_definitions.specs.Heights.{height, height_count, AreHeightsOf, AreLawful}
use Rattle.tl_definitions.proofs.CornerRows.{corner_rows-at, length-corner_rows}
use Rattle.tl_definitions.proofs.InnerNumbers.{inner-number, inner-at, is_some-number}
use Rattle.tl_lists.specs.Lists.{upto}
use Rattle.tl_closing.proofs.Stated.{corner-within, inner-of_region, same-numbers}
use Rattle.tl_lawful.specs.Order.{LieBelow}
use Rattle.tl_steps.specs.Stepping.{AreSwept, is_of_class, stepped_height}
use Rattle.tl_steps.proofs.Stated.{class-lawful, swept-below}
use Rattle.tl_sweep.specs.Sweeps.{AreSweptInTurn, AreWhollySwept}
use Rattle.tl_coupling.specs.Carried.{AgreeWithin, carried_numbers, class_swept, height_after, height_numbered, number_of, swept}

-- ---- the numbers after the steps at a class

module _ (R : Region) (bits : ℕ → Bool) (k : ℕ) (numbers : List ℤ) where
  class_swept-count : length (class_swept R bits k numbers) ≡ height_count R
  class_swept-count = length-map (corner_rows (R.columns + 2) (R.rows + 1)) (height_after R bits k numbers) ∙ length-corner_rows (R.columns + 2) (R.rows + 1)

  class_swept-height : (v : Corner) → v.r < R.rows + 1 → v.x < R.columns + 2 → height R (class_swept R bits k numbers) v ≡ height_after R bits k numbers v
  class_swept-height v row column =
      get_or-map (height_after R bits k numbers) (corner_rows (R.columns + 2) (R.rows + 1)) (v.r * (R.columns + 2) + v.x) v (pos 0)
      (within (length-corner_rows (R.columns + 2) (R.rows + 1)) (mul-add-lt v.r (R.columns + 2) v.x (R.rows + 1) row column))
      ∙ ap (height_after R bits k numbers) (corner_rows-at (R.columns + 2) (R.rows + 1) v.r v.x v row column)
    where
      within : length (corner_rows (R.columns + 2) (R.rows + 1)) ≡ (R.rows + 1) * (R.columns + 2) → v.r * (R.columns + 2) + v.x < (R.columns + 2) * (R.rows + 1)
          → v.r * (R.columns + 2) + v.x < length (corner_rows (R.columns + 2) (R.rows + 1))
      within e l = grind (arith, e, l)

  module _ (placed : IsPlaced R) (heights : AreHeightsOf R numbers) where
    -- elsewhere than at an inner corner of the class the height is the old one
    after-kept : (v : Corner) → (is_inner R v && is_of_class R k v) ≡ false → height_after R bits k numbers v ≡ height R numbers v
    after-kept v out = go (number_of R v) refl
      where
        at : (i : ℕ) (t : Bool) → is_inner R v ≡ true → is_of_class R k v ≡ t → height_numbered R bits k numbers v (Some i) ≡ height R numbers v
        at i true inner e = cc (out, and_from _ _ inner e)
        at i false inner e = rw e refl

        go : (o : Option ℕ) → number_of R v ≡ o → height_numbered R bits k numbers v o ≡ height R numbers v
        go None e = refl
        go (Some i) e =
            at i (is_of_class R k v) (sym (is_some-number R v placed) ∙ ap (λ (o : Option ℕ). is_some o) e) refl

    after-stepped : (i : ℕ) (v : Corner) → slice_get (inner_corners R) i ≡ Some v → is_of_class R k v ≡ true → height_after R bits k numbers v ≡ stepped_height R numbers v (bits i)
    after-stepped i v e of = ap (height_numbered R bits k numbers v) (inner-number R v i e) ∙ rw of refl

    no_corner : (v : Corner) → v.x < R.columns + 2 → is_corner_of R v ≡ false → height R (class_swept R bits k numbers) v ≡ pos 0
    no_corner v column none = go (cases_lt v.r (R.rows + 1))
      where
        no_inner : (is_inner R v && is_of_class R k v) ≡ false
        no_inner = false_from_ne_true _ (λ e. cc (none, inner-of_region R v (and_parts _ _ e).0))

        past : length (class_swept R bits k numbers) ≡ (R.rows + 1) * (R.columns + 2) → (R.rows + 1) * (R.columns + 2) ≤ v.r * (R.columns + 2)
            → length (class_swept R bits k numbers) ≤ v.r * (R.columns + 2) + v.x
        past l m = omega (arith, l, m)

        go : (v.r < R.rows + 1) ⊎ (R.rows + 1 ≤ v.r) → height R (class_swept R bits k numbers) v ≡ pos 0
        go (inl row) = class_swept-height v row column ∙ after-kept v no_inner ∙ heights.elsewhere v column none
        go (inr below) =
            get_or_past (class_swept R bits k numbers) (v.r * (R.columns + 2) + v.x) (pos 0) (past class_swept-count (mul-le-mul_right (R.columns + 2) below))

    class_swept-heights : AreHeightsOf R (class_swept R bits k numbers)
    class_swept-heights = record { count = class_swept-count; elsewhere = no_corner }

    -- These are swept from the old ones.
    pub class_swept-swept : AreSwept R numbers (class_swept R bits k numbers) bits (is_of_class R k)
    class_swept-swept = record { heights = class_swept-heights; stepped = stepped; kept = kept }
      where
        at : (v : Corner) → is_corner_of R v ≡ true → height R (class_swept R bits k numbers) v ≡ height_after R bits k numbers v
        at v of_region = let within = corner-within R v placed of_region in class_swept-height v within.0 within.1

        stepped : (i : ℕ) (v : Corner) → slice_get (inner_corners R) i ≡ Some v → is_of_class R k v ≡ true
            → height R (class_swept R bits k numbers) v ≡ stepped_height R numbers v (bits i)
        stepped i v e of = at v (inner-of_region R v (inner-at R v i e)) ∙ after-stepped i v e of

        kept : (w : Corner) → is_corner_of R w ≡ true → (is_inner R w && is_of_class R k w) ≡ false → height R (class_swept R bits k numbers) w ≡ height R numbers w
        kept w of_region out = at w of_region ∙ after-kept w out

-- ---- and no others are

le_both : (y z : ℤ) → y ≤ℤ z → z ≤ℤ y → y ≡ z
le_both y z l m = omega (arith, ints, l, m)

le_same : (z : ℤ) → z ≤ℤ z
le_same z = omega (arith, ints)

-- heights that lie below each other are the same
pub below-same : (R : Region) (a b : List ℤ) → AreHeightsOf R a → AreHeightsOf R b → LieBelow R a b → LieBelow R b a → a ≡ b
below-same R a b p q below above =
    same-numbers R a b p q (λ v e. le_both (height R a v) (height R b v) (below v e) (above v e))

swept-one : (R : Region) (numbers a b : List ℤ) (bits : ℕ → Bool) (some : Corner → Bool) → AreSwept R numbers a bits some → AreSwept R numbers b bits some → a ≡ b
swept-one R numbers a b bits some p q =
    below-same R a b p.heights q.heights
    (swept-below R numbers numbers a b bits some (λ v e. le_same (height R numbers v)) p q)
    (swept-below R numbers numbers b a bits some (λ v e. le_same (height R numbers v)) q p)

-- only the bits of the inner corners are read
slice_get-within : {A : Type 0} (xs : List A) (i : ℕ) (x : A) → slice_get xs i ≡ Some x → i < length xs
slice_get-within [] i x e = cc e
slice_get-within (y ∷ ys) zero x e = omega arith
slice_get-within (y ∷ ys) (suc i) x e = omega (arith, slice_get-within ys i x e)

module _ (R : Region) (bits others : ℕ → Bool) (placed : IsPlaced R) (agree : AgreeWithin (length (inner_corners R)) bits others) where
  other-bits : (numbers a : List ℤ) (some : Corner → Bool) → AreSwept R numbers a bits some → AreSwept R numbers a others some
  other-bits numbers a some p = record {
    heights = p.heights;
    stepped = λ i v e h. p.stepped i v e h ∙ ap (stepped_height R numbers v) (agree i (slice_get-within (inner_corners R) i v e));
    kept = p.kept;
  }

  in-turn : (ks : List ℕ) (numbers a : List ℤ) → AreHeightsOf R numbers → AreSweptInTurn R bits ks numbers a → a ≡ fold (λ h k. class_swept R others k h) numbers ks
  in-turn [] numbers a heights e = e
  in-turn (k ∷ ks) numbers a heights (middle, first, rest) =
      let one : middle ≡ class_swept R others k numbers =
      swept-one R numbers middle (class_swept R others k numbers) others (is_of_class R k) (other-bits numbers middle (is_of_class R k) first) (class_swept-swept R others k numbers placed heights) in
      in-turn ks middle a first.heights rest ∙ ap (λ (h : List ℤ). fold (λ h k. class_swept R others k h) h ks) one

  -- So what is swept is `swept`.
  pub swept-is : (numbers a : List ℤ) → AreHeightsOf R numbers → AreWhollySwept R bits numbers a → a ≡ swept R others numbers
  swept-is numbers a heights p = in-turn (upto (classes R.kind)) numbers a heights p

-- ---- what sweeps keep

module _ (R : Region) (accepted : Accepted R) where
  class-keeps : (bits : ℕ → Bool) (k : ℕ) (numbers : List ℤ) → AreLawful R numbers → AreLawful R (class_swept R bits k numbers)
  class-keeps bits k numbers lawful =
      class-lawful R numbers (class_swept R bits k numbers) accepted lawful bits k (class_swept-swept R bits k numbers accepted.placed lawful.heights)

  classes-keep : (bits : ℕ → Bool) (ks : List ℕ) (numbers : List ℤ) → AreLawful R numbers → AreLawful R (fold (λ h k. class_swept R bits k h) numbers ks)
  classes-keep bits [] numbers lawful = lawful
  classes-keep bits (k ∷ ks) numbers lawful = classes-keep bits ks (class_swept R bits k numbers) (class-keeps bits k numbers lawful)

  pub swept-lawful : (bits : ℕ → Bool) (numbers : List ℤ) → AreLawful R numbers → AreLawful R (swept R bits numbers)
  swept-lawful bits numbers lawful = classes-keep bits (upto (classes R.kind)) numbers lawful

  pub carried-lawful : (bits : ℕ → ℕ → Bool) (T : ℕ) (numbers : List ℤ) → AreLawful R numbers → AreLawful R (carried_numbers R bits T numbers)
  carried-lawful bits zero numbers lawful = lawful
  carried-lawful bits (suc t) numbers lawful = carried-lawful bits t (swept R (bits (suc t)) numbers) (swept-lawful (bits (suc t)) numbers lawful)

  classes-below : (bits : ℕ → Bool) (ks : List ℕ) (a b : List ℤ) → AreLawful R a → AreLawful R b → LieBelow R a b
      → LieBelow R (fold (λ h k. class_swept R bits k h) a ks) (fold (λ h k. class_swept R bits k h) b ks)
  classes-below bits [] a b p q below = below
  classes-below bits (k ∷ ks) a b p q below =
      classes-below bits ks (class_swept R bits k a) (class_swept R bits k b) (class-keeps bits k a p) (class-keeps bits k b q)
      (swept-below R a b (class_swept R bits k a) (class_swept R bits k b) bits (is_of_class R k) below
      (class_swept-swept R bits k a accepted.placed p.heights) (class_swept-swept R bits k b accepted.placed q.heights))

  pub carried-below : (bits : ℕ → ℕ → Bool) (T : ℕ) (a b : List ℤ) → AreLawful R a → AreLawful R b → LieBelow R a b
      → LieBelow R (carried_numbers R bits T a) (carried_numbers R bits T b)
  carried-below bits zero a b p q below = below
  carried-below bits (suc t) a b p q below =
      carried-below bits t (swept R (bits (suc t)) a) (swept R (bits (suc t)) b) (swept-lawful (bits (suc t)) a p) (swept-lawful (bits (suc t)) b q)
      (classes-below (bits (suc t)) (upto (classes R.kind)) a b p q below)
