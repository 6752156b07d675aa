-- Parts of rows as the code makes them are those after the steps at the corners of a block.
use Rattle.std.proofs.Common.{◌≡◌, ℕ, ◌+◌, ◌-◌, ◌*◌, ◌/◌, ◌%◌, ◌<◌, ◌≤◌, Bool, true, false, List, cond, length, Some, refl, sym, ◌∙◌, ap, subst, arith, ℤ}
use Rattle.std.specs.Prelude.{◌==◌, slice_get}
use Rattle.std.proofs.lemmas.Bool.{cond-true, cond-false, eqb-true, eq-eqb, false_from_ne_true}
use Rattle.tl_definitions.specs.declared.Kind.{Kind}
use Rattle.tl_definitions.specs.declared.Kind.TheVariants.{Square, Triangle}
use Rattle.tl_definitions.specs.declared.Corner.{Corner}
use Rattle.tl_definitions.specs.Lattice.{cell_width, class_of}
use Rattle.tl_definitions.specs.Region.{Region, inner_corners}
use Rattle.tl_definitions.specs.Accepted.{IsPlaced}
use Rattle.tl_definitions.proofs.InnerNumbers.{inner-at}
use Rattle.tl_steps.specs.Stepping.{stepped_height}
use Rattle.tl_sweep.specs.Blocks.{AreSteppedIn, IsBlock}
use Rattle.tl_sweep.specs.Places.{at, by_class, every_sixth, is_bit, square_stepped, triangle_stepped}
use Rattle.tl_sweep.proofs.BlockCorners.{block-at, block-is, block-place, block-row, corner_of}
use Rattle.tl_sweep.proofs.Values.{square-stepped, triangle-stepped}

module _ (R : Region) (numbers : List ℤ) (bits : ℕ → Bool) (k number place count : ℕ) (part : List ℤ) (placed : IsPlaced R)
    (block : IsBlock R number place count) (word : ℕ) (bits_are : (j : ℕ) → j < 32 → is_bit word j ≡ bits (number + j)) where
  abbrev w : ℕ
  w = R.columns + 2

  few : (j : ℕ) → j < count → j < 32
  few j h = omega (arith, h, block.few)

  row : (j : ℕ) (v : Corner) → j < count → slice_get (inner_corners R) (number + j) ≡ Some v → (v.r ≡ place / w) × (v.x ≡ place % w + cell_width R.kind * j)
  row j v h e =
      subst (λ (u : Corner). (u.r ≡ place / w) × (u.x ≡ place % w + cell_width R.kind * j)) (block-is R placed number place count block j v h e) (block-row R placed number place count block j h)

  here : (j : ℕ) (v : Corner) → j < count → slice_get (inner_corners R) (number + j) ≡ Some v → v.r * w + v.x ≡ place + cell_width R.kind * j
  here j v h e =
      subst (λ (u : Corner). u.r * w + u.x ≡ place + cell_width R.kind * j) (block-is R placed number place count block j v h e) (block-place R placed number place count block j h)

  pub square-part : (of_class : ℕ) → R.kind ≡ Square → ((j : ℕ) → j < 32 → is_bit of_class j ≡ ((place / (R.columns + 2) + place % (R.columns + 2) + j) % 2 == k))
      → length part ≡ count → ((j : ℕ) → j < length part → at part j ≡ by_class numbers (R.columns + 2) place (k == 0) word of_class j)
      → AreSteppedIn R numbers bits k number place count part
  square-part of_class kind class_are size each = record {
    size = size ∙ alone count block.some ∙ ap (λ (s : ℕ). s * (count - 1) + 1) (sym stride);
    stepped = stepped;
    kept = kept;
  }
    where
      stride : cell_width R.kind ≡ 1
      stride = ap cell_width kind

      alone : (n : ℕ) → 1 ≤ n → n ≡ 1 * (n - 1) + 1
      alone n h = omega (arith, h)

      times : (j : ℕ) → cell_width R.kind * j ≡ j
      times j = ap (λ (s : ℕ). s * j) stride ∙ omega arith

      class : (j : ℕ) (v : Corner) → j < count → slice_get (inner_corners R) (number + j) ≡ Some v → class_of R.kind v ≡ (place / w + place % w + j) % 2
      class j v h e =
          let q = row j v h e in
          ap (λ (k : Kind). class_of k v) kind ∙ ap (λ (n : ℕ). n % 2) (omega (arith, q.0, q.1, times j))

      stepped : (j : ℕ) (v : Corner) → j < count → slice_get (inner_corners R) (number + j) ≡ Some v → class_of R.kind v ≡ k
          → at part (cell_width R.kind * j) ≡ stepped_height R numbers v (bits (number + j))
      stepped j v h e c =
          let bit : is_bit of_class j ≡ true = class_are j (few j h) ∙ eq-eqb ((place / w + place % w + j) % 2) k (sym (class j v h e) ∙ c) in
          let even : ((v.r + v.x) % 2 == 0) ≡ (k == 0) = ap (λ (n : ℕ). n == 0) (sym (ap (λ (k : Kind). class_of k v) kind) ∙ c) in
          ap (at part) (times j) ∙ each j (omega (arith, h, size))
          ∙ cond-true (is_bit of_class j) (square_stepped numbers w (place + j) (k == 0) (is_bit word j)) (at numbers (place + j)) bit
          ∙ ap (λ (b : Bool). square_stepped numbers w (place + j) (k == 0) b) (bits_are j (few j h))
          ∙ ap (λ (p : ℕ). square_stepped numbers w p (k == 0) (bits (number + j))) (ap (λ (n : ℕ). place + n) (sym (times j)) ∙ sym (here j v h e))
          ∙ sym (square-stepped R numbers v (k == 0) (bits (number + j)) kind placed (inner-at R v (number + j) e) even)

      kept : (t : ℕ) → t < length part
          → ((j : ℕ) (v : Corner) → j < count → t ≡ cell_width R.kind * j → slice_get (inner_corners R) (number + j) ≡ Some v → class_of R.kind v ≡ k → ⊥)
          → at part t ≡ at numbers (place + t)
      kept t h none =
          let small : t < count = omega (arith, h, size) in
          let v = corner_of R placed number place count block t in
          let e : slice_get (inner_corners R) (number + t) ≡ Some v = block-at R placed number place count block t small in
          let off : is_bit of_class t ≡ false = false_from_ne_true (is_bit of_class t) (λ b.
          none t v small (sym (times t)) e (class t v small e ∙ eqb-true ((place / w + place % w + t) % 2) k (sym (class_are t (few t small)) ∙ b))) in
          each t h ∙ cond-false (is_bit of_class t) (square_stepped numbers w (place + t) (k == 0) (is_bit word t)) (at numbers (place + t)) off

  pub triangle-part : (first : ℕ) → R.kind ≡ Triangle → k < 3 → first ≡ 2 * ((2 * k + place % (R.columns + 2)) % 3)
      → length part + 1 ≡ 2 * count → ((t : ℕ) → t < length part → at part t ≡ every_sixth numbers (R.columns + 2) place first word t)
      → AreSteppedIn R numbers bits k number place count part
  triangle-part first kind few_classes first_is size each = record {
    size = last (length part) count block.some size ∙ ap (λ (s : ℕ). s * (count - 1) + 1) (sym stride);
    stepped = stepped;
    kept = kept;
  }
    where
      stride : cell_width R.kind ≡ 2
      stride = ap cell_width kind

      last : (l n : ℕ) → 1 ≤ n → l + 1 ≡ 2 * n → l ≡ 2 * (n - 1) + 1
      last l n h e = omega (arith, h, e)

      times : (j : ℕ) → cell_width R.kind * j ≡ 2 * j
      times j = ap (λ (s : ℕ). s * j) stride

      class : (j : ℕ) (v : Corner) → j < count → slice_get (inner_corners R) (number + j) ≡ Some v → class_of R.kind v ≡ (place % w + 2 * j) % 3
      class j v h e =
          let q = row j v h e in
          ap (λ (k : Kind). class_of k v) kind ∙ ap (λ (n : ℕ). n % 3) (omega (arith, q.1, times j))

      of_class : (x j k : ℕ) → (x + 2 * j) % 3 ≡ k → (2 * j) % 6 ≡ 2 * ((2 * k + x) % 3)
      of_class x j k e = omega (arith, e)

      class_of_place : (x t k : ℕ) → k < 3 → t % 6 ≡ 2 * ((2 * k + x) % 3) → (t ≡ 2 * (t / 2)) × ((x + 2 * (t / 2)) % 3 ≡ k)
      class_of_place x t k h e = (omega (arith, h, e), omega (arith, h, e))

      stepped : (j : ℕ) (v : Corner) → j < count → slice_get (inner_corners R) (number + j) ≡ Some v → class_of R.kind v ≡ k
          → at part (cell_width R.kind * j) ≡ stepped_height R numbers v (bits (number + j))
      stepped j v h e c =
          let sixth : ((2 * j) % 6 == first) ≡ true = eq-eqb ((2 * j) % 6) first (of_class (place % w) j k (sym (class j v h e) ∙ c) ∙ sym first_is) in
          let half : (2 * j) / 2 ≡ j = omega arith in
          ap (at part) (times j) ∙ each (2 * j) (omega (arith, h, size))
          ∙ cond-true ((2 * j) % 6 == first) (triangle_stepped numbers w (place + 2 * j) (is_bit word ((2 * j) / 2))) (at numbers (place + 2 * j)) sixth
          ∙ ap (λ (b : Bool). triangle_stepped numbers w (place + 2 * j) b) (ap (is_bit word) half ∙ bits_are j (few j h))
          ∙ ap (λ (p : ℕ). triangle_stepped numbers w p (bits (number + j))) (ap (λ (n : ℕ). place + n) (sym (times j)) ∙ sym (here j v h e))
          ∙ sym (triangle-stepped R numbers v (bits (number + j)) kind placed (inner-at R v (number + j) e))

      kept : (t : ℕ) → t < length part
          → ((j : ℕ) (v : Corner) → j < count → t ≡ cell_width R.kind * j → slice_get (inner_corners R) (number + j) ≡ Some v → class_of R.kind v ≡ k → ⊥)
          → at part t ≡ at numbers (place + t)
      kept t h none =
          each t h ∙ cond-false (t % 6 == first) (triangle_stepped numbers w (place + t) (is_bit word (t / 2))) (at numbers (place + t)) (false_from_ne_true (t % 6 == first) (λ b. no (eqb-true (t % 6) first b)))
        where
          no : t % 6 ≡ first → ⊥
          no b =
              let q = class_of_place (place % w) t k few_classes (b ∙ first_is) in
              let small : t / 2 < count = omega (arith, h, size) in
              let v = corner_of R placed number place count block (t / 2) in
              let e : slice_get (inner_corners R) (number + t / 2) ≡ Some v = block-at R placed number place count block (t / 2) small in
              none (t / 2) v small (q.0 ∙ sym (times (t / 2))) e (class (t / 2) v small e ∙ q.1)
