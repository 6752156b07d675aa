-- The steps at the corners of a block, put in the place of their row.
use Rattle.std.proofs.Common.{◌≡◌, ℕ, ◌+◌, ◌-◌, ◌*◌, ◌<◌, ◌≤◌, ◌⊎◌, inl, inr, Bool, true, false, ◌&&◌, List, length, Some, refl, sym, ◌∙◌, ap, subst, arith, ℤ, pos}
use Rattle.std.specs.Prelude.{slice_get, nat_le, nat_lt, ◌==◌}
use Rattle.std.proofs.lemmas.Bool.{and_parts, and_from, eqb-true, eq-eqb, false_from_ne_true, lt-ltb, le-leb, leb-true, ltb-true, cases_lt}
use Rattle.tl_definitions.specs.declared.Corner.{Corner}
use Rattle.tl_definitions.specs.Lattice.{cell_width, class_of}
use Rattle.tl_definitions.specs.Region.{Region, inner_corners, is_corner_of, is_inner}
use Rattle.tl_definitions.specs.Accepted.{IsPlaced}
use Rattle.tl_definitions.specs.Heights.{height, AreHeightsOf}
use Rattle.tl_definitions.proofs.Corners.{same_place}
use Rattle.tl_definitions.proofs.InnerNumbers.{inner-at, inner-among}
use Rattle.tl_lists.specs.Lists.{put_at}
use Rattle.tl_closing.proofs.Stated.{corner-within, inner-of_region, place-within}
use Rattle.tl_steps.specs.Stepping.{AreSwept, is_of_class, stepped_height}
use Rattle.tl_sweep.specs.Blocks.{AreSteppedIn, IsBlock, is_between, number_of}
use Rattle.tl_sweep.specs.Places.{at}
use Rattle.tl_sweep.proofs.BlockCorners.{block-at, block-inner, block-is, block-place, corner_of}
use Rattle.tl_sweep.proofs.Puts.{length-put_at, put_at-above, put_at-below, put_at-in}
use Rattle.tl_sweep.proofs.SomeCorners.{inner-number_of}

module _ (R : Region) (numbers : List ℤ) (bits : ℕ → Bool) (k number place count : ℕ) (part : List ℤ) (placed : IsPlaced R) (heights : AreHeightsOf R numbers)
    (block : IsBlock R number place count) (part_of : AreSteppedIn R numbers bits k number place count part) where
  abbrev w : ℕ
  w = R.columns + 2

  abbrev others : List ℤ
  others = put_at place part numbers

  -- the part is within
  pub part-within : place + length part ≤ length numbers
  part-within =
      let last : count - 1 < count = omega (arith, block.some) in
      let v = corner_of R placed number place count block (count - 1) in
      let p = place-within R numbers v placed heights (inner-of_region R v (block-inner R placed number place count block (count - 1) last)) in
      omega (arith, p, part_of.size, block-place R placed number place count block (count - 1) last)

  -- a corner whose place is that of a corner of the block
  same-corner : (j : ℕ) (v w' : Corner) → j < count → slice_get (inner_corners R) (number + j) ≡ Some v → w'.x < w
      → w'.r * w + w'.x ≡ place + cell_width R.kind * j → v ≡ w'
  same-corner j v w' h e column there =
      let is = block-is R placed number place count block j v h e in
      let here : v.r * w + v.x ≡ place + cell_width R.kind * j = subst (λ (u : Corner). u.r * w + u.x ≡ place + cell_width R.kind * j) is (block-place R placed number place count block j h) in
      let inside = inner-among R v placed (inner-at R v (number + j) e) in
      same_place v w' w (omega (arith, inside.column)) column (here ∙ sym there)

  -- a corner at which no step is made
  unstepped : (u : Corner) → u.x < w → ((j : ℕ) → j < count → slice_get (inner_corners R) (number + j) ≡ Some u → class_of R.kind u ≡ k → ⊥)
      → height R others u ≡ height R numbers u
  unstepped u column none = go (cases_lt (u.r * w + u.x) place) (cases_lt (u.r * w + u.x) (place + length part))
    where
      inside : place ≤ u.r * w + u.x → u.r * w + u.x < place + length part → height R others u ≡ height R numbers u
      inside low high =
          let t = u.r * w + u.x - place in
          let sum : place + t ≡ u.r * w + u.x = omega (arith, low) in
          let small : t < length part = omega (arith, low, high) in
          ap (λ (n : ℕ). at others n) (sym sum) ∙ put_at-in place part numbers part-within t (pos 0) small
          ∙ part_of.kept t small (λ j v h e f c.
          let is = same-corner j v u h f column (sym sum ∙ ap (λ (n : ℕ). place + n) e) in
          none j h (f ∙ ap (λ (z : Corner). Some z) is) (ap (class_of R.kind) (sym is) ∙ c))
          ∙ ap (λ (n : ℕ). at numbers n) sum

      go : (u.r * w + u.x < place) ⊎ (place ≤ u.r * w + u.x) → (u.r * w + u.x < place + length part) ⊎ (place + length part ≤ u.r * w + u.x)
          → height R others u ≡ height R numbers u
      go (inl low) q = put_at-below place part numbers part-within (u.r * w + u.x) (pos 0) low
      go (inr low) (inl high) = inside low high
      go (inr low) (inr high) = put_at-above place part numbers part-within (u.r * w + u.x) (pos 0) high

  here-stepped : (j i : ℕ) (v : Corner) → j < count → number + j ≡ i → slice_get (inner_corners R) i ≡ Some v → is_of_class R k v ≡ true
      → height R others v ≡ stepped_height R numbers v (bits i)
  here-stepped j i v h sum e c =
      let f : slice_get (inner_corners R) (number + j) ≡ Some v = ap (slice_get (inner_corners R)) sum ∙ e in
      let is = block-is R placed number place count block j v h f in
      let there : v.r * w + v.x ≡ place + cell_width R.kind * j = subst (λ (u : Corner). u.r * w + u.x ≡ place + cell_width R.kind * j) is (block-place R placed number place count block j h) in
      let small : cell_width R.kind * j < length part = within j h in
      ap (λ (n : ℕ). at others n) there ∙ put_at-in place part numbers part-within (cell_width R.kind * j) (pos 0) small
      ∙ part_of.stepped j v h f (eqb-true (class_of R.kind v) k c) ∙ ap (λ (n : ℕ). stepped_height R numbers v (bits n)) sum
    where
      within : (j : ℕ) → j < count → cell_width R.kind * j < length part
      within j h =
          let less : cell_width R.kind * j ≤ cell_width R.kind * (count - 1) = grow j h in
          omega (arith, less, part_of.size)
        where
          grow : (j : ℕ) → j < count → cell_width R.kind * j ≤ cell_width R.kind * (count - 1)
          grow j h = grind arith

  pub block-swept : AreSwept R numbers others bits (is_between R k number (number + count))
  block-swept = record {
    heights = record {
      count = length-put_at place part numbers part-within ∙ heights.count;
      elsewhere = λ v column none.
          unstepped v column (λ j h e c. cc (none, inner-of_region R v (inner-at R v (number + j) e))) ∙ heights.elsewhere v column none;
    };
    stepped = λ i v e h. stepped i v e (and_parts (is_of_class R k v) (nat_le number (number_of R v) && nat_lt (number_of R v) (number + count)) h);
    kept = λ u of_region out. unstepped u (corner-within R u placed of_region).1 (λ j h e c.
        let inner : is_inner R u ≡ true = inner-at R u (number + j) e in
        let n : number_of R u ≡ number + j = inner-number_of R u (number + j) placed e in
        let yes : (is_inner R u && is_between R k number (number + count) u) ≡ true =
        and_from (is_inner R u) (is_between R k number (number + count) u) inner
        (and_from (is_of_class R k u) (nat_le number (number_of R u) && nat_lt (number_of R u) (number + count)) (eq-eqb (class_of R.kind u) k c)
        (and_from (nat_le number (number_of R u)) (nat_lt (number_of R u) (number + count)) (le-leb number (number_of R u) (omega (arith, n))) (lt-ltb (number_of R u) (number + count) (omega (arith, n, h))))) in
        cc (out, yes));
  }
    where
      stepped : (i : ℕ) (v : Corner) → slice_get (inner_corners R) i ≡ Some v
          → (is_of_class R k v ≡ true) × ((nat_le number (number_of R v) && nat_lt (number_of R v) (number + count)) ≡ true)
          → height R others v ≡ stepped_height R numbers v (bits i)
      stepped i v e (c, h) =
          let p = and_parts (nat_le number (number_of R v)) (nat_lt (number_of R v) (number + count)) h in
          let n : number_of R v ≡ i = inner-number_of R v i placed e in
          let low : number ≤ number_of R v = leb-true number (number_of R v) p.0 in
          let high : number_of R v < number + count = ltb-true (number_of R v) (number + count) p.1 in
          here-stepped (i - number) i v (omega (arith, n, low, high)) (omega (arith, n, low)) e c
