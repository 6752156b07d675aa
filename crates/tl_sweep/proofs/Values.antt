-- What a step puts at an inner corner, by the places of the numbers that it reads; and that these numbers are small.
use Rattle.std.proofs.Common.{neg_ℤ, ◌≡◌, ℕ, ◌+◌, ◌-◌, ◌*◌, ◌/◌, ◌%◌, ◌<◌, ◌≤◌, ◌⊎◌, inl, inr, Bool, true, false, List, [], ◌∷◌, map, cond, refl, sym, ◌∙◌, ap, subst, arith, eqb, ℤ, pos, ◌+ℤ◌, ◌-ℤ◌, ◌≤ℤ◌}
use Rattle.std.specs.Prelude.{◌==◌, if◌then◌else◌}
use Rattle.std.specs.List.{list_all}
use Rattle.std.proofs.lemmas.Bool.{and_parts, cases_lt, eq-eqb, eqb-true, eqb-false, ne_eqb, lt-ltb, le-ltb}
use Rattle.std.proofs.lemmas.Int.{ints}
use Rattle.std.proofs.lemmas.Nat.{div-add-mod', mod_below}
use Rattle.tl_definitions.specs.declared.Kind.{Kind}
use Rattle.tl_definitions.specs.declared.Kind.TheVariants.{Square, Triangle}
use Rattle.tl_definitions.specs.declared.Corner.{Corner}
use Rattle.tl_definitions.specs.declared.TheConstants.{SIDE_LIMIT}
use Rattle.tl_definitions.specs.Lattice.{cell_back, corner, is_corner, ring, steps_in, steps_out}
use Rattle.tl_definitions.specs.Limits.{most_height}
use Rattle.tl_definitions.specs.Region.{Region, has_at, is_corner_of, is_inner}
use Rattle.tl_definitions.specs.Accepted.{Accepted, IsPlaced}
use Rattle.tl_definitions.specs.Heights.{height, AreHeightsOf, AreLawful}
use Rattle.tl_definitions.proofs.InnerNumbers.{inner-among}
use Rattle.tl_closing.proofs.Stated.{heights-within_limits}
use Rattle.tl_lanes.specs.Lanes.{greater, lesser}
use Rattle.tl_lists.specs.Lists.{present}
use Rattle.tl_steps.specs.Stepping.{greatest, least, stepped_height}
use Rattle.tl_sweep.specs.Places.{AreSmall, IsSmall, at, square_stepped, triangle_stepped}

-- ---- the numbers are small

pub lawful-small : (R : Region) (numbers : List ℤ) → Accepted R → AreLawful R numbers → R.rows ≤ SIDE_LIMIT → R.columns ≤ SIDE_LIMIT → AreSmall numbers
lawful-small R numbers accepted lawful rows columns place = go (is_corner_of R v) refl
  where
    v : Corner
    v = corner (place / (R.columns + 2)) (place % (R.columns + 2))

    here : v.r * (R.columns + 2) + v.x ≡ place
    here = div-add-mod' place (R.columns + 2)

    move : IsSmall (at numbers (v.r * (R.columns + 2) + v.x)) → IsSmall (at numbers place)
    move = subst (λ (n : ℕ). IsSmall (at numbers (v.r * (R.columns + 2) + v.x)) → IsSmall (at numbers n)) here (λ s. s)

    go : (t : Bool) → is_corner_of R v ≡ t → IsSmall (at numbers place)
    go true e = let p = heights-within_limits R numbers v accepted lawful rows columns e in move (record { low = p.0; high = p.1 })
    go false e =
        move (subst (λ (z : ℤ). IsSmall z) (sym (lawful.heights.elsewhere v (mod_below place (R.columns + 2) (omega arith)) e)) (record { low = omega (arith, ints); high = omega (arith, ints) }))

-- ---- the places round a corner

row-above : (n r w x : ℕ) → n + 1 ≡ r → n * w + x ≡ r * w + x - w
row-above n r w x e = let product : (n + 1) * w ≡ r * w = ap (λ (m : ℕ). m * w) e in omega (arith, product)

place-above : (r w x : ℕ) → 1 ≤ r → (r - 1) * w + x ≡ r * w + x - w
place-above r w x h = row-above (r - 1) r w x (omega (arith, h))

place-below : (r w x : ℕ) → (r + 1) * w + x ≡ r * w + x + w
place-below r w x = omega arith

-- the same by the kind alone
abbrev stepped_by : Kind → Region → List ℤ → Corner → Bool → ℤ
stepped_by k R numbers v bit =
    if bit then least (map (height R numbers) (present (steps_in k v))) +ℤ pos 1 else greatest (map (height R numbers) (present (steps_out k v))) -ℤ pos 1

module _ (R : Region) (numbers : List ℤ) (v : Corner) where
  abbrev w : ℕ
  w = R.columns + 2

  abbrev p : ℕ
  p = v.r * w + v.x

  -- two numbers at places that are the same
  two : (f : ℤ → ℤ → ℤ) (g : ℤ → ℤ) (a b c d : ℕ) → a ≡ c → b ≡ d → g (f (at numbers a) (at numbers b)) ≡ g (f (at numbers c) (at numbers d))
  two f g a b c d e h = λ i. g (f (at numbers (e i)) (at numbers (h i)))

  three : (f : ℤ → ℤ → ℤ) (g : ℤ → ℤ) (a b c x y z : ℕ) → a ≡ x → b ≡ y → c ≡ z
      → g (f (f (at numbers a) (at numbers b)) (at numbers c)) ≡ g (f (f (at numbers x) (at numbers y)) (at numbers z))
  three f g a b c x y z e h k = λ i. g (f (f (at numbers (e i)) (at numbers (h i))) (at numbers (k i)))

  square : (t bit : Bool) → 1 ≤ v.r → 1 ≤ v.x → ((v.r + v.x) % 2 == 0) ≡ t → stepped_by Square R numbers v bit ≡ square_stepped numbers w p t bit
  square true true row column e =
      rw (e, le-ltb v.x 1 column) (two lesser (λ z. z +ℤ pos 1) (v.r * w + (v.x + 1)) (v.r * w + (v.x - 1)) (p + 1) (p - 1) (omega arith) (omega (arith, column)))
  square true false row column e =
      rw (e, le-ltb v.r 1 row) (two greater (λ z. z -ℤ pos 1) ((v.r - 1) * w + v.x) ((v.r + 1) * w + v.x) (p - w) (p + w) (place-above v.r w v.x row) (place-below v.r w v.x))
  square false true row column e =
      rw (e, le-ltb v.r 1 row) (two lesser (λ z. z +ℤ pos 1) ((v.r - 1) * w + v.x) ((v.r + 1) * w + v.x) (p - w) (p + w) (place-above v.r w v.x row) (place-below v.r w v.x))
  square false false row column e =
      rw (e, le-ltb v.x 1 column) (two greater (λ z. z -ℤ pos 1) (v.r * w + (v.x - 1)) (v.r * w + (v.x + 1)) (p - 1) (p + 1) (omega (arith, column)) (omega arith))

  triangle : (bit : Bool) → 1 ≤ v.r → 2 ≤ v.x → stepped_by Triangle R numbers v bit ≡ triangle_stepped numbers w p bit
  triangle true row column =
      rw (le-ltb v.r 1 row, le-ltb v.x 2 column)
      (three lesser (λ z. z +ℤ pos 1) ((v.r - 1) * w + (v.x + 1)) ((v.r + 1) * w + (v.x + 1)) (v.r * w + (v.x - 2)) (p - w + 1) (p + w + 1) (p - 2)
      (above-right (place-above v.r w (v.x + 1) row) (place-above v.r w v.x row)) (omega (arith, place-below v.r w v.x, place-below v.r w (v.x + 1))) (omega (arith, column)))
    where
      above-right : (v.r - 1) * w + (v.x + 1) ≡ v.r * w + (v.x + 1) - w → (v.r - 1) * w + v.x ≡ p - w → (v.r - 1) * w + (v.x + 1) ≡ p - w + 1
      above-right e f = omega (arith, f)
  triangle false row column =
      rw (le-ltb v.r 1 row, le-ltb v.x 1 (omega (arith, column)))
      (three greater (λ z. z -ℤ pos 1) (v.r * w + (v.x + 2)) ((v.r - 1) * w + (v.x - 1)) ((v.r + 1) * w + (v.x - 1)) (p + 2) (p - w - 1) (p + w - 1)
      (omega arith) (above-left (place-above v.r w v.x row)) (omega (arith, column, place-below v.r w v.x, place-below v.r w (v.x - 1))))
    where
      above-left : (v.r - 1) * w + v.x ≡ p - w → (v.r - 1) * w + (v.x - 1) ≡ p - w - 1
      above-left f = omega (arith, f, column)

  pub square-stepped : (t bit : Bool) → R.kind ≡ Square → IsPlaced R → is_inner R v ≡ true → ((v.r + v.x) % 2 == 0) ≡ t
      → stepped_height R numbers v bit ≡ square_stepped numbers (R.columns + 2) (v.r * (R.columns + 2) + v.x) t bit
  square-stepped t bit kind placed inner e =
      let a = inner-among R v placed inner in
      ap (λ (k : Kind). stepped_by k R numbers v bit) kind ∙ square t bit a.below_first_row a.right_of_first_column e

  -- an inner corner of a region of triangles has a cell two columns before it
  second-column : R.kind ≡ Triangle → IsPlaced R → is_inner R v ≡ true → 2 ≤ v.x
  second-column kind placed inner = go (cases_lt v.x 2)
    where
      back : has_at R (cell_back v 1 2) ≡ true
      back =
          (and_parts (has_at R (cell_back v 1 2)) (list_all (has_at R) (cell_back v 1 1 ∷ cell_back v 1 0 ∷ cell_back v 0 0 ∷ cell_back v 0 1 ∷ cell_back v 0 2 ∷ []))
          (subst (λ (k : Kind). list_all (has_at R) (ring k v) ≡ true) kind (and_parts (is_corner R.kind v) (list_all (has_at R) (ring R.kind v)) inner).1)).0

      go : (v.x < 2) ⊎ (2 ≤ v.x) → 2 ≤ v.x
      go (inl h) = cc (rw (le-ltb v.r 1 (inner-among R v placed inner).below_first_row, lt-ltb v.x 2 h) at back)
      go (inr h) = h

  pub triangle-stepped : (bit : Bool) → R.kind ≡ Triangle → IsPlaced R → is_inner R v ≡ true
      → stepped_height R numbers v bit ≡ triangle_stepped numbers (R.columns + 2) (v.r * (R.columns + 2) + v.x) bit
  triangle-stepped bit kind placed inner =
      ap (λ (k : Kind). stepped_by k R numbers v bit) kind ∙ triangle bit (inner-among R v placed inner).below_first_row (second-column kind placed inner)
