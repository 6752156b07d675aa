-- The rows of words above the first corner and below the last have no free slot.
use Rattle.std.proofs.Common.{◌≡◌, ℕ, ◌+◌, ◌-◌, ◌<◌, ◌≤◌, ◌⊎◌, inl, inr, Bool, false, ◌∙◌, subst, arith}
use Rattle.std.proofs.lemmas.Bool.{cases_lt, false_from_ne_true, or_from}
use Rattle.tl_definitions.specs.declared.Kind.{Kind}
use Rattle.tl_definitions.specs.Lattice.{classes}
use Rattle.tl_definitions.specs.Region.{Region}
use Rattle.tl_closing.proofs.Stated.{corner-within, inner-of_region}
use Rattle.tl_strings.specs.Strings.{string_bit}
use Rattle.tl_packed.specs.OfClasses.{of_class}
use Rattle.tl_courses.specs.Courses.{Course, IsCourseOf, bits_of}
use Rattle.tl_courses.proofs.Stated.{first-bound, free-of, low-of}

module _ (R : Region) (bits : ℕ → ℕ → Bool) (c : Course) (is : IsCourseOf R bits c) (row : ℕ) (inside : row < c.layout.height) (outer : (row ≡ 0) ⊎ (c.layout.height ≤ row + 2)) where
  no-low : (class slot : ℕ) → class < classes R.kind → string_bit c.layout.height (of_class c.slots.lows class) row slot ≡ false
  no-low class slot below =
      false_from_ne_true _ (λ low.
      let (v, inner, of_class, row_is, slot_is) = (low-of R bits c is class below).only row slot inside low in
      let within = (corner-within R v is.accepted.placed (inner-of_region R v inner)).0 in
      out v.r row_is within outer)
    where
      out : (r : ℕ) → r + 1 ≡ row → r < R.rows + 1 → (row ≡ 0) ⊎ (c.layout.height ≤ row + 2) → ⊥
      out r e within (inl first) = omega (arith, e, first)
      out r e within (inr last) = omega (arith, e, within, last, is.of_region.height)

  pub row-bound : (class slot : ℕ) → class < classes c.layout.kind → bits_of c.layout.height c.slots.free class row slot ≡ false
  row-bound class slot within = go (cases_lt slot 64)
    where
      below : class < classes R.kind
      below = subst (λ (k : Kind). class < classes k) is.of_region.kind within

      go : (slot < 64) ⊎ (64 ≤ slot) → bits_of c.layout.height c.slots.free class row slot ≡ false
      go (inl first) = first-bound R bits c is class row slot below inside first
      go (inr later) =
          free-of R bits c is class below row slot inside (omega (arith, later))
          ∙ or_from _ _ (no-low class slot below) (no-low class (slot - 1) below)
