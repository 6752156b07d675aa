-- The rows of items put together: each is a band, or the bands of a hand.
use Rattle.std.proofs.Common.{◌≡◌, ℕ, ◌+◌, ◌/◌, ◌%◌, ◌<◌, ◌≤◌, ◌⊎◌, inl, inr, List, [], ◌∷◌, length, get_or, refl, sym, ◌∙◌, ap, subst, arith}
use Rattle.std.proofs.lemmas.Bool.{cases_lt}
use Rattle.std.proofs.lemmas.List.{get_or_default}
use Rattle.tl_definitions.specs.Lattice.{classes}
use Rattle.std.specs.Prelude.{◌==◌}
use Rattle.std.specs.Int.{bit_at}
use Rattle.tl_layout.specs.declared.layout.Layout.{Layout}
use Rattle.tl_packed.specs.declared.strings.Strings.{Strings}
use Rattle.tl_packed.specs.OfClasses.{of_class}
use Rattle.tl_row_sweep.specs.Rows.{AreTaken}
use Rattle.tl_courses.specs.Courses.{Course, after, bits_of, steps_of}
use Rattle.tl_band.specs.Bands.{AreRowsDone, AreRowsKept}
use Rattle.tl_crew.specs.Bands.{AreStacked}
use Rattle.tl_crew.proofs.Stacked.{item-end, item-first, row-in_some}

pub some-item : {T : Type 0} (items : List T) → 0 < length items → T
some-item [] some = absurd (omega (arith, some))
some-item (t ∷ items) some = t

module _ {T : Type 0} (first_of end_of : T → ℕ) (c : Course) (items : List T) where
  -- The rows of the first j items are those after all classes, and all others are the old ones.
  pub record AreStored (j : ℕ) (old now : Strings) : Type 0 where
    pub stored : (k : ℕ) (d : T) (class row slot : ℕ) → k < j → class < classes c.layout.kind → row < c.layout.height
        → first_of (get_or items k d) ≤ row → row < end_of (get_or items k d)
        → bits_of c.layout.height now class row slot ≡ after c (steps_of c) class row slot
    pub others : (class row slot : ℕ) → class < classes c.layout.kind → row < c.layout.height
        → ((k : ℕ) (d : T) → k < j → first_of (get_or items k d) ≤ row → row < end_of (get_or items k d) → ⊥)
        → bits_of c.layout.height now class row slot ≡ bits_of c.layout.height old class row slot

  pub stored-none : (old : Strings) → AreStored 0 old old
  stored-none old = record {
    stored = λ k d class row slot before. absurd (omega (arith, before));
    others = λ class row slot within inside none. refl;
  }

  module _ (j : ℕ) (r : T) (is : r ≡ get_or items j r) (within : j < length items) (old now new : Strings)
      (own : AreRowsDone c (first_of r) (end_of r) new) (outside : AreRowsKept c.layout (first_of r) (end_of r) now new) (before : AreStored j old now) where
    item-same : (k : ℕ) (d : T) → k ≡ j → get_or items k d ≡ r
    item-same k d e = ap (λ (n : ℕ). get_or items n d) e ∙ (get_or_default items j d r within ∙ sym is)

    split : (row : ℕ) (P : Type 0) → (first_of r ≤ row → row < end_of r → P) → ((row < first_of r) ⊎ (end_of r ≤ row) → P) → P
    split row P inside beside = go (cases_lt row (first_of r)) (cases_lt row (end_of r))
      where
        go : (row < first_of r) ⊎ (first_of r ≤ row) → (row < end_of r) ⊎ (end_of r ≤ row) → P
        go (inl h) m = beside (inl h)
        go (inr n) (inr h) = beside (inr h)
        go (inr n) (inl h) = inside n h

    pub stored-next : AreStored (j + 1) old new
    stored-next = record { stored = stored; others = others }
      where
        stored : (k : ℕ) (d : T) (class row slot : ℕ) → k < j + 1 → class < classes c.layout.kind → row < c.layout.height
            → first_of (get_or items k d) ≤ row → row < end_of (get_or items k d)
            → bits_of c.layout.height new class row slot ≡ after c (steps_of c) class row slot
        stored k d class row slot up_to inside low above below =
            split row (bits_of c.layout.height new class row slot ≡ after c (steps_of c) class row slot)
            (λ above_r below_r. own class row slot inside above_r below_r)
            (λ out. go out (cases_lt k j))
          where
            not-own : k ≡ j → (row < first_of r) ⊎ (end_of r ≤ row) → ⊥
            not-own e (inl h) = omega (arith, ap first_of (item-same k d e), above, h)
            not-own e (inr h) = omega (arith, ap end_of (item-same k d e), below, h)

            go : (row < first_of r) ⊎ (end_of r ≤ row) → (k < j) ⊎ (j ≤ k) → bits_of c.layout.height new class row slot ≡ after c (steps_of c) class row slot
            go out (inl h) = outside class row slot inside low out ∙ before.stored k d class row slot h inside low above below
            go out (inr h) = absurd (not-own (omega (arith, h, up_to)) out)

        others : (class row slot : ℕ) → class < classes c.layout.kind → row < c.layout.height
            → ((k : ℕ) (d : T) → k < j + 1 → first_of (get_or items k d) ≤ row → row < end_of (get_or items k d) → ⊥)
            → bits_of c.layout.height new class row slot ≡ bits_of c.layout.height old class row slot
        others class row slot inside low none =
            split row (bits_of c.layout.height new class row slot ≡ bits_of c.layout.height old class row slot)
            (λ above below.
            absurd (none j r (omega arith) (subst (λ (t : T). first_of t ≤ row) is above) (subst (λ (t : T). row < end_of t) is below)))
            (λ out. outside class row slot inside low out ∙ before.others class row slot inside low (λ k d earlier. none k d (omega (arith, earlier))))

  module _ (first end : ℕ) (stacked : AreStacked first_of end_of first end items) (old now : Strings) (all : AreStored (length items) old now) where
    pub stored-own : end ≤ c.layout.height → AreRowsDone c first end now
    stored-own top class row slot within above below =
        let d = some-item items stacked.some in
        let (k, inside, is) = row-in_some first_of end_of first end items stacked d row above below in
        all.stored k d class row slot inside within (omega (arith, below, top)) is.0 is.1

    pub stored-outside : AreRowsKept c.layout first end old now
    stored-outside class row slot within low out = all.others class row slot within low none
      where
        go : (row < first) ⊎ (end ≤ row) → (k : ℕ) (d : T) → k < length items → first_of (get_or items k d) ≤ row → row < end_of (get_or items k d) → ⊥
        go (inl h) k d inside above below = omega (arith, item-first first_of end_of first end items stacked d k inside, above, h)
        go (inr h) k d inside above below = omega (arith, item-end first_of end_of first end items stacked d k inside, below, h)

        none : (k : ℕ) (d : T) → k < length items → first_of (get_or items k d) ≤ row → row < end_of (get_or items k d) → ⊥
        none k d inside = go out k d inside

-- where nothing is put together yet, and all rows are those of other strings
pub stored-copied : {T : Type 0} (first_of end_of : T → ℕ) (c : Course) (items : List T) (old now : Strings)
    → ((class row slot : ℕ) → class < classes c.layout.kind → row < c.layout.height → bits_of c.layout.height now class row slot ≡ bits_of c.layout.height old class row slot)
    → AreStored first_of end_of c items 0 old now
stored-copied first_of end_of c items old now same = record {
  stored = λ k d class row slot before. absurd (omega (arith, before));
  others = λ class row slot within inside none. same class row slot within inside;
}

pub taken-bits : (l m : Layout) → m ≡ l → (start from : Strings) → from ≡ start → (new : Strings)
    → ((class : ℕ) → class < classes m.kind → AreTaken m.height 0 m.height (of_class from class) (of_class new class))
    → (class row slot : ℕ) → class < classes l.kind → row < l.height → bits_of l.height new class row slot ≡ bits_of l.height start class row slot
taken-bits l m e start from f new taken class row slot within inside =
    let same : (class : ℕ) → class < classes l.kind → AreTaken l.height 0 l.height (of_class start class) (of_class new class) =
    subst (λ (s : Strings). (class : ℕ) → class < classes l.kind → AreTaken l.height 0 l.height (of_class s class) (of_class new class)) f
    (subst (λ (k : Layout). (class : ℕ) → class < classes k.kind → AreTaken k.height 0 k.height (of_class from class) (of_class new class)) e taken) in
    ap (λ (word : ℕ). bit_at word (slot % 64) == 1) (same class within (slot / 64) row (omega arith) inside)
