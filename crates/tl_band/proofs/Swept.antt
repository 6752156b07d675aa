-- A band after one class more.
use Rattle.std.proofs.Common.{◌≡◌, ℕ, suc, ◌+◌, ◌-◌, ◌/◌, ◌<◌, ◌≤◌, ◌⊎◌, inl, inr, Bool, true, false, List, refl, sym, ◌∙◌, ap, subst, arith, Option, Some, None}
use Rattle.std.specs.Prelude.{◌==◌}
use Rattle.std.proofs.lemmas.Bool.{cases_Bool, cases_lt, eqb-false, eqb-true}
use Rattle.tl_definitions.specs.Lattice.{classes}
use Rattle.tl_definitions.specs.Region.{Region}
use Rattle.tl_strings.specs.Strings.{string_bit}
use Rattle.tl_layout.specs.declared.layout.Layout.{Layout}
use Rattle.tl_packed.specs.declared.strings.Strings.{Strings}
use Rattle.tl_packed.specs.OfClasses.{AreOfLayout, of_class}
use Rattle.tl_string_sweep.specs.declared.slots.Slots.{Slots}
use Rattle.tl_row_sweep.specs.Rows.{AreKeptBeside, AreOthersKept}
use Rattle.tl_courses.specs.Courses.{AreRowsAfter, AreRowsStepped, Course, HasCoinsIn, IsCourseOf, after, bits_of, class_at, steps_of, time_at}
use Rattle.tl_courses.proofs.Stated.{after-not_free, rows-after}
use Rattle.tl_band.specs.declared.band.Band.{Band}
use Rattle.tl_band.specs.declared.edge.Edge.{Edge}
use Rattle.tl_band.specs.declared.edge.Link.{Link}
use Rattle.tl_band.specs.Bands.{IsBandAt}
use Rattle.tl_band.specs.Edges.{AreLinked, IsFreeAt, IsOffered, IsRowAfter, IsSideAt, received_of}
use Rattle.tl_band.proofs.Rows.{below-3, kept-bit}
use Rattle.tl_band.proofs.Sides.{arrived-offered, side-offered}

arrived-free : (done : ℕ) (o : Option Link) → IsFreeAt done o → received_of o done ≡ done
arrived-free done None free = refl
arrived-free done (Some k) free = free.0

-- a row beside those that are swept keeps its bits
pub row-kept : (l : Layout) (k first end : ℕ) (old new : Strings) → AreOthersKept k old new → AreKeptBeside l.height first end (of_class old k) (of_class new k)
    → (row : ℕ) → row < l.height → (row < first) ⊎ (end ≤ row) → (class slot : ℕ) → class < classes l.kind → bits_of l.height new class row slot ≡ bits_of l.height old class row slot
row-kept l k first end old new others kept row inside beside class slot within = go (cases_Bool (class == k))
  where
    own : (row < first) ⊎ (end ≤ row) → bits_of l.height new k row slot ≡ bits_of l.height old k row slot
    own (inl above) = kept-bit l.height row slot (of_class old k) (of_class new k) (kept.above (slot / 64) row above inside)
    own (inr below) = kept-bit l.height row slot (of_class old k) (of_class new k) (kept.below (slot / 64) row below inside)

    go : ((class == k) ≡ true) ⊎ ((class == k) ≡ false) → bits_of l.height new class row slot ≡ bits_of l.height old class row slot
    go (inl e) =
        let same = eqb-true class k e in
        subst (λ (j : ℕ). bits_of l.height new j row slot ≡ bits_of l.height old j row slot) (sym same) (own beside)
    go (inr e) = ap (λ (words : List ℕ). string_bit l.height words row slot) (others class (below-3 l.kind class within) (eqb-false class k e))

-- the same steps as the code knows them, by a layout, slots, a class and coins that are the course's
pub steps-same : (l l' : Layout) (slots slots' : Slots) (k k' first end : ℕ) (coins coins' : List ℕ) (old new : Strings) → l' ≡ l → slots' ≡ slots → k' ≡ k → coins' ≡ coins
    → AreRowsStepped l' slots' k' first end coins' old new → AreRowsStepped l slots k first end coins old new
steps-same l l' slots slots' k k' first end coins coins' old new e f g h steps =
    subst (λ (w : List ℕ). AreRowsStepped l slots k first end w old new) h
    (subst (λ (j : ℕ). AreRowsStepped l slots j first end coins' old new) g
    (subst (λ (s : Slots). AreRowsStepped l s k' first end coins' old new) f
    (subst (λ (m : Layout). AreRowsStepped m slots' k' first end coins' old new) e steps)))

pub kept-same : (l l' : Layout) (k k' first end : ℕ) (old new : Strings) → l' ≡ l → k' ≡ k → AreKeptBeside l'.height first end (of_class old k') (of_class new k')
    → AreKeptBeside l.height first end (of_class old k) (of_class new k)
kept-same l l' k k' first end old new e g kept =
    subst (λ (j : ℕ). AreKeptBeside l.height first end (of_class old j) (of_class new j)) g
    (subst (λ (m : Layout). AreKeptBeside m.height first end (of_class old k') (of_class new k')) e kept)

pub offered-same : (l l' : Layout) (k k' own : ℕ) (strings : Strings) (old new : Option Link) → l' ≡ l → k' ≡ k → AreLinked (IsOffered l' own (of_class strings k')) old new
    → AreLinked (IsOffered l own (of_class strings k)) old new
offered-same l l' k k' own strings old new e g offered =
    subst (λ (j : ℕ). AreLinked (IsOffered l own (of_class strings j)) old new) g
    (subst (λ (m : Layout). AreLinked (IsOffered m own (of_class strings k')) old new) e offered)

module _ (R : Region) (bits : ℕ → ℕ → Bool) (c : Course) (is : IsCourseOf R bits c) (old : Band) (at : IsBandAt c old) (left : old.done < steps_of c)
    (free_upper : IsFreeAt old.done old.upper.link) (free_lower : IsFreeAt old.done old.lower.link) (strings : Strings) (size : AreOfLayout c.layout strings) (coins : List ℕ) where
  abbrev l : Layout
  l = c.layout

  abbrev p : ℕ
  p = old.done

  abbrev k : ℕ
  k = class_at l.kind p

  abbrev first : ℕ
  first = old.upper.own

  abbrev end : ℕ
  end = old.lower.beside

  module _ (has : HasCoinsIn R l.height l.first first end (bits (time_at l.kind c.from p)) coins) (steps : AreRowsStepped l c.slots k first end coins old.strings strings)
      (kept : AreKeptBeside l.height first end (of_class old.strings k) (of_class strings k)) where
    before : AreRowsAfter c p (first - 1) (end + 1) old.strings
    before class row slot within upper lower = go (cases_lt row first) (cases_lt row end)
      where
        go : (row < first) ⊎ (first ≤ row) → (row < end) ⊎ (end ≤ row) → bits_of l.height old.strings class row slot ≡ after c p class row slot
        go (inl above) m =
            let here : old.upper.beside ≡ row = omega (arith, above, upper, at.above_first) in
            subst (λ (r : ℕ). bits_of l.height old.strings class r slot ≡ after c p class r slot) here
            (at.above class slot within ∙ ap (λ (n : ℕ). after c n class old.upper.beside slot) (arrived-free p old.upper.link free_upper))
        go (inr n) (inl below) = at.own class row slot within n below
        go (inr n) (inr behind) =
            let here : old.lower.beside ≡ row = omega (arith, behind, lower) in
            subst (λ (r : ℕ). bits_of l.height old.strings class r slot ≡ after c p class r slot) here
            (at.below class slot within ∙ ap (λ (n : ℕ). after c n class old.lower.beside slot) (arrived-free p old.lower.link free_lower))

    now : AreRowsAfter c (suc p) first end strings
    now = rows-after R bits c is p first end (omega (arith, at.above_first)) at.end coins has old.strings strings before steps

    now-at : (row : ℕ) → first ≤ row → row < end → IsRowAfter c (suc p) row strings
    now-at row upper lower class slot within = now class row slot within upper lower

    -- the row beside an edge, by what has come over the border there
    beside-now : (beside own : ℕ) (o o' : Option Link) → beside < l.height → (beside < first) ⊎ (end ≤ beside) → IsFreeAt p o → AreLinked (IsOffered l own (of_class strings k)) o o'
        → IsSideAt c own beside p o → IsRowAfter c p beside old.strings → IsRowAfter c (suc p) own strings → IsRowAfter c (received_of o' (suc p)) beside strings
    beside-now beside own o o' inside out free offered side then own_now class slot within =
        row-kept l k first end old.strings strings steps.others kept beside inside out class slot within
        ∙ (then class slot within ∙ go (arrived-offered R bits c is own beside p strings own_now o o' offered free))
      where
        stays : (o : Option Link) → o ≡ None → IsSideAt c own beside p o → after c p class beside slot ≡ after c (suc p) class beside slot
        stays o none side =
            let bound = subst (λ q. IsSideAt c own beside p q) none side in
            after-not_free c p beside slot (λ j below. bound j slot below) class ∙ sym (after-not_free c (suc p) beside slot (λ j below. bound j slot below) class)

        go : ((o' ≡ None) × (o ≡ None)) ⊎ (received_of o' (suc p) ≡ p) → after c p class beside slot ≡ after c (received_of o' (suc p)) class beside slot
        go (inl (none', none)) = stays o none side ∙ ap (λ q. after c (received_of q (suc p)) class beside slot) (sym none')
        go (inr came) = ap (λ (n : ℕ). after c n class beside slot) (sym came)

    pub band-swept : (upper lower : Edge) → upper.own ≡ old.upper.own → upper.beside ≡ old.upper.beside → lower.own ≡ old.lower.own → lower.beside ≡ old.lower.beside
        → AreLinked (IsOffered l old.upper.own (of_class strings k)) old.upper.link upper.link → AreLinked (IsOffered l old.lower.own (of_class strings k)) old.lower.link lower.link
        → IsBandAt c (record { strings = strings; upper = upper; lower = lower; done = suc p })
    band-swept upper lower own_upper beside_upper own_lower beside_lower offered_upper offered_lower = record {
      size = size;
      above_first = omega (arith, own_upper, beside_upper, at.above_first);
      below_last = omega (arith, own_lower, beside_lower, at.below_last);
      some = omega (arith, own_upper, own_lower, at.some);
      end = omega (arith, beside_lower, at.end);
      within = omega (arith, left);
      own = λ class row slot within above below. now class row slot within (omega (arith, above, own_upper)) (omega (arith, below, beside_lower));
      above = subst (λ (r : ℕ). IsRowAfter c (received_of upper.link (suc p)) r strings) (sym beside_upper) above;
      below = subst (λ (r : ℕ). IsRowAfter c (received_of lower.link (suc p)) r strings) (sym beside_lower) below;
      upper = moved upper.own upper.beside old.upper.own old.upper.beside upper.link own_upper beside_upper upper_side;
      lower = moved lower.own lower.beside old.lower.own old.lower.beside lower.link own_lower beside_lower lower_side;
    }
      where
        moved : (own beside own' beside' : ℕ) (o : Option Link) → own ≡ own' → beside ≡ beside' → IsSideAt c own' beside' (suc p) o → IsSideAt c own beside (suc p) o
        moved own beside own' beside' o e f side =
            subst (λ (b : ℕ). IsSideAt c own b (suc p) o) (sym f) (subst (λ (a : ℕ). IsSideAt c a beside' (suc p) o) (sym e) side)

        upper_now : IsRowAfter c (suc p) old.upper.own strings
        upper_now = now-at old.upper.own (omega arith) (omega (arith, at.some, at.below_last))

        lower_now : IsRowAfter c (suc p) old.lower.own strings
        lower_now = now-at old.lower.own at.some (omega (arith, at.below_last))

        above : IsRowAfter c (received_of upper.link (suc p)) old.upper.beside strings
        above =
            beside-now old.upper.beside old.upper.own old.upper.link upper.link (omega (arith, at.above_first, at.some, at.below_last, at.end)) (inl (omega (arith, at.above_first)))
            free_upper offered_upper at.upper
            (λ class slot within. at.above class slot within ∙ ap (λ (n : ℕ). after c n class old.upper.beside slot) (arrived-free p old.upper.link free_upper)) upper_now

        below : IsRowAfter c (received_of lower.link (suc p)) old.lower.beside strings
        below =
            beside-now old.lower.beside old.lower.own old.lower.link lower.link at.end (inr (omega arith)) free_lower offered_lower at.lower
            (λ class slot within. at.below class slot within ∙ ap (λ (n : ℕ). after c n class old.lower.beside slot) (arrived-free p old.lower.link free_lower)) lower_now

        upper_side : IsSideAt c old.upper.own old.upper.beside (suc p) upper.link
        upper_side = side-offered R bits c is old.upper.own old.upper.beside p strings upper_now old.upper.link upper.link free_upper offered_upper at.upper

        lower_side : IsSideAt c old.lower.own old.lower.beside (suc p) lower.link
        lower_side = side-offered R bits c is old.lower.own old.lower.beside p strings lower_now old.lower.link lower.link free_lower offered_lower at.lower
