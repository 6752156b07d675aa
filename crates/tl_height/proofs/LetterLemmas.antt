-- The letter of a cell names the side across which the heights fall.
use Rattle.std.proofs.Common.{◌≡◌, ℕ, ◌+◌, ◌*◌, ◌<◌, ◌⊎◌, inl, inr, Bool, true, false, not, List, map, length, drop, get_or, cond, pos, Option, Some, refl, sym, ◌∙◌, ap, subst, arith, ℤ}
use Rattle.std.specs.Prelude.{option_map, IsTrue}
use Rattle.std.proofs.lemmas.Bool.{false_from_ne_true}
use Rattle.std.proofs.lemmas.List.{length-map, get_or-map, get_or-take, get_or-drop}
use Rattle.std.proofs.lemmas.List.FromFn.{length-map-range_with_len, get_or-map-range_with_len}
use Rattle.tl_definitions.specs.declared.Kind.{Kind}
use Rattle.tl_definitions.specs.declared.Kind.TheVariants.{Square, Triangle}
use Rattle.tl_definitions.specs.declared.Cell.{Cell}
use Rattle.tl_definitions.specs.declared.Corner.{Corner}
use Rattle.tl_definitions.specs.declared.Tile.{Tile}
use Rattle.tl_definitions.specs.Lattice.{cell, corner, cell_eq, is_dark, side, sides}
use Rattle.tl_definitions.specs.Region.{Region, has, row_part}
use Rattle.tl_definitions.specs.Tiling.{covers, is_tiling, other_cell, partner}
use Rattle.tl_formats.specs.Drawing.{letter}
use Rattle.tl_definitions.specs.Heights.{height, height_row, AreHeights}
use Rattle.tl_definitions.proofs.Cells.{cell_eq-same, cell_eq-refl}
use Rattle.tl_lists.proofs.Members.{In, In-map}
use Rattle.tl_lists.proofs.Counts.{Only}
use Rattle.tl_lists.proofs.Searches.{find-only, none-find}
use Rattle.tl_formats.proofs.Drawings.{letter-named}
use Rattle.tl_definitions.proofs.Tilings.{TilingParts, tiling-parts}
use Rattle.tl_closing.specs.Closing.{step_along, steps_round}
use Rattle.tl_closing.proofs.Stated.{directed, SameStep, same_step, IsCentre, round-centre, cell-one, cell-two, Step, has-In, In-has, round-step, is_step-from, is_crossed, crossed-parts, IsAcross, IsCrossing, one-crossed, covers-cases, covers-from, up_sides, down_sides, among-up, among-down, right-is, left-is, above-is, below-is}
use Rattle.tl_height.specs.HeightFunction.{falls_between}
use Rattle.tl_height.specs.Letters.{letter_between, square_letter, triangle_letter}
use Rattle.tl_height.proofs.FallLemmas.{crossed-falls, level-rests}

-- ---- the corners between which the sides of a cell lie

-- A triangle has one of the ends twice: that above where it points up, and that below where it points down.
record Ends : Type 0 where
  upper_left : Corner
  upper_right : Corner
  lower_left : Corner
  lower_right : Corner

abbrev ends_up : Cell → Ends
ends_up a =
    record {
      upper_left = corner a.r (a.c + 1);
      upper_right = corner a.r (a.c + 1);
      lower_left = corner (a.r + 1) a.c;
      lower_right = corner (a.r + 1) (a.c + 2);
    }

abbrev ends_down : Cell → Ends
ends_down a =
    record {
      upper_left = corner a.r a.c;
      upper_right = corner a.r (a.c + 2);
      lower_left = corner (a.r + 1) (a.c + 1);
      lower_right = corner (a.r + 1) (a.c + 1);
    }

-- the ends of the left and of the right side of a cell
abbrev ends_of : Kind → Cell → Ends
ends_of Square a =
    record {
      upper_left = corner a.r a.c;
      upper_right = corner a.r (a.c + 1);
      lower_left = corner (a.r + 1) a.c;
      lower_right = corner (a.r + 1) (a.c + 1);
    }
ends_of Triangle a = cond (is_dark a) (ends_up a) (ends_down a)

-- ---- the cell across a side of a square, by the side

over-right : (t : Bool) (r c r' c' : ℕ) → IsCentre Square (not t) r' c' (directed t (corner (r + 1) (c + 1)) (corner r (c + 1))) → (r' ≡ r) × (c' ≡ c + 1)
over-right true r c r' c' p = (omega (arith, p), omega (arith, p))
over-right false r c r' c' p = (omega (arith, p), omega (arith, p))

over-bottom : (t : Bool) (r c r' c' : ℕ) → IsCentre Square (not t) r' c' (directed t (corner (r + 1) c) (corner (r + 1) (c + 1))) → (r' ≡ r + 1) × (c' ≡ c)
over-bottom true r c r' c' p = (omega (arith, p), omega (arith, p))
over-bottom false r c r' c' p = (omega (arith, p), omega (arith, p))

over-left : (t : Bool) (r c r' c' : ℕ) → IsCentre Square (not t) r' c' (directed t (corner r c) (corner (r + 1) c)) → (r' ≡ r) × (c' + 1 ≡ c)
over-left true r c r' c' p = (omega (arith, p), omega (arith, p))
over-left false r c r' c' p = (omega (arith, p), omega (arith, p))

over-top : (t : Bool) (r c r' c' : ℕ) → IsCentre Square (not t) r' c' (directed t (corner r (c + 1)) (corner r c)) → (r' + 1 ≡ r) × (c' ≡ c)
over-top true r c r' c' p = (omega (arith, p), omega (arith, p))
over-top false r c r' c' p = (omega (arith, p), omega (arith, p))

-- ---- beyond the crossed step of a cell lies its partner

record Across (R : Region) (A : List Tile) (a : Cell) : Type 0 where
  step : Step
  crossing : IsCrossing R A a step
  mate : Cell
  there : In step (steps_round R.kind mate)
  differ : a ≡ mate → ⊥
  partner_is : partner A a ≡ Some mate

across : (R : Region) (A : List Tile) → TilingParts R A → (a : Cell) → In a R.cells → Across R A a
across R A tiling a i = start (one-crossed R A tiling a i)
  where
    one : (t : Tile) → In t A → covers t a ≡ true → (b : Cell) → other_cell t a ≡ b → partner A a ≡ Some b
    one t k c b other = go (tiling.covered a i)
      where
        go : (s : Tile) × Only (λ s. covers s a) A s → partner A a ≡ Some b
        go (s, o) =
            ap (option_map (λ t. other_cell t a)) (find-only (λ t. covers t a) A t k c (λ u l h. o.only u l h ∙ sym (o.only t k c)))
            ∙ ap (λ (x : Cell). Some x) other

    with_tile : (e : Step) → IsCrossing R A a e → (t : Tile) → In t A → IsAcross R t e → (a ≡ t.first) ⊎ (a ≡ t.second) → Across R A a
    with_tile e o t k (m, n) (inl same) = record {
      step = e;
      crossing = o;
      mate = t.second;
      there = n;
      differ = λ d. (tiling.tiles t k).differ (sym same ∙ d);
      partner_is = one t k (covers-from t a (inl same)) t.second
          (ap (λ (b : Bool). cond b t.second t.first) (subst (λ (x : Cell). cell_eq x a ≡ true) same (cell_eq-refl a)));
    }
    with_tile e o t k (m, n) (inr same) = record {
      step = e;
      crossing = o;
      mate = t.first;
      there = m;
      differ = λ d. (tiling.tiles t k).differ (sym d ∙ same);
      partner_is = one t k (covers-from t a (inr same)) t.first
          (ap (λ (b : Bool). cond b t.second t.first) (false_from_ne_true (cell_eq t.first a) (λ h. (tiling.tiles t k).differ (cell_eq-same t.first a h ∙ same))));
    }

    with_step : (e : Step) → IsCrossing R A a e → (t : Tile) × In t A × IsAcross R t e → Across R A a
    with_step e o (t, k, (m, n)) = with_tile e o t k (m, n) (cell-two R.kind t.first t.second a e (tiling.tiles t k).differ m n o.inside)

    start : (e : Step) × IsCrossing R A a e → Across R A a
    start (e, o) = with_step e o (crossed-parts R A e (round-step R.kind a e o.inside) o.crossed)

-- ---- the letter by three tests

abbrev tested : Bool → Bool → Bool → ℕ
tested on_right on_left on_lower = cond on_right 62 (cond on_left 60 (cond on_lower 118 94))

abbrev letter_by : (Corner → Corner → Bool) → Ends → ℕ
letter_by falls e = tested (falls e.upper_right e.lower_right) (falls e.upper_left e.lower_left) (falls e.lower_left e.lower_right)

same_ends : (t : Bool) (u v u' v' : Corner) → directed t u v ≡ directed t u' v' → SameStep (u, v) (u', v')
same_ends true u v u' v' e = same_step _ _ e
same_ends false u v u' v' e =
    let p : SameStep (v, u) (v', u') = same_step _ _ e in
    record { from_r = p.to_r; from_x = p.to_x; to_r = p.from_r; to_x = p.from_x }

module _ (falls : Corner → Corner → Bool) (none : (u : Corner) → falls u u ≡ false) (a b : Cell) (e : Step) where
  -- the test holds along the step e of the cell, and along no other
  abbrev On : Kind → Type 0
  On k = (u v : Corner) → In (side a u v) (sides k a) → e ≡ directed (is_dark a) u v → (falls u v ≡ true) × (falls v u ≡ true)

  abbrev Off : Kind → Type 0
  Off k = (u v : Corner) → In (side a u v) (sides k a) → (e ≡ directed (is_dark a) u v → ⊥) → (falls u v ≡ false) × (falls v u ≡ false)

  square-letter : On Square → Off Square → IsCentre Square (not (is_dark a)) b.r b.c e → In e (steps_round Square a) → letter_by falls (ends_of Square a) ≡ letter a (Some b)
  square-letter on off centre (inl at) =
      let p = off _ _ (inr (inr (inl refl))) (λ q. omega (arith, same_ends (is_dark a) _ _ _ _ (sym q ∙ at))) in
      let l = on _ _ (inl refl) at in
      let place = over-left (is_dark a) a.r a.c b.r b.c (subst (IsCentre Square (not (is_dark a)) b.r b.c) at centre) in
      (λ i. tested (p.1 i) (l.0 i) (falls (corner (a.r + 1) a.c) (corner (a.r + 1) (a.c + 1)))) ∙ sym (letter-named 60 a b (left-is a b (sym place.0) (sym place.1)))
  square-letter on off centre (inr (inl at)) =
      let p = off _ _ (inr (inr (inl refl))) (λ q. omega (arith, same_ends (is_dark a) _ _ _ _ (sym q ∙ at))) in
      let l = off _ _ (inl refl) (λ q. omega (arith, same_ends (is_dark a) _ _ _ _ (sym q ∙ at))) in
      let d = on _ _ (inr (inl refl)) at in
      let place = over-bottom (is_dark a) a.r a.c b.r b.c (subst (IsCentre Square (not (is_dark a)) b.r b.c) at centre) in
      (λ i. tested (p.1 i) (l.0 i) (d.0 i)) ∙ sym (letter-named 118 a b (below-is a b (sym place.0) (sym place.1)))
  square-letter on off centre (inr (inr (inl at))) =
      let p = on _ _ (inr (inr (inl refl))) at in
      let place = over-right (is_dark a) a.r a.c b.r b.c (subst (IsCentre Square (not (is_dark a)) b.r b.c) at centre) in
      (λ i. tested (p.1 i) (falls (corner a.r a.c) (corner (a.r + 1) a.c)) (falls (corner (a.r + 1) a.c) (corner (a.r + 1) (a.c + 1))))
      ∙ sym (letter-named 62 a b (right-is a b (sym place.0) (sym place.1)))
  square-letter on off centre (inr (inr (inr (inl at)))) =
      let p = off _ _ (inr (inr (inl refl))) (λ q. omega (arith, same_ends (is_dark a) _ _ _ _ (sym q ∙ at))) in
      let l = off _ _ (inl refl) (λ q. omega (arith, same_ends (is_dark a) _ _ _ _ (sym q ∙ at))) in
      let d = off _ _ (inr (inl refl)) (λ q. omega (arith, same_ends (is_dark a) _ _ _ _ (sym q ∙ at))) in
      let place = over-top (is_dark a) a.r a.c b.r b.c (subst (IsCentre Square (not (is_dark a)) b.r b.c) at centre) in
      (λ i. tested (p.1 i) (l.0 i) (d.0 i)) ∙ sym (letter-named 94 a b (above-is a b (sym place.0) (sym place.1)))
  square-letter on off centre (inr (inr (inr (inr never)))) = absurd never

  -- the centre of the cell beyond the step, by the colour of this one
  centre-at : (t : Bool) (u v : Corner) → is_dark a ≡ t → IsCentre Triangle (not (is_dark a)) b.r b.c e → e ≡ directed (is_dark a) u v
      → IsCentre Triangle (not t) b.r b.c (directed t u v)
  centre-at t u v colour centre at =
      subst (λ (t : Bool). IsCentre Triangle (not t) b.r b.c (directed t u v)) colour (subst (IsCentre Triangle (not (is_dark a)) b.r b.c) at centre)

  up-letter : On Triangle → Off Triangle → IsCentre Triangle (not (is_dark a)) b.r b.c e → is_dark a ≡ true → In e (map step_along (up_sides a)) → letter_by falls (ends_up a) ≡ letter a (Some b)
  up-letter on off centre dark (inl at) =
      let p = off (corner (a.r + 1) (a.c + 2)) (corner a.r (a.c + 1)) (among-up a _ dark (inr (inr (inl refl)))) (λ q. omega (arith, same_ends (is_dark a) _ _ _ _ (sym q ∙ at))) in
      let l = on (corner a.r (a.c + 1)) (corner (a.r + 1) a.c) (among-up a _ dark (inl refl)) at in
      let m = centre-at true (corner a.r (a.c + 1)) (corner (a.r + 1) a.c) dark centre at in
      (λ i. tested (p.1 i) (l.0 i) (falls (corner (a.r + 1) a.c) (corner (a.r + 1) (a.c + 2)))) ∙ sym (letter-named 60 a b (left-is a b (omega (arith, m)) (omega (arith, m))))
  up-letter on off centre dark (inr (inl at)) =
      let p = off (corner (a.r + 1) (a.c + 2)) (corner a.r (a.c + 1)) (among-up a _ dark (inr (inr (inl refl)))) (λ q. omega (arith, same_ends (is_dark a) _ _ _ _ (sym q ∙ at))) in
      let l = off (corner a.r (a.c + 1)) (corner (a.r + 1) a.c) (among-up a _ dark (inl refl)) (λ q. omega (arith, same_ends (is_dark a) _ _ _ _ (sym q ∙ at))) in
      let d = on (corner (a.r + 1) a.c) (corner (a.r + 1) (a.c + 2)) (among-up a _ dark (inr (inl refl))) at in
      let m = centre-at true (corner (a.r + 1) a.c) (corner (a.r + 1) (a.c + 2)) dark centre at in
      (λ i. tested (p.1 i) (l.0 i) (d.0 i)) ∙ sym (letter-named 118 a b (below-is a b (omega (arith, m)) (omega (arith, m))))
  up-letter on off centre dark (inr (inr (inl at))) =
      let p = on (corner (a.r + 1) (a.c + 2)) (corner a.r (a.c + 1)) (among-up a _ dark (inr (inr (inl refl)))) at in
      let m = centre-at true (corner (a.r + 1) (a.c + 2)) (corner a.r (a.c + 1)) dark centre at in
      (λ i. tested (p.1 i) (falls (corner a.r (a.c + 1)) (corner (a.r + 1) a.c)) (falls (corner (a.r + 1) a.c) (corner (a.r + 1) (a.c + 2))))
      ∙ sym (letter-named 62 a b (right-is a b (omega (arith, m)) (omega (arith, m))))
  up-letter on off centre dark (inr (inr (inr never))) = absurd never

  down-letter : On Triangle → Off Triangle → IsCentre Triangle (not (is_dark a)) b.r b.c e → is_dark a ≡ false → In e (map step_along (down_sides a)) → letter_by falls (ends_down a) ≡ letter a (Some b)
  down-letter on off centre light (inl at) =
      let p = off (corner (a.r + 1) (a.c + 1)) (corner a.r (a.c + 2)) (among-down a _ light (inr (inl refl))) (λ q. omega (arith, same_ends (is_dark a) _ _ _ _ (sym q ∙ at))) in
      let l = on (corner a.r a.c) (corner (a.r + 1) (a.c + 1)) (among-down a _ light (inl refl)) at in
      let m = centre-at false (corner a.r a.c) (corner (a.r + 1) (a.c + 1)) light centre at in
      (λ i. tested (p.1 i) (l.0 i) (falls (corner (a.r + 1) (a.c + 1)) (corner (a.r + 1) (a.c + 1)))) ∙ sym (letter-named 60 a b (left-is a b (omega (arith, m)) (omega (arith, m))))
  down-letter on off centre light (inr (inl at)) =
      let p = on (corner (a.r + 1) (a.c + 1)) (corner a.r (a.c + 2)) (among-down a _ light (inr (inl refl))) at in
      let m = centre-at false (corner (a.r + 1) (a.c + 1)) (corner a.r (a.c + 2)) light centre at in
      (λ i. tested (p.1 i) (falls (corner a.r a.c) (corner (a.r + 1) (a.c + 1))) (falls (corner (a.r + 1) (a.c + 1)) (corner (a.r + 1) (a.c + 1))))
      ∙ sym (letter-named 62 a b (right-is a b (omega (arith, m)) (omega (arith, m))))
  down-letter on off centre light (inr (inr (inl at))) =
      let p = off (corner (a.r + 1) (a.c + 1)) (corner a.r (a.c + 2)) (among-down a _ light (inr (inl refl))) (λ q. omega (arith, same_ends (is_dark a) _ _ _ _ (sym q ∙ at))) in
      let l = off (corner a.r a.c) (corner (a.r + 1) (a.c + 1)) (among-down a _ light (inl refl)) (λ q. omega (arith, same_ends (is_dark a) _ _ _ _ (sym q ∙ at))) in
      let m = centre-at false (corner a.r (a.c + 2)) (corner a.r a.c) light centre at in
      (λ i. tested (p.1 i) (l.0 i) (none (corner (a.r + 1) (a.c + 1)) i)) ∙ sym (letter-named 94 a b (above-is a b (omega (arith, m)) (omega (arith, m))))
  down-letter on off centre light (inr (inr (inr never))) = absurd never

  kind-letter : (k : Kind) → On k → Off k → IsCentre k (not (is_dark a)) b.r b.c e → In e (steps_round k a) → letter_by falls (ends_of k a) ≡ letter a (Some b)
  kind-letter Square on off centre i = square-letter on off centre i
  kind-letter Triangle on off centre i = go (is_dark a) refl i
    where
      go : (t : Bool) → is_dark a ≡ t → In e (map step_along (cond t (up_sides a) (down_sides a))) → letter_by falls (ends_of Triangle a) ≡ letter a (Some b)
      go true dark i = ap (λ (t : Bool). letter_by falls (cond t (ends_up a) (ends_down a))) dark ∙ up-letter on off centre dark i
      go false light i = ap (λ (t : Bool). letter_by falls (cond t (ends_up a) (ends_down a))) light ∙ down-letter on off centre light i

-- ---- the letter of a cell

-- the test by the heights of two corners
abbrev falls_at : Region → List ℤ → Corner → Corner → Bool
falls_at R numbers u v = falls_between (height R numbers u) (height R numbers v)

-- the letter by the heights of a tiling is that of the partner
letter-partner : (R : Region) (A : List Tile) (numbers : List ℤ) (a : Cell) → IsTrue (is_tiling R A) → AreHeights R A numbers → has R a ≡ true
    → letter_by (falls_at R numbers) (ends_of R.kind a) ≡ letter a (partner A a)
letter-partner R A numbers a tiling h e = go (across R A (tiling-parts R A tiling) a a_in)
  where
    a_in : In a R.cells
    a_in = has-In R a e

    go : Across R A a → letter_by (falls_at R numbers) (ends_of R.kind a) ≡ letter a (partner A a)
    go x =
        kind-letter (falls_at R numbers) (λ u. level-rests (height R numbers u)) a x.mate x.step R.kind on off centre x.crossing.inside
        ∙ ap (letter a) (sym x.partner_is)
      where
        -- the test of a side, both ways, is whether its step is crossed
        told : (u v : Corner) → In (side a u v) (sides R.kind a)
            → (falls_at R numbers u v ≡ is_crossed R A (directed (is_dark a) u v)) × (falls_at R numbers v u ≡ is_crossed R A (directed (is_dark a) u v))
        told u v j = either (is_dark a) (In-map step_along (side a u v) (sides R.kind a) j)
          where
            either : (t : Bool) → In (directed t u v) (steps_round R.kind a)
                → (falls_at R numbers u v ≡ is_crossed R A (directed t u v)) × (falls_at R numbers v u ≡ is_crossed R A (directed t u v))
            either true k = crossed-falls R.kind (height R numbers u) (height R numbers v) (is_crossed R A (u, v)) (h.along u v (is_step-from R a u v a_in k))
            either false k =
                let p = crossed-falls R.kind (height R numbers v) (height R numbers u) (is_crossed R A (v, u)) (h.along v u (is_step-from R a v u a_in k)) in
                (p.1, p.0)

        on : (u v : Corner) → In (side a u v) (sides R.kind a) → x.step ≡ directed (is_dark a) u v → (falls_at R numbers u v ≡ true) × (falls_at R numbers v u ≡ true)
        on u v j at =
            let p = told u v j in
            let crossed : is_crossed R A (directed (is_dark a) u v) ≡ true = subst (λ (d : Step). is_crossed R A d ≡ true) at x.crossing.crossed in
            (p.0 ∙ crossed, p.1 ∙ crossed)

        off : (u v : Corner) → In (side a u v) (sides R.kind a) → (x.step ≡ directed (is_dark a) u v → ⊥) → (falls_at R numbers u v ≡ false) × (falls_at R numbers v u ≡ false)
        off u v j differ =
            let p = told u v j in
            let is_grid : is_crossed R A (directed (is_dark a) u v) ≡ false =
            false_from_ne_true _ (λ c. differ (sym (x.crossing.only (directed (is_dark a) u v) (In-map step_along (side a u v) (sides R.kind a) j) c))) in
            (p.0 ∙ is_grid, p.1 ∙ is_grid)

        -- the partner has the other colour
        colour : is_dark x.mate ≡ not (is_dark a)
        colour = other (is_dark a) (is_dark x.mate) refl refl
          where
            other : (s t : Bool) → is_dark a ≡ s → is_dark x.mate ≡ t → t ≡ not s
            other true true p q = absurd (x.differ (cell-one R.kind a x.mate x.step (p ∙ sym q) x.crossing.inside x.there))
            other true false p q = refl
            other false true p q = refl
            other false false p q = absurd (x.differ (cell-one R.kind a x.mate x.step (p ∙ sym q) x.crossing.inside x.there))

        centre : IsCentre R.kind (not (is_dark a)) x.mate.r x.mate.c x.step
        centre = subst (λ (t : Bool). IsCentre R.kind t x.mate.r x.mate.c x.step) colour (round-centre R.kind x.mate x.step x.there)

-- ---- a place that is no cell of the region

letter-outside : (R : Region) (A : List Tile) (a : Cell) → IsTrue (is_tiling R A) → has R a ≡ false → 46 ≡ letter a (partner A a)
letter-outside R A a tiling e =
    sym (ap (λ (o : Option Tile). letter a (option_map (λ t. other_cell t a) o)) (none-find (λ t. covers t a) A missed))
  where
    inside : (t : Tile) → In t A → (a ≡ t.first) ⊎ (a ≡ t.second) → has R a ≡ true
    inside t i (inl same) = subst (λ (x : Cell). has R x ≡ true) (sym same) (In-has R t.first ((tiling-parts R A tiling).tiles t i).first)
    inside t i (inr same) = subst (λ (x : Cell). has R x ≡ true) (sym same) (In-has R t.second ((tiling-parts R A tiling).tiles t i).second)

    missed : (t : Tile) → In t A → covers t a ≡ true → ⊥
    missed t i c = cc (e, inside t i (covers-cases t a c))

-- ---- the letters of a row

-- the flags of a row
pub flags-length : (R : Region) (r : ℕ) (flags : List Bool) → flags ≡ map (has R) (row_part r 0 R.columns) → length flags ≡ R.columns
flags-length R r flags e = ap length e ∙ length-map (row_part r 0 R.columns) (has R) ∙ length-map-range_with_len (λ c. cell r c) 0 R.columns

flag-at : (R : Region) (r c : ℕ) (flags : List Bool) → flags ≡ map (has R) (row_part r 0 R.columns) → c < R.columns → get_or flags c false ≡ has R (cell r c)
flag-at R r c flags e h =
    ap (λ (l : List Bool). get_or l c false) e
    ∙ get_or-map (has R) (row_part r 0 R.columns) c (cell 0 0) false (omega (arith, h, length-map-range_with_len (λ c. cell r c) 0 R.columns))
    ∙ ap (has R) (get_or-map-range_with_len (λ c. cell r c) 0 R.columns c c (cell 0 0) h (omega arith))

-- the heights of a row
height-at : (R : Region) (numbers row : List ℤ) (r x : ℕ) → row ≡ height_row R numbers r → x < R.columns + 2 → get_or row x (pos 0) ≡ height R numbers (corner r x)
height-at R numbers row r x e h =
    ap (λ (l : List ℤ). get_or l x (pos 0)) e
    ∙ get_or-take (R.columns + 2) (drop (r * (R.columns + 2)) numbers) x (pos 0) h
    ∙ get_or-drop (r * (R.columns + 2)) numbers x (pos 0)

module _ (R : Region) (A : List Tile) (numbers : List ℤ) (tiling : IsTrue (is_tiling R A)) (h : AreHeights R A numbers)
    (r : ℕ) (flags : List Bool) (upper lower : List ℤ)
    (flags_are : flags ≡ map (has R) (row_part r 0 R.columns)) (upper_is : upper ≡ height_row R numbers r) (lower_is : lower ≡ height_row R numbers (r + 1)) where
  above : (x : ℕ) → x < R.columns + 2 → get_or upper x (pos 0) ≡ height R numbers (corner r x)
  above x within = height-at R numbers upper r x upper_is within

  below : (x : ℕ) → x < R.columns + 2 → get_or lower x (pos 0) ≡ height R numbers (corner (r + 1) x)
  below x within = height-at R numbers lower (r + 1) x lower_is within

  square-ends : (c : ℕ) → c < R.columns → square_letter upper lower c ≡ letter_by (falls_at R numbers) (ends_of Square (cell r c))
  square-ends c within =
      λ i. letter_between (above c (omega (arith, within)) i) (above (c + 1) (omega (arith, within)) i) (below c (omega (arith, within)) i) (below (c + 1) (omega (arith, within)) i)

  triangle-ends : (c : ℕ) → c < R.columns → triangle_letter r upper lower c ≡ letter_by (falls_at R numbers) (ends_of Triangle (cell r c))
  triangle-ends c within = go (is_dark (cell r c))
    where
      go : (t : Bool)
          → cond t
          (letter_between (get_or upper (c + 1) (pos 0)) (get_or upper (c + 1) (pos 0)) (get_or lower c (pos 0)) (get_or lower (c + 2) (pos 0)))
          (letter_between (get_or upper c (pos 0)) (get_or upper (c + 2) (pos 0)) (get_or lower (c + 1) (pos 0)) (get_or lower (c + 1) (pos 0)))
          ≡ letter_by (falls_at R numbers) (cond t (ends_up (cell r c)) (ends_down (cell r c)))
      go true =
          λ i. letter_between (above (c + 1) (omega (arith, within)) i) (above (c + 1) (omega (arith, within)) i) (below c (omega (arith, within)) i) (below (c + 2) (omega (arith, within)) i)
      go false =
          λ i. letter_between (above c (omega (arith, within)) i) (above (c + 2) (omega (arith, within)) i) (below (c + 1) (omega (arith, within)) i) (below (c + 1) (omega (arith, within)) i)

  -- the letter by the heights, or the dot, is that of the partner
  letter-placed : (k : Kind) (c letter_there : ℕ) → k ≡ R.kind → c < R.columns → letter_there ≡ letter_by (falls_at R numbers) (ends_of k (cell r c))
      → cond (get_or flags c false) letter_there 46 ≡ letter (cell r c) (partner A (cell r c))
  letter-placed k c letter_there kind within e =
      ap (λ (t : Bool). cond t letter_there 46) (flag-at R r c flags flags_are within) ∙ go (has R (cell r c)) refl
    where
      go : (t : Bool) → has R (cell r c) ≡ t → cond t letter_there 46 ≡ letter (cell r c) (partner A (cell r c))
      go true there =
          e ∙ (ap (λ (k : Kind). letter_by (falls_at R numbers) (ends_of k (cell r c))) kind ∙ letter-partner R A numbers (cell r c) tiling h there)
      go false missing = letter-outside R A (cell r c) tiling missing

  pub square-placed : (c : ℕ) → Square ≡ R.kind → c < R.columns → cond (get_or flags c false) (square_letter upper lower c) 46 ≡ letter (cell r c) (partner A (cell r c))
  square-placed c kind within = letter-placed Square c (square_letter upper lower c) kind within (square-ends c within)

  pub triangle-placed : (c : ℕ) → Triangle ≡ R.kind → c < R.columns → cond (get_or flags c false) (triangle_letter r upper lower c) 46 ≡ letter (cell r c) (partner A (cell r c))
  triangle-placed c kind within = letter-placed Triangle c (triangle_letter r upper lower c) kind within (triangle-ends c within)
