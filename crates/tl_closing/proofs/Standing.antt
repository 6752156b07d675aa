-- A tiling stands high at an inner corner where its tiles cross all steps from it, and low where they cross all
-- steps to it.
use Rattle.std.proofs.Common.{◌≡◌, ℕ, ◌+◌, ◌-◌, ◌%◌, ◌⊎◌, inl, inr, Bool, true, false, ◌&&◌, List, [], ◌∷◌, map, filter, zip, cond, refl, sym, ◌∙◌, ap, subst, arith, eqb, ℤ, pos, negsuc, ◌+ℤ◌, ◌≤ℤ◌, ◌<ℤ◌, int_lt}
use Rattle.std.specs.Prelude.{IsTrue}
use Rattle.std.specs.List.{list_all}
use Rattle.std.proofs.lemmas.Int.{ints}
use Rattle.std.proofs.lemmas.Bool.{and_from, and_parts, eqb-true, eqb-false, eq-eqb, ne_eqb, cases_Bool}
use Rattle.tl_definitions.specs.declared.Kind.{Kind}
use Rattle.tl_definitions.specs.declared.Kind.TheVariants.{Square, Triangle}
use Rattle.tl_definitions.specs.declared.Cell.{Cell}
use Rattle.tl_definitions.specs.declared.Corner.{Corner}
use Rattle.tl_definitions.specs.declared.Tile.{Tile}
use Rattle.tl_definitions.specs.Lattice.{corner, cell_lt, is_corner, is_dark, ring, steps_out, side, sides, rise, steps_in}
use Rattle.tl_definitions.specs.Region.{Region, is_inner, is_step}
use Rattle.tl_lists.specs.Lists.{present, turned}
use Rattle.tl_definitions.specs.Tiling.{tile_of, tile_eq, is_in, is_tiling}
use Rattle.tl_definitions.specs.Flip.{hi, lo, stands_high, stands_low}
use Rattle.tl_definitions.specs.Heights.{climb}
use Rattle.tl_lists.proofs.Tests.{same_test}
use Rattle.tl_definitions.proofs.Cells.{cell_eq-refl, cell_lt-irreflexive, cell_lt-transitive}
use Rattle.tl_lists.proofs.Members.{In, In-map, In-any_of, any-In}
use Rattle.tl_definitions.proofs.Corners.{corner-same}
use Rattle.tl_definitions.proofs.Darts.{less-of}
use Rattle.tl_definitions.proofs.Tilings.{tile_eq-same, TilingParts, tiling-parts}
use Rattle.tl_closing.specs.Closing.{step_along, steps_round}
use Rattle.tl_closing.proofs.Sides.{directed, dark-from, light-from}
use Rattle.tl_closing.proofs.Centres.{cell-two}
use Rattle.tl_closing.proofs.Edges.{Step, round-step, is_step-from}
use Rattle.tl_closing.proofs.Falls.{lt-true, lt-false}
use Rattle.tl_closing.proofs.Crossed.{is_crossed, crossed-from, crossed-parts, IsAcross}
use Rattle.tl_closing.proofs.Ring.{HasRing, back-is, inner-ring, among-up, among-down}

-- two cells of a ring, one after the other, share the edge between the corner v and w
pub record IsDart (cells : List Cell) (k : Kind) (v w : Corner) (a b : Cell) : Type 0 where
  pub inside : In a cells
  pub first : In (side a v w) (sides k a)
  pub second : In (side b w v) (sides k b)

pub colours-differ : (a b : Cell) → is_dark a ≡ true → is_dark b ≡ false → a ≡ b → ⊥
colours-differ a b e f same = cc (e, f, ap is_dark same)

-- ---- a tile of two cells is in the tiling where their common step is crossed

module _ (R : Region) (A : List Tile) (tiling : TilingParts R A) where
  pub pair_is : (s : Tile) (a b : Cell) → cell_lt s.first s.second ≡ true → (a ≡ s.first) ⊎ (a ≡ s.second) → (b ≡ s.first) ⊎ (b ≡ s.second) → (a ≡ b → ⊥) → s ≡ tile_of a b
  pair_is s a b order (inl p) (inl q) d = absurd (d (p ∙ sym q))
  pair_is s a b order (inr p) (inr q) d = absurd (d (p ∙ sym q))
  pair_is s a b order (inl p) (inr q) d = go (cell_lt a b) (subst (λ (x : Cell). cell_lt a x ≡ true) (sym q) (subst (λ (x : Cell). cell_lt x s.second ≡ true) (sym p) order))
    where
      go : (t : Bool) → t ≡ true → s ≡ cond t (record { first = a; second = b }) (record { first = b; second = a })
      go true e = λ i. record { first = sym p i; second = sym q i }
      go false e = cc e
  pair_is s a b order (inr p) (inl q) d = go (cell_lt a b) refl
    where
      back : cell_lt b a ≡ true
      back = subst (λ (x : Cell). cell_lt b x ≡ true) (sym p) (subst (λ (x : Cell). cell_lt x s.second ≡ true) (sym q) order)

      go : (t : Bool) → cell_lt a b ≡ t → s ≡ cond t (record { first = a; second = b }) (record { first = b; second = a })
      go true e = absurd (cell_lt-irreflexive a (cell_lt-transitive a b a e back))
      go false e = λ i. record { first = sym q i; second = sym p i }

  pub tile-crossed : (a b : Cell) (e : Step) → (a ≡ b → ⊥) → In e (steps_round R.kind a) → In e (steps_round R.kind b) → is_in A (tile_of a b) ≡ is_crossed R A e
  tile-crossed a b e differ i j = same_test (is_in A (tile_of a b)) (is_crossed R A e) to from
    where
      across : (t : Bool) → IsAcross R (cond t (record { first = a; second = b }) (record { first = b; second = a })) e
      across true = (i, j)
      across false = (j, i)

      to : is_in A (tile_of a b) ≡ true → is_crossed R A e ≡ true
      to h = go (any-In (tile_eq (tile_of a b)) A h)
        where
          go : (s : Tile) × In s A × (tile_eq (tile_of a b) s ≡ true) → is_crossed R A e ≡ true
          go (s, k, same) = crossed-from R A s e k (subst (λ (t : Tile). IsAcross R t e) (tile_eq-same _ _ same) (across (cell_lt a b)))

      from : is_crossed R A e ≡ true → is_in A (tile_of a b) ≡ true
      from h = go (crossed-parts R A e (round-step R.kind a e i) h)
        where
          go : (s : Tile) × In s A × IsAcross R s e → is_in A (tile_of a b) ≡ true
          go (s, k, (m, n)) =
              let d = (tiling.tiles s k).differ in
              let its : s ≡ tile_of a b = pair_is s a b (tiling.tiles s k).order (cell-two R.kind s.first s.second a e d m n i) (cell-two R.kind s.first s.second b e d m n j) differ in
              In-any_of (tile_eq (tile_of a b)) (tile_of a b) A (subst (λ (t : Tile). In t A) its k)
              (and_from _ _ (cell_eq-refl (tile_of a b).first) (cell_eq-refl (tile_of a b).second))

  -- a dark cell and the next: the step goes out from the corner
  pub dart-out : (v w : Corner) (a b : Cell) → IsDart R.cells R.kind v w a b → is_dark a ≡ true → is_dark b ≡ false → is_in A (tile_of a b) ≡ is_crossed R A (v, w)
  dart-out v w a b g e f =
      tile-crossed a b (v, w) (colours-differ a b e f)
      (subst (λ (t : Bool). In (directed t v w) (steps_round R.kind a)) e (In-map step_along (side a v w) (sides R.kind a) g.first))
      (subst (λ (t : Bool). In (directed t w v) (steps_round R.kind b)) f (In-map step_along (side b w v) (sides R.kind b) g.second))

  -- a light cell and the next: the step leads to it
  pub dart-in : (v w : Corner) (a b : Cell) → IsDart R.cells R.kind v w a b → is_dark a ≡ false → is_dark b ≡ true → is_in A (tile_of a b) ≡ is_crossed R A (w, v)
  dart-in v w a b g e f =
      tile-crossed a b (w, v) (λ same. colours-differ b a f e (sym same))
      (subst (λ (t : Bool). In (directed t v w) (steps_round R.kind a)) e (In-map step_along (side a v w) (sides R.kind a) g.first))
      (subst (λ (t : Bool). In (directed t w v) (steps_round R.kind b)) f (In-map step_along (side b w v) (sides R.kind b) g.second))

pub side_ends : (a : Cell) (u w u' w' : Corner) → u.r ≡ u'.r → u.x ≡ u'.x → w.r ≡ w'.r → w.x ≡ w'.x → side a u w ≡ side a u' w'
side_ends a u w u' w' p q s t = λ i. side a (corner-same u u' p q i) (corner-same w w' s t i)

pick-first : {X : Type 0} (p : X → Bool) (a b c d : X) → p a ≡ true → p b ≡ false → p c ≡ true → p d ≡ false → filter p (a ∷ b ∷ c ∷ d ∷ []) ≡ a ∷ c ∷ []
pick-first p a b c d e f g h = rw (e, f, g, h) refl

pick-second : {X : Type 0} (p : X → Bool) (a b c d : X) → p a ≡ false → p b ≡ true → p c ≡ false → p d ≡ true → filter p (a ∷ b ∷ c ∷ d ∷ []) ≡ b ∷ d ∷ []
pick-second p a b c d e f g h = rw (e, f, g, h) refl

swap-two : (a b : Bool) → (a && (b && true)) ≡ (b && (a && true))
swap-two true true = refl
swap-two true false = refl
swap-two false true = refl
swap-two false false = refl

swap-three : (a b c : Bool) → (a && (b && (c && true))) ≡ (b && (a && (c && true)))
swap-three true true c = refl
swap-three true false c = refl
swap-three false true c = refl
swap-three false false c = refl

-- ---- squares

record SquareRing (cells : List Cell) (v : Corner) : Type 0 where
  nw : Cell
  ne : Cell
  se : Cell
  sw : Cell
  nw_in : In nw cells
  ne_in : In ne cells
  se_in : In se cells
  sw_in : In sw cells
  nw_r : nw.r + 1 ≡ v.r
  nw_c : nw.c + 1 ≡ v.x
  ne_r : ne.r + 1 ≡ v.r
  ne_c : ne.c + 0 ≡ v.x
  se_r : se.r + 0 ≡ v.r
  se_c : se.c + 0 ≡ v.x
  sw_r : sw.r + 0 ≡ v.r
  sw_c : sw.c + 1 ≡ v.x

square-ring : (cells : List Cell) (v : Corner) → HasRing Square cells v → SquareRing cells v
square-ring cells v ((a, i, p, q), (b, j, r, s), (c, k, t, u), (d, l, x, y)) = record {
  nw = a;
  ne = b;
  se = c;
  sw = d;
  nw_in = i;
  ne_in = j;
  se_in = k;
  sw_in = l;
  nw_r = p;
  nw_c = q;
  ne_r = r;
  ne_c = s;
  se_r = t;
  se_c = u;
  sw_r = x;
  sw_c = y;
}

module _ (cells : List Cell) (v : Corner) (g : SquareRing cells v) where
  up : Corner
  up = corner g.nw.r v.x

  on : Corner
  on = corner v.r (v.x + 1)

  down : Corner
  down = corner (v.r + 1) v.x

  back : Corner
  back = corner v.r g.nw.c

  dart-up : IsDart cells Square v up g.nw g.ne
  unfolding up
  dart-up = record {
    inside = g.nw_in;
    first = inr (inr (inl (side_ends g.nw _ _ _ _ (sym g.nw_r) (sym g.nw_c) refl (sym g.nw_c))));
    second = inl (side_ends g.ne _ _ _ _ (omega (arith, g.nw_r, g.ne_r)) (omega (arith, g.ne_c)) (sym g.ne_r) (omega (arith, g.ne_c)));
  }

  dart-on : IsDart cells Square v on g.ne g.se
  unfolding on
  dart-on = record {
    inside = g.ne_in;
    first = inr (inl (side_ends g.ne _ _ _ _ (sym g.ne_r) (omega (arith, g.ne_c)) (sym g.ne_r) (omega (arith, g.ne_c))));
    second = inr (inr (inr (inl (side_ends g.se _ _ _ _ (omega (arith, g.se_r)) (omega (arith, g.se_c)) (omega (arith, g.se_r)) (omega (arith, g.se_c))))));
  }

  dart-down : IsDart cells Square v down g.se g.sw
  unfolding down
  dart-down = record {
    inside = g.se_in;
    first = inl (side_ends g.se _ _ _ _ (omega (arith, g.se_r)) (omega (arith, g.se_c)) (omega (arith, g.se_r)) (omega (arith, g.se_c)));
    second = inr (inr (inl (side_ends g.sw _ _ _ _ (omega (arith, g.sw_r)) (sym g.sw_c) (omega (arith, g.sw_r)) (sym g.sw_c))));
  }

  dart-back : IsDart cells Square v back g.sw g.nw
  unfolding back
  dart-back = record {
    inside = g.sw_in;
    first = inr (inr (inr (inl (side_ends g.sw _ _ _ _ (omega (arith, g.sw_r)) (sym g.sw_c) (omega (arith, g.sw_r)) (omega (arith, g.sw_c, g.nw_c))))));
    second = inr (inl (side_ends g.nw _ _ _ _ (sym g.nw_r) refl (sym g.nw_r) (sym g.nw_c)));
  }

  cells-square : present (ring Square v) ≡ g.nw ∷ g.ne ∷ g.se ∷ g.sw ∷ []
  cells-square =
      rw (back-is v 1 1 g.nw g.nw_r g.nw_c, back-is v 1 0 g.ne g.ne_r g.ne_c, back-is v 0 0 g.se g.se_r g.se_c, back-is v 0 1 g.sw g.sw_r g.sw_c) refl

  outs-even : (v.r + v.x) % 2 ≡ 0 → present (steps_out Square v) ≡ up ∷ down ∷ []
  unfolding up down
  outs-even even = rw (eq-eqb _ _ even, less-of v.r 1 g.nw.r (sym g.nw_r)) refl

  outs-odd : (v.r + v.x) % 2 ≡ 1 → present (steps_out Square v) ≡ back ∷ on ∷ []
  unfolding on back
  outs-odd odd = rw (ne_eqb ((v.r + v.x) % 2) 0 (omega (arith, odd)), less-of v.x 1 g.nw.c (sym g.nw_c)) refl

  ins-even : (v.r + v.x) % 2 ≡ 0 → present (steps_in Square v) ≡ on ∷ back ∷ []
  unfolding on back
  ins-even even = rw (eq-eqb _ _ even, less-of v.x 1 g.nw.c (sym g.nw_c)) refl

  ins-odd : (v.r + v.x) % 2 ≡ 1 → present (steps_in Square v) ≡ up ∷ down ∷ []
  unfolding up down
  ins-odd odd = rw (ne_eqb ((v.r + v.x) % 2) 0 (omega (arith, odd)), less-of v.r 1 g.nw.r (sym g.nw_r)) refl

abbrev out_pairs : List Cell → List (Cell × Cell)
out_pairs cells = filter (λ p. is_dark p.0) (zip cells (turned cells))

abbrev in_pairs : List Cell → List (Cell × Cell)
in_pairs cells = filter (λ p. is_dark p.1) (zip cells (turned cells))

two : {a b c d : Bool} → a ≡ c → b ≡ d → (a && (b && true)) ≡ (c && (d && true))
two p q = λ i. p i && (q i && true)

module _ (cells : List Cell) (test : Tile → Bool) (crossed : Corner → Corner → Bool) (v : Corner) where
  abbrev all_in : List (Cell × Cell) → Bool
  all_in ps = list_all test (map (λ p. tile_of p.0 p.1) ps)

  abbrev pub Outs : Kind → Type 0
  Outs k = (w : Corner) (a b : Cell) → IsDart cells k v w a b → is_dark a ≡ true → is_dark b ≡ false → test (tile_of a b) ≡ crossed v w

  abbrev pub Ins : Kind → Type 0
  Ins k = (w : Corner) (a b : Cell) → IsDart cells k v w a b → is_dark a ≡ false → is_dark b ≡ true → test (tile_of a b) ≡ crossed w v

  abbrev pub Claims : Kind → Type 0
  Claims k =
      (list_all test (hi k v) ≡ list_all (λ w. crossed v w) (present (steps_out k v)))
      × (list_all test (lo k v) ≡ list_all (λ u. crossed u v) (present (steps_in k v)))

  claims-square : Outs Square → Ins Square → SquareRing cells v → Claims Square
  claims-square out into g = go (cases_Bool (eqb ((v.r + v.x) % 2) 0))
    where
      even_case : (v.r + v.x) % 2 ≡ 0 → Claims Square
      even_case even = (
        ap (λ (cs : List Cell). all_in (out_pairs cs)) (cells-square cells v g)
            ∙ (ap all_in (pick-first (λ p. is_dark p.0) (g.nw, g.ne) (g.ne, g.se) (g.se, g.sw) (g.sw, g.nw) (nw even) (ne even) (se even) (sw even))
            ∙ (two (out (up cells v g) g.nw g.ne (dart-up cells v g) (nw even) (ne even)) (out (down cells v g) g.se g.sw (dart-down cells v g) (se even) (sw even))
            ∙ ap (list_all (λ w. crossed v w)) (sym (outs-even cells v g even)))),
        ap (λ (cs : List Cell). all_in (in_pairs cs)) (cells-square cells v g)
            ∙ (ap all_in (pick-second (λ p. is_dark p.1) (g.nw, g.ne) (g.ne, g.se) (g.se, g.sw) (g.sw, g.nw) (ne even) (se even) (sw even) (nw even))
            ∙ (two (into (on cells v g) g.ne g.se (dart-on cells v g) (ne even) (se even)) (into (back cells v g) g.sw g.nw (dart-back cells v g) (sw even) (nw even))
            ∙ ap (list_all (λ u. crossed u v)) (sym (ins-even cells v g even)))),
      )
        where
          nw : (v.r + v.x) % 2 ≡ 0 → is_dark g.nw ≡ true
          nw h = dark-from g.nw (omega (arith, h, g.nw_r, g.nw_c))

          ne : (v.r + v.x) % 2 ≡ 0 → is_dark g.ne ≡ false
          ne h = light-from g.ne (omega (arith, h, g.ne_r, g.ne_c))

          se : (v.r + v.x) % 2 ≡ 0 → is_dark g.se ≡ true
          se h = dark-from g.se (omega (arith, h, g.se_r, g.se_c))

          sw : (v.r + v.x) % 2 ≡ 0 → is_dark g.sw ≡ false
          sw h = light-from g.sw (omega (arith, h, g.sw_r, g.sw_c))

      odd_case : (v.r + v.x) % 2 ≡ 1 → Claims Square
      odd_case odd = (
        ap (λ (cs : List Cell). all_in (out_pairs cs)) (cells-square cells v g)
            ∙ (ap all_in (pick-second (λ p. is_dark p.0) (g.nw, g.ne) (g.ne, g.se) (g.se, g.sw) (g.sw, g.nw) (nw odd) (ne odd) (se odd) (sw odd))
            ∙ (two (out (on cells v g) g.ne g.se (dart-on cells v g) (ne odd) (se odd)) (out (back cells v g) g.sw g.nw (dart-back cells v g) (sw odd) (nw odd))
            ∙ (swap-two (crossed v (on cells v g)) (crossed v (back cells v g)) ∙ ap (list_all (λ w. crossed v w)) (sym (outs-odd cells v g odd))))),
        ap (λ (cs : List Cell). all_in (in_pairs cs)) (cells-square cells v g)
            ∙ (ap all_in (pick-first (λ p. is_dark p.1) (g.nw, g.ne) (g.ne, g.se) (g.se, g.sw) (g.sw, g.nw) (ne odd) (se odd) (sw odd) (nw odd))
            ∙ (two (into (up cells v g) g.nw g.ne (dart-up cells v g) (nw odd) (ne odd)) (into (down cells v g) g.se g.sw (dart-down cells v g) (se odd) (sw odd))
            ∙ ap (list_all (λ u. crossed u v)) (sym (ins-odd cells v g odd)))),
      )
        where
          nw : (v.r + v.x) % 2 ≡ 1 → is_dark g.nw ≡ false
          nw h = light-from g.nw (omega (arith, h, g.nw_r, g.nw_c))

          ne : (v.r + v.x) % 2 ≡ 1 → is_dark g.ne ≡ true
          ne h = dark-from g.ne (omega (arith, h, g.ne_r, g.ne_c))

          se : (v.r + v.x) % 2 ≡ 1 → is_dark g.se ≡ false
          se h = light-from g.se (omega (arith, h, g.se_r, g.se_c))

          sw : (v.r + v.x) % 2 ≡ 1 → is_dark g.sw ≡ true
          sw h = dark-from g.sw (omega (arith, h, g.sw_r, g.sw_c))

      odd_of : (n : ℕ) → n % 2 ≡ (v.r + v.x) % 2 → eqb ((v.r + v.x) % 2) 0 ≡ false → (v.r + v.x) % 2 ≡ 1
      odd_of n e f = omega (arith, eqb-false _ _ f)

      go : (eqb ((v.r + v.x) % 2) 0 ≡ true) ⊎ (eqb ((v.r + v.x) % 2) 0 ≡ false) → Claims Square
      go (inl e) = even_case (eqb-true _ _ e)
      go (inr e) = odd_case (odd_of (v.r + v.x) refl e)

-- ---- triangles

record TriangleRing (cells : List Cell) (v : Corner) : Type 0 where
  one : Cell
  two : Cell
  three : Cell
  four : Cell
  five : Cell
  six : Cell
  one_in : In one cells
  two_in : In two cells
  three_in : In three cells
  four_in : In four cells
  five_in : In five cells
  six_in : In six cells
  one_r : one.r + 1 ≡ v.r
  one_c : one.c + 2 ≡ v.x
  two_r : two.r + 1 ≡ v.r
  two_c : two.c + 1 ≡ v.x
  three_r : three.r + 1 ≡ v.r
  three_c : three.c + 0 ≡ v.x
  four_r : four.r + 0 ≡ v.r
  four_c : four.c + 0 ≡ v.x
  five_r : five.r + 0 ≡ v.r
  five_c : five.c + 1 ≡ v.x
  six_r : six.r + 0 ≡ v.r
  six_c : six.c + 2 ≡ v.x

triangle-ring : (cells : List Cell) (v : Corner) → HasRing Triangle cells v → TriangleRing cells v
triangle-ring cells v ((a, a', p1, q1), (b, b', p2, q2), (c, c', p3, q3), (d, d', p4, q4), (e, e', p5, q5), (f, f', p6, q6)) = record {
  one = a;
  two = b;
  three = c;
  four = d;
  five = e;
  six = f;
  one_in = a';
  two_in = b';
  three_in = c';
  four_in = d';
  five_in = e';
  six_in = f';
  one_r = p1;
  one_c = q1;
  two_r = p2;
  two_c = q2;
  three_r = p3;
  three_c = q3;
  four_r = p4;
  four_c = q4;
  five_r = p5;
  five_c = q5;
  six_r = p6;
  six_c = q6;
}

pick-odd : {X : Type 0} (p : X → Bool) (a b c d e f : X) → p a ≡ true → p b ≡ false → p c ≡ true → p d ≡ false → p e ≡ true → p f ≡ false
    → filter p (a ∷ b ∷ c ∷ d ∷ e ∷ f ∷ []) ≡ a ∷ c ∷ e ∷ []
pick-odd p a b c d e f g h i j k l = rw (g, h, i, j, k, l) refl

pick-even : {X : Type 0} (p : X → Bool) (a b c d e f : X) → p a ≡ false → p b ≡ true → p c ≡ false → p d ≡ true → p e ≡ false → p f ≡ true
    → filter p (a ∷ b ∷ c ∷ d ∷ e ∷ f ∷ []) ≡ b ∷ d ∷ f ∷ []
pick-even p a b c d e f g h i j k l = rw (g, h, i, j, k, l) refl

three-same : {a b c d e f : Bool} → a ≡ d → b ≡ e → c ≡ f → (a && (b && (c && true))) ≡ (d && (e && (f && true)))
three-same p q r = λ i. p i && (q i && (r i && true))

module _ (cells : List Cell) (v : Corner) (odd : (v.r + v.x) % 2 ≡ 1) (g : TriangleRing cells v) where
  dark-one : is_dark g.one ≡ true
  dark-one = dark-from g.one (omega (arith, odd, g.one_r, g.one_c))

  light-two : is_dark g.two ≡ false
  light-two = light-from g.two (omega (arith, odd, g.two_r, g.two_c))

  dark-three : is_dark g.three ≡ true
  dark-three = dark-from g.three (omega (arith, odd, g.three_r, g.three_c))

  light-four : is_dark g.four ≡ false
  light-four = light-from g.four (omega (arith, odd, g.four_r, g.four_c))

  dark-five : is_dark g.five ≡ true
  dark-five = dark-from g.five (omega (arith, odd, g.five_r, g.five_c))

  light-six : is_dark g.six ≡ false
  light-six = light-from g.six (omega (arith, odd, g.six_r, g.six_c))

  w0 : Corner
  w0 = corner g.one.r g.two.c

  w1 : Corner
  w1 = corner g.one.r (v.x + 1)

  w2 : Corner
  w2 = corner v.r (v.x + 2)

  w3 : Corner
  w3 = corner (v.r + 1) (v.x + 1)

  w4 : Corner
  w4 = corner (v.r + 1) g.two.c

  w5 : Corner
  w5 = corner v.r g.one.c

  dart-0 : IsDart cells Triangle v w0 g.one g.two
  unfolding w0
  dart-0 = record {
    inside = g.one_in;
    first = among-up g.one _ dark-one (inr (inr (inl (side_ends g.one _ _ _ _ (sym g.one_r) (sym g.one_c) refl (omega (arith, g.one_c, g.two_c))))));
    second = among-down g.two _ light-two (inl (side_ends g.two _ _ _ _ (omega (arith, g.one_r, g.two_r)) refl (sym g.two_r) (sym g.two_c)));
  }

  dart-1 : IsDart cells Triangle v w1 g.two g.three
  unfolding w1
  dart-1 = record {
    inside = g.two_in;
    first = among-down g.two _ light-two (inr (inl (side_ends g.two _ _ _ _ (sym g.two_r) (sym g.two_c) (omega (arith, g.one_r, g.two_r)) (omega (arith, g.two_c)))));
    second = among-up g.three _ dark-three (inl (side_ends g.three _ _ _ _ (omega (arith, g.one_r, g.three_r)) (omega (arith, g.three_c)) (sym g.three_r) (omega (arith, g.three_c))));
  }

  dart-2 : IsDart cells Triangle v w2 g.three g.four
  unfolding w2
  dart-2 = record {
    inside = g.three_in;
    first = among-up g.three _ dark-three (inr (inl (side_ends g.three _ _ _ _ (sym g.three_r) (omega (arith, g.three_c)) (sym g.three_r) (omega (arith, g.three_c)))));
    second = among-down g.four _ light-four (inr (inr (inl (side_ends g.four _ _ _ _ (omega (arith, g.four_r)) (omega (arith, g.four_c)) (omega (arith, g.four_r)) (omega (arith, g.four_c))))));
  }

  dart-3 : IsDart cells Triangle v w3 g.four g.five
  unfolding w3
  dart-3 = record {
    inside = g.four_in;
    first = among-down g.four _ light-four (inl (side_ends g.four _ _ _ _ (omega (arith, g.four_r)) (omega (arith, g.four_c)) (omega (arith, g.four_r)) (omega (arith, g.four_c))));
    second = among-up g.five _ dark-five (inr (inr (inl (side_ends g.five _ _ _ _ (omega (arith, g.five_r)) (omega (arith, g.five_c)) (omega (arith, g.five_r)) (omega (arith, g.five_c))))));
  }

  dart-4 : IsDart cells Triangle v w4 g.five g.six
  unfolding w4
  dart-4 = record {
    inside = g.five_in;
    first = among-up g.five _ dark-five (inl (side_ends g.five _ _ _ _ (omega (arith, g.five_r)) (omega (arith, g.five_c)) (omega (arith, g.five_r)) (omega (arith, g.five_c, g.two_c))));
    second = among-down g.six _ light-six (inr (inl (side_ends g.six _ _ _ _ (omega (arith, g.six_r)) (omega (arith, g.six_c, g.two_c)) (omega (arith, g.six_r)) (omega (arith, g.six_c)))));
  }

  dart-5 : IsDart cells Triangle v w5 g.six g.one
  unfolding w5
  dart-5 = record {
    inside = g.six_in;
    first = among-down g.six _ light-six (inr (inr (inl (side_ends g.six _ _ _ _ (omega (arith, g.six_r)) (omega (arith, g.six_c)) (omega (arith, g.six_r)) (omega (arith, g.six_c, g.one_c))))));
    second = among-up g.one _ dark-one (inr (inl (side_ends g.one _ _ _ _ (sym g.one_r) refl (sym g.one_r) (sym g.one_c))));
  }

  cells-triangle : present (ring Triangle v) ≡ g.one ∷ g.two ∷ g.three ∷ g.four ∷ g.five ∷ g.six ∷ []
  cells-triangle =
      rw (
        back-is v 1 2 g.one g.one_r g.one_c,
        back-is v 1 1 g.two g.two_r g.two_c,
        back-is v 1 0 g.three g.three_r g.three_c,
        back-is v 0 0 g.four g.four_r g.four_c,
        back-is v 0 1 g.five g.five_r g.five_c,
        back-is v 0 2 g.six g.six_r g.six_c,
      ) refl

  outs-triangle : present (steps_out Triangle v) ≡ w2 ∷ w0 ∷ w4 ∷ []
  unfolding w0 w2 w4
  outs-triangle = rw (less-of v.r 1 g.one.r (sym g.one_r), less-of v.x 1 g.two.c (sym g.two_c)) refl

  ins-triangle : present (steps_in Triangle v) ≡ w1 ∷ w3 ∷ w5 ∷ []
  unfolding w1 w3 w5
  ins-triangle = rw (less-of v.r 1 g.one.r (sym g.one_r), less-of v.x 2 g.one.c (sym g.one_c)) refl

module _ (cells : List Cell) (test : Tile → Bool) (crossed : Corner → Corner → Bool) (v : Corner) where
  claims-triangle : Outs cells test crossed v Triangle → Ins cells test crossed v Triangle → (v.r + v.x) % 2 ≡ 1 → TriangleRing cells v → Claims cells test crossed v Triangle
  claims-triangle out into odd g = (
    ap (λ (cs : List Cell). all_in cells test crossed v (out_pairs cs)) (cells-triangle cells v odd g)
        ∙ (ap (all_in cells test crossed v)
        (pick-odd (λ p. is_dark p.0) (g.one, g.two) (g.two, g.three) (g.three, g.four) (g.four, g.five) (g.five, g.six) (g.six, g.one)
        (dark-one cells v odd g) (light-two cells v odd g) (dark-three cells v odd g) (light-four cells v odd g) (dark-five cells v odd g) (light-six cells v odd g))
        ∙ (three-same (out (w0 cells v odd g) g.one g.two (dart-0 cells v odd g) (dark-one cells v odd g) (light-two cells v odd g))
        (out (w2 cells v odd g) g.three g.four (dart-2 cells v odd g) (dark-three cells v odd g) (light-four cells v odd g))
        (out (w4 cells v odd g) g.five g.six (dart-4 cells v odd g) (dark-five cells v odd g) (light-six cells v odd g))
        ∙ (swap-three (crossed v (w0 cells v odd g)) (crossed v (w2 cells v odd g)) (crossed v (w4 cells v odd g)) ∙ ap (list_all (λ w. crossed v w)) (sym (outs-triangle cells v odd g))))),
    ap (λ (cs : List Cell). all_in cells test crossed v (in_pairs cs)) (cells-triangle cells v odd g)
        ∙ (ap (all_in cells test crossed v)
        (pick-even (λ p. is_dark p.1) (g.one, g.two) (g.two, g.three) (g.three, g.four) (g.four, g.five) (g.five, g.six) (g.six, g.one)
        (light-two cells v odd g) (dark-three cells v odd g) (light-four cells v odd g) (dark-five cells v odd g) (light-six cells v odd g) (dark-one cells v odd g))
        ∙ (three-same (into (w1 cells v odd g) g.two g.three (dart-1 cells v odd g) (light-two cells v odd g) (dark-three cells v odd g))
        (into (w3 cells v odd g) g.four g.five (dart-3 cells v odd g) (light-four cells v odd g) (dark-five cells v odd g))
        (into (w5 cells v odd g) g.six g.one (dart-5 cells v odd g) (light-six cells v odd g) (dark-one cells v odd g))
        ∙ ap (list_all (λ u. crossed u v)) (sym (ins-triangle cells v odd g)))),
  )

-- ---- standing

pub claims : (cells : List Cell) (test : Tile → Bool) (crossed : Corner → Corner → Bool) (v : Corner) (k : Kind) → Outs cells test crossed v k → Ins cells test crossed v k
    → is_corner k v ≡ true → HasRing k cells v → Claims cells test crossed v k
claims cells test crossed v Square out into e whole = claims-square cells test crossed v out into (square-ring cells v whole)
claims cells test crossed v Triangle out into e whole = claims-triangle cells test crossed v out into (eqb-true _ _ e) (triangle-ring cells v whole)

module _ (R : Region) (A : List Tile) (v : Corner) (crossed : Corner → Corner → Bool) (inner : is_inner R v ≡ true) where
  standing : Outs R.cells (is_in A) crossed v R.kind → Ins R.cells (is_in A) crossed v R.kind
      → (stands_high R A v ≡ list_all (λ w. crossed v w) (present (steps_out R.kind v))) × (stands_low R A v ≡ list_all (λ u. crossed u v) (present (steps_in R.kind v)))
  standing out into =
      let both : Claims R.cells (is_in A) crossed v R.kind = claims R.cells (is_in A) crossed v R.kind out into (and_parts _ _ inner).0 (inner-ring R v inner) in (
        ap (λ (t : Bool). t && list_all (is_in A) (hi R.kind v)) inner ∙ both.0,
        ap (λ (t : Bool). t && list_all (is_in A) (lo R.kind v)) inner ∙ both.1,
      )

-- A tiling stands high at an inner corner exactly where its tiles cross all steps from it, and low where they cross
-- all steps to it.
pub standing-crossed : (R : Region) (A : List Tile) (v : Corner) → IsTrue (is_tiling R A) → is_inner R v ≡ true
    → (stands_high R A v ≡ list_all (λ w. is_crossed R A (v, w)) (present (steps_out R.kind v)))
    × (stands_low R A v ≡ list_all (λ u. is_crossed R A (u, v)) (present (steps_in R.kind v)))
standing-crossed R A v tiling inner =
    standing R A v (λ u w. is_crossed R A (u, w)) inner
    (λ w a b g e f. dart-out R A (tiling-parts R A tiling) v w a b g e f) (λ w a b g e f. dart-in R A (tiling-parts R A tiling) v w a b g e f)

-- a step is crossed where the heights fall along it
pub crossed-told : (k : Kind) (x y : ℤ) (t : Bool) → y ≡ x +ℤ cond t (negsuc (rise k - 2)) (pos 1) → t ≡ int_lt y x
crossed-told k x y t e = go t (int_lt y x) refl e
  where
    low : (k : Kind) → y ≡ x +ℤ negsuc (rise k - 2) → x ≤ℤ y → ⊥
    low Square e l = omega (arith, ints, e, l)
    low Triangle e l = omega (arith, ints, e, l)

    high : y ≡ x +ℤ pos 1 → y <ℤ x → ⊥
    high e l = omega (arith, ints, e, l)

    go : (t s : Bool) → int_lt y x ≡ s → y ≡ x +ℤ cond t (negsuc (rise k - 2)) (pos 1) → t ≡ s
    go true true f e = refl
    go true false f e = absurd (low k e (lt-false y x f))
    go false true f e = absurd (high e (lt-true y x f))
    go false false f e = refl

-- so it stands high where the heights fall along all steps from it, and low where they fall along all steps to it
pub standing-heights : (R : Region) (A : List Tile) (h : Corner → ℤ) (v : Corner) → IsTrue (is_tiling R A)
    → ((u w : Corner) → IsTrue (is_step R u w) → h w ≡ h u +ℤ climb R A u w) → is_inner R v ≡ true
    → (stands_high R A v ≡ list_all (λ w. int_lt (h w) (h v)) (present (steps_out R.kind v)))
    × (stands_low R A v ≡ list_all (λ u. int_lt (h v) (h u)) (present (steps_in R.kind v)))
standing-heights R A h v tiling along inner = standing R A v (λ u w. int_lt (h w) (h u)) inner out into
  where
    parts : TilingParts R A
    parts = tiling-parts R A tiling

    out : (w : Corner) (a b : Cell) → IsDart R.cells R.kind v w a b → is_dark a ≡ true → is_dark b ≡ false → is_in A (tile_of a b) ≡ int_lt (h w) (h v)
    out w a b g e f =
        let at : In (v, w) (steps_round R.kind a) =
        subst (λ (t : Bool). In (directed t v w) (steps_round R.kind a)) e (In-map step_along (side a v w) (sides R.kind a) g.first) in
        dart-out R A parts v w a b g e f ∙ crossed-told R.kind (h v) (h w) (is_crossed R A (v, w)) (along v w (is_step-from R a v w g.inside at))

    into : (w : Corner) (a b : Cell) → IsDart R.cells R.kind v w a b → is_dark a ≡ false → is_dark b ≡ true → is_in A (tile_of a b) ≡ int_lt (h v) (h w)
    into w a b g e f =
        let at : In (w, v) (steps_round R.kind a) =
        subst (λ (t : Bool). In (directed t v w) (steps_round R.kind a)) e (In-map step_along (side a v w) (sides R.kind a) g.first) in
        dart-in R A parts v w a b g e f ∙ crossed-told R.kind (h w) (h v) (is_crossed R A (w, v)) (along w v (is_step-from R a w v g.inside at))
