-- A function that falls along one step round each cell, never on the boundary, is that of one tiling: the partner of
-- a cell lies across the step that falls.
use Rattle.std.proofs.Common.{◌≡◌, ◌-◌, ◌⊎◌, inl, inr, Bool, true, false, not, ◌&&◌, List, cond, Option, Some, refl, sym, ◌∙◌, ap, subst, arith, ℤ, pos, negsuc, ◌+ℤ◌, int_lt}
use Rattle.std.specs.Prelude.{find, IsTrue}
use Rattle.std.specs.List.{list_any}
use Rattle.std.proofs.lemmas.Int.{ints}
use Rattle.std.proofs.lemmas.Bool.{and_parts, and_from, not-true, false_from_ne_true}
use Rattle.tl_definitions.specs.declared.Cell.{Cell}
use Rattle.tl_definitions.specs.declared.Corner.{Corner}
use Rattle.tl_definitions.specs.declared.Tile.{Tile}
use Rattle.tl_definitions.specs.Lattice.{cell_eq, Side, sides, rise}
use Rattle.tl_definitions.specs.Region.{Region, all_sides, is_boundary, boundary, is_step}
use Rattle.tl_definitions.specs.Accepted.{IsPlaced}
use Rattle.tl_definitions.specs.Tiling.{covers, is_tiling, other_cell, tiles_by}
use Rattle.tl_definitions.specs.Heights.{has_edge, climb}
use Rattle.tl_definitions.proofs.Cells.{cell_eq-same, cell_eq-refl}
use Rattle.tl_lists.proofs.Tests.{same_test}
use Rattle.tl_lists.proofs.Members.{In, In-filter, In-flat_map, In-any_of, any-In, In-map_parts}
use Rattle.tl_lists.proofs.Counts.{Only}
use Rattle.tl_lists.proofs.Searches.{find-only}
use Rattle.tl_definitions.proofs.Partners.{AreMatched, stands_in_one, tiles_by-tiling}
use Rattle.tl_definitions.proofs.Tilings.{tiling-parts}
use Rattle.tl_closing.specs.Closing.{step_along, steps_round}
use Rattle.tl_closing.proofs.Centres.{cell-two}
use Rattle.tl_closing.proofs.Edges.{Step, has-In, In-has, round-step, is_step-parts}
use Rattle.tl_closing.proofs.Near.{shared-near}
use Rattle.tl_closing.proofs.Boundary.{inside-two, rises-at-to}
use Rattle.tl_closing.proofs.Circuit.{RisesAt}
use Rattle.tl_closing.proofs.Crossed.{edge-round, round-edge, is_crossed, crossed-from, IsAcross, IsCrossing, one-crossed}
use Rattle.tl_closing.proofs.Falls.{falls, IsMild, falls-by, one-falls, lt-true}

-- whether b lies across a step of a that falls
abbrev pub is_across : Region → (Corner → ℤ) → Cell → Cell → Bool
is_across R h a b = list_any (λ e. falls h e && has_edge R.kind b e.0 e.1) (steps_round R.kind a) && not (cell_eq a b)

abbrev pub partner_by : Region → (Corner → ℤ) → Cell → Option Cell
partner_by R h a = find (is_across R h a) R.cells

abbrev pub tiling_by : Region → (Corner → ℤ) → List Tile
tiling_by R h = tiles_by (partner_by R h) R.cells

module _ (R : Region) (h : Corner → ℤ) (placed : IsPlaced R) (mild : IsMild R h) (edge : (s : Side) → In s (boundary R) → RisesAt h s) where
  differ-eq : (a b : Cell) → (a ≡ b → ⊥) → cell_eq a b ≡ false
  differ-eq a b d = false_from_ne_true (cell_eq a b) (λ e. d (cell_eq-same a b e))

  -- two cells with a common step that falls are each other's partner
  partner-is : (a b : Cell) (e : Step) → In a R.cells → In b R.cells → (a ≡ b → ⊥) → In e (steps_round R.kind a) → In e (steps_round R.kind b) → falls h e ≡ true
      → partner_by R h a ≡ Some b
  partner-is a b e i j differ m n fall = find-only (is_across R h a) R.cells b j passes only
    where
      passes : is_across R h a b ≡ true
      passes =
          and_from _ _
          (In-any_of (λ e. falls h e && has_edge R.kind b e.0 e.1) e (steps_round R.kind a) m (and_from _ _ fall (round-edge R.kind b e n)))
          (ap not (differ-eq a b differ))

      step_of : (d : Step) × Only (falls h) (steps_round R.kind a) d → (f : Step) → In f (steps_round R.kind a) → falls h f ≡ true → f ≡ e
      step_of (d, o) f k g = o.only f k g ∙ sym (o.only e m fall)

      same : (c : Cell) → (a ≡ c → ⊥) → In c R.cells → (f : Step) × In f (steps_round R.kind a) × ((falls h f && has_edge R.kind c f.0 f.1) ≡ true) → c ≡ b
      same c d k (f, l, g) =
          let p : (falls h f ≡ true) × (has_edge R.kind c f.0 f.1 ≡ true) = and_parts _ _ g in
          let here : f ≡ e = step_of (one-falls R h mild a i) f l p.0 in
          let at : In f (steps_round R.kind c) = edge-round R.kind c f (round-step R.kind a f l) p.1 in
          other (cell-two R.kind a b c e differ m n (subst (λ (x : Step). In x (steps_round R.kind c)) here at))
        where
          other : (c ≡ a) ⊎ (c ≡ b) → c ≡ b
          other (inl q) = absurd (d (sym q))
          other (inr q) = q

      only : (c : Cell) → In c R.cells → is_across R h a c ≡ true → c ≡ b
      only c k g =
          let p : (list_any (λ e. falls h e && has_edge R.kind c e.0 e.1) (steps_round R.kind a) ≡ true) × (not (cell_eq a c) ≡ true) = and_parts _ _ g in
          same c (λ q. cc (not-true _ p.1, subst (λ (x : Cell). cell_eq a x ≡ true) q (cell_eq-refl a))) k
          (any-In (λ e. falls h e && has_edge R.kind c e.0 e.1) (steps_round R.kind a) p.0)

  -- across the step of a cell that falls there is another cell of the region
  pub record Mate (a : Cell) : Type 0 where
    pub step : Step
    pub mate : Cell
    pub inside : In mate R.cells
    pub differ : a ≡ mate → ⊥
    pub here : In step (steps_round R.kind a)
    pub there : In step (steps_round R.kind mate)
    pub falling : falls h step ≡ true
    pub only : (f : Step) → In f (steps_round R.kind a) → falls h f ≡ true → f ≡ step

  mate-of : (a : Cell) → In a R.cells → Mate a
  mate-of a i = start (one-falls R h mild a i)
    where
      -- it is not on the boundary
      not_edge : (e : Step) → falls h e ≡ true → h e.1 ≡ h e.0 +ℤ pos 1 → ⊥
      not_edge e f g = climbs (h e.1) (h e.0) f g
        where
          climbs : (x y : ℤ) → int_lt x y ≡ true → x ≡ y +ℤ pos 1 → ⊥
          climbs x y l g = let m = lt-true x y l in omega (arith, ints, m, g)

      with_side : (e : Step) → Only (falls h) (steps_round R.kind a) e → (s : Side) → In s (sides R.kind a) → e ≡ step_along s → (t : Bool) → is_boundary R s ≡ t → Mate a
      with_side e o s j same true b =
          absurd (not_edge (step_along s) (subst (λ (d : Step). falls h d ≡ true) same o.passes)
          (rises-at-to h s (edge s (In-filter (is_boundary R) s (all_sides R) b (In-flat_map (sides R.kind) s a R.cells i j)))))
      with_side e o s j same false b = found (inside-two R a s j b)
        where
          found : (b : Cell) × In b R.cells × In (step_along s) (steps_round R.kind b) × (a ≡ b → ⊥) → Mate a
          found (b, k, l, d) = record {
            step = e;
            mate = b;
            inside = k;
            differ = d;
            here = o.inside;
            there = subst (λ (x : Step). In x (steps_round R.kind b)) (sym same) l;
            falling = o.passes;
            only = o.only;
          }

      side : (e : Step) → Only (falls h) (steps_round R.kind a) e → (s : Side) × In s (sides R.kind a) × (e ≡ step_along s) → Mate a
      side e o (s, j, same) = with_side e o s j same (is_boundary R s) refl

      start : (e : Step) × Only (falls h) (steps_round R.kind a) e → Mate a
      start (e, o) = side e o (In-map_parts step_along e (sides R.kind a) o.inside)

  turned : {A : Type 0} (x y : A) → (x ≡ y → ⊥) → y ≡ x → ⊥
  turned x y d e = d (sym e)

  matched : AreMatched R (partner_by R h)
  matched a a_in =
      let i : In a R.cells = has-In R a a_in in
      let m : Mate a = mate-of a i in (
        m.mate,
        partner-is a m.mate m.step i m.inside m.differ m.here m.there m.falling,
        In-has R m.mate m.inside,
        shared-near R.kind a m.mate m.step m.differ m.here m.there,
        partner-is m.mate a m.step m.inside i (turned a m.mate m.differ) m.there m.here m.falling,
      )

  pub tiling_by-tiling : IsTrue (is_tiling R (tiling_by R h))
  tiling_by-tiling = tiles_by-tiling R (partner_by R h) placed matched

  -- its tiles cross the steps that fall, and no others
  crossed-falls : (a : Cell) (d : Step) → In a R.cells → In d (steps_round R.kind a) → is_crossed R (tiling_by R h) d ≡ falls h d
  crossed-falls a d i j = same_test (is_crossed R (tiling_by R h) d) (falls h d) to from
    where
      m : Mate a
      m = mate-of a i

      across : (t : Tile) → covers t a ≡ true → other_cell t a ≡ m.mate → IsAcross R t m.step
      across t c o = go (cell_eq t.first a) refl o
        where
          go : (b : Bool) → cell_eq t.first a ≡ b → cond b t.second t.first ≡ m.mate → IsAcross R t m.step
          go true e o = (
            subst (λ (x : Cell). In m.step (steps_round R.kind x)) (sym (cell_eq-same t.first a e)) m.here,
            subst (λ (x : Cell). In m.step (steps_round R.kind x)) (sym o) m.there,
          )
          go false e o = (
            subst (λ (x : Cell). In m.step (steps_round R.kind x)) (sym o) m.there,
            subst (λ (x : Cell). In m.step (steps_round R.kind x)) (sym (cell_eq-same t.second a (second (cell_eq t.second a) refl))) m.here,
          )
            where
              second : (b : Bool) → cell_eq t.second a ≡ b → b ≡ true
              second true f = refl
              second false f = cc (c, e, f)

      crossed : is_crossed R (tiling_by R h) m.step ≡ true
      crossed = by_tile (stands_in_one R (partner_by R h) placed matched a m.mate (In-has R a i) (partner-is a m.mate m.step i m.inside m.differ m.here m.there m.falling))
        where
          by_tile : (t : Tile) × Only (λ s. covers s a) (tiling_by R h) t × (other_cell t a ≡ m.mate) → is_crossed R (tiling_by R h) m.step ≡ true
          by_tile (t, o, other) = crossed-from R (tiling_by R h) t m.step o.inside (across t o.passes other)

      from : falls h d ≡ true → is_crossed R (tiling_by R h) d ≡ true
      from e = subst (λ (x : Step). is_crossed R (tiling_by R h) x ≡ true) (sym (m.only d j e)) crossed

      to : is_crossed R (tiling_by R h) d ≡ true → falls h d ≡ true
      to e = go (one-crossed R (tiling_by R h) (tiling-parts R (tiling_by R h) tiling_by-tiling) a i)
        where
          go : (c : Step) × IsCrossing R (tiling_by R h) a c → falls h d ≡ true
          go (c, o) = subst (λ (x : Step). falls h x ≡ true) (sym (o.only d j e ∙ sym (o.only m.step m.here crossed))) m.falling

  -- so its climbs are the differences
  pub tiling_by-climbs : (u v : Corner) → IsTrue (is_step R u v) → h v ≡ h u +ℤ climb R (tiling_by R h) u v
  tiling_by-climbs u v e = go (is_step-parts R u v e)
    where
      go : (a : Cell) × In a R.cells × In (u, v) (steps_round R.kind a) → h v ≡ h u +ℤ climb R (tiling_by R h) u v
      go (a, i, j) =
          falls-by R h mild a (u, v) i j
          ∙ ap (λ (t : Bool). h u +ℤ cond t (negsuc (rise R.kind - 2)) (pos 1)) (sym (crossed-falls a (u, v) i j))
