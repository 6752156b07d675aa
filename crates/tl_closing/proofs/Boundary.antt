-- Boundary edges are steps round one cell of the region alone, and so no tile crosses them.
use Rattle.std.proofs.Common.{◌≡◌, ◌⊎◌, inl, inr, Bool, true, false, not, ◌&&◌, List, [], ◌∷◌, cond, refl, sym, ◌∙◌, ap, subst, arith, ℤ, pos, negsuc, ◌+ℤ◌, ◌-◌}
use Rattle.std.specs.Prelude.{IsTrue}
use Rattle.std.specs.List.{list_all}
use Rattle.std.proofs.lemmas.Int.{ints}
use Rattle.std.proofs.lemmas.Bool.{and_parts, and_from, and_cases, not-false, or_left, or_right}
use Rattle.tl_definitions.specs.declared.Cell.{Cell}
use Rattle.tl_definitions.specs.declared.Corner.{Corner}
use Rattle.tl_definitions.specs.declared.Tile.{Tile}
use Rattle.tl_definitions.specs.Lattice.{corner_eq, is_dark, Side, sides, rise}
use Rattle.tl_definitions.specs.Region.{Region, all_sides, is_other_side, is_boundary, boundary, joins_corners}
use Rattle.tl_definitions.specs.Tiling.{is_tiling}
use Rattle.tl_definitions.specs.Heights.{climb}
use Rattle.tl_lists.proofs.Members.{In, In-map, In-flat_map, In-any_of, In-flat_map_parts, In-map_parts, In-filter_parts, In-list_all}
use Rattle.tl_definitions.proofs.Corners.{corner_eq-same, corner_eq-refl}
use Rattle.tl_definitions.proofs.Tilings.{TilingParts, tiling-parts}
use Rattle.tl_closing.specs.Closing.{step_along, steps_round}
use Rattle.tl_definitions.proofs.Steps.{IsStepOut}
use Rattle.tl_closing.proofs.Residues.{step-one_way}
use Rattle.tl_closing.proofs.Sides.{directed}
use Rattle.tl_closing.proofs.Centres.{cell-one}
use Rattle.tl_closing.proofs.Edges.{Step, round-step}
use Rattle.tl_closing.proofs.Crossed.{edge-round, is_crossed, crossed-parts, IsAcross}
use Rattle.tl_closing.proofs.Circuit.{RisesAt, side-cell}

-- a boundary side is a side of a cell of the region
pub boundary-parts : (R : Region) (s : Side) → In s (boundary R) → (a : Cell) × In a R.cells × In s (sides R.kind a) × (is_boundary R s ≡ true)
boundary-parts R s i = go (In-filter_parts (is_boundary R) s (all_sides R) i)
  where
    with_cell : is_boundary R s ≡ true → (a : Cell) × In a R.cells × In s (sides R.kind a) → (a : Cell) × In a R.cells × In s (sides R.kind a) × (is_boundary R s ≡ true)
    with_cell h (a, j, k) = (a, j, k, h)

    go : In s (all_sides R) × (is_boundary R s ≡ true) → (a : Cell) × In a R.cells × In s (sides R.kind a) × (is_boundary R s ≡ true)
    go (j, h) = with_cell h (In-flat_map_parts (sides R.kind) s R.cells j)

-- the sides of two cells of different colours along one step are each other's other side
other-ends : (p q : Bool) (s t : Side) → directed p s.from s.to ≡ directed q t.from t.to → not (cond p q (not q)) ≡ true → is_other_side s t ≡ true
other-ends true true s t e h = cc h
other-ends false false s t e h = cc h
other-ends true false s t e h =
    let from : s.from ≡ t.to = ap (λ (d : Step). d.0) e in
    let to : s.to ≡ t.from = ap (λ (d : Step). d.1) e in
    and_from _ _ (subst (λ (v : Corner). corner_eq s.from v ≡ true) from (corner_eq-refl s.from)) (subst (λ (v : Corner). corner_eq s.to v ≡ true) to (corner_eq-refl s.to))
other-ends false true s t e h =
    let to : s.to ≡ t.from = ap (λ (d : Step). d.0) e in
    let from : s.from ≡ t.to = ap (λ (d : Step). d.1) e in
    and_from _ _ (subst (λ (v : Corner). corner_eq s.from v ≡ true) from (corner_eq-refl s.from)) (subst (λ (v : Corner). corner_eq s.to v ≡ true) to (corner_eq-refl s.to))

pub boundary-one : (R : Region) (a b : Cell) (s : Side) → In s (sides R.kind a) → is_boundary R s ≡ true → In b R.cells → In (step_along s) (steps_round R.kind b) → b ≡ a
boundary-one R a b s i h j k = go (In-map_parts step_along (step_along s) (sides R.kind b) k)
  where
    its_cell : s.cell ≡ a
    its_cell = side-cell R.kind a s i

    no_other : (t : Side) → In t (sides R.kind b) → is_other_side s t ≡ true → ⊥
    no_other t l e =
        let told : not (is_other_side s t) ≡ true = In-list_all (λ t. not (is_other_side s t)) (all_sides R) t h (In-flat_map (sides R.kind) t b R.cells j l) in
        cc (told, e)

    colours : (p q : Bool) → is_dark a ≡ p → is_dark b ≡ q → (t : Side) → In t (sides R.kind b) → directed p s.from s.to ≡ directed q t.from t.to → b ≡ a
    colours true true e f t l same = cell-one R.kind b a (step_along s) (f ∙ sym e) k (In-map step_along s (sides R.kind a) i)
    colours false false e f t l same = cell-one R.kind b a (step_along s) (f ∙ sym e) k (In-map step_along s (sides R.kind a) i)
    colours true false e f t l same = absurd (no_other t l (other-ends true false s t same refl))
    colours false true e f t l same = absurd (no_other t l (other-ends false true s t same refl))

    go : (t : Side) × In t (sides R.kind b) × (step_along s ≡ step_along t) → b ≡ a
    go (t, l, same) =
        colours (is_dark a) (is_dark b) refl refl t l
        (subst (λ (x : Cell). directed (is_dark x) s.from s.to ≡ directed (is_dark b) t.from t.to) its_cell
        (subst (λ (x : Cell). directed (is_dark s.cell) s.from s.to ≡ directed (is_dark x) t.from t.to) (side-cell R.kind b t l) same))

-- a side that is not on the boundary is one of two cells of the region
pub inside-two : (R : Region) (a : Cell) (s : Side) → In s (sides R.kind a) → is_boundary R s ≡ false
    → (b : Cell) × In b R.cells × In (step_along s) (steps_round R.kind b) × (a ≡ b → ⊥)
inside-two R a s i h = start (some_other (all_sides R) h)
  where
    some_other : (ts : List Side) → list_all (λ t. not (is_other_side s t)) ts ≡ false → (t : Side) × In t ts × (is_other_side s t ≡ true)
    some_other [] e = cc e
    some_other (t ∷ ts) e = go (and_cases _ _ e) (λ f. some_other ts f)
      where
        go : (not (is_other_side s t) ≡ false) ⊎ (list_all (λ t. not (is_other_side s t)) ts ≡ false)
            → (list_all (λ t. not (is_other_side s t)) ts ≡ false → (u : Side) × In u ts × (is_other_side s u ≡ true)) → (u : Side) × In u (t ∷ ts) × (is_other_side s u ≡ true)
        go (inl f) ih = (t, inl refl, not-false _ f)
        go (inr f) ih = let (u, j, g) = ih f in (u, inr j, g)

    out : IsStepOut R.kind (step_along s).0 (step_along s).1
    out = round-step R.kind a (step_along s) (In-map step_along s (sides R.kind a) i)

    -- the step of the one side lies between the ends of the other
    between : (t : Side) → s.from ≡ t.to → s.to ≡ t.from → joins_corners (step_along s).0 (step_along s).1 t ≡ true
    between t e f = go (is_dark s.cell)
      where
        eq_of : (u v : Corner) → u ≡ v → corner_eq v u ≡ true
        eq_of u v g = subst (λ (w : Corner). corner_eq v w ≡ true) (sym g) (corner_eq-refl v)

        go : (p : Bool) → joins_corners (directed p s.from s.to).0 (directed p s.from s.to).1 t ≡ true
        go true = or_right (corner_eq t.from s.from && corner_eq t.to s.to) _ (and_from _ _ (eq_of s.to t.from f) (eq_of s.from t.to e))
        go false = or_left (corner_eq t.from s.to && corner_eq t.to s.from) _ (and_from _ _ (eq_of s.to t.from f) (eq_of s.from t.to e))

    -- of two sides of one cell with exchanged ends, one would be a step backwards
    apart : (b : Cell) (t : Side) → In t (sides R.kind b) → s.from ≡ t.to → s.to ≡ t.from → a ≡ b → ⊥
    apart b t j e f same =
        step-one_way R.kind (step_along s).0 (step_along s).1 out
        (subst (λ (d : Step). IsStepOut R.kind d.0 d.1) back (round-step R.kind b (step_along t) (In-map step_along t (sides R.kind b) j)))
      where
        colour : t.cell ≡ s.cell
        colour = side-cell R.kind b t j ∙ (sym same ∙ sym (side-cell R.kind a s i))

        swapped : (p : Bool) → ◌≡◌ {A = Step} (directed p t.from t.to) ((directed p s.from s.to).1, (directed p s.from s.to).0)
        swapped true = λ i. (sym f i, sym e i)
        swapped false = λ i. (sym e i, sym f i)

        back : ◌≡◌ {A = Step} (step_along t) ((step_along s).1, (step_along s).0)
        back = ap (λ (x : Cell). directed (is_dark x) t.from t.to) colour ∙ swapped (is_dark s.cell)

    with_cell : (t : Side) → is_other_side s t ≡ true → (b : Cell) × In b R.cells × In t (sides R.kind b)
        → (b : Cell) × In b R.cells × In (step_along s) (steps_round R.kind b) × (a ≡ b → ⊥)
    with_cell t e (b, j, k) =
        let p : (corner_eq s.from t.to ≡ true) × (corner_eq s.to t.from ≡ true) = and_parts _ _ e in
        let from : s.from ≡ t.to = corner_eq-same _ _ p.0 in
        let to : s.to ≡ t.from = corner_eq-same _ _ p.1 in (
          b,
          j,
          edge-round R.kind b (step_along s) out (In-any_of (joins_corners (step_along s).0 (step_along s).1) t (sides R.kind b) k (between t from to)),
          apart b t k from to,
        )

    start : (t : Side) × In t (all_sides R) × (is_other_side s t ≡ true) → (b : Cell) × In b R.cells × In (step_along s) (steps_round R.kind b) × (a ≡ b → ⊥)
    start (t, j, e) = with_cell t e (In-flat_map_parts (sides R.kind) t R.cells j)

-- ---- rises along a side and along its step

pub rises-at-from : (h : Corner → ℤ) (s : Side) → h (step_along s).1 ≡ h (step_along s).0 +ℤ pos 1 → RisesAt h s
rises-at-from h s e = go (is_dark s.cell) e
  where
    turn : (a b : ℤ) → a ≡ b +ℤ pos 1 → b ≡ a +ℤ negsuc 0
    turn a b e = omega (arith, ints, e)

    go : (p : Bool) → h (directed p s.from s.to).1 ≡ h (directed p s.from s.to).0 +ℤ pos 1 → h s.to ≡ h s.from +ℤ cond p (pos 1) (negsuc 0)
    go true e = e
    go false e = turn (h s.from) (h s.to) e

pub rises-at-to : (h : Corner → ℤ) (s : Side) → RisesAt h s → h (step_along s).1 ≡ h (step_along s).0 +ℤ pos 1
rises-at-to h s e = go (is_dark s.cell) e
  where
    turn : (a b : ℤ) → b ≡ a +ℤ negsuc 0 → a ≡ b +ℤ pos 1
    turn a b e = omega (arith, ints, e)

    go : (p : Bool) → h s.to ≡ h s.from +ℤ cond p (pos 1) (negsuc 0) → h (directed p s.from s.to).1 ≡ h (directed p s.from s.to).0 +ℤ pos 1
    go true e = e
    go false e = turn (h s.from) (h s.to) e

-- ---- the heights of a tiling rise by the sign of each boundary side

pub potential-rises : (R : Region) (A : List Tile) (h : Corner → ℤ) → IsTrue (is_tiling R A)
    → ((a : Cell) (e : Step) → In a R.cells → In e (steps_round R.kind a) → h e.1 ≡ h e.0 +ℤ climb R A e.0 e.1)
    → (s : Side) → In s (boundary R) → RisesAt h s
potential-rises R A h tiling along s i = go (boundary-parts R s i)
  where
    parts : TilingParts R A
    parts = tiling-parts R A tiling

    go : (a : Cell) × In a R.cells × In s (sides R.kind a) × (is_boundary R s ≡ true) → RisesAt h s
    go (a, j, k, edge) =
        rises-at-from h s
        (along a (step_along s) j here ∙ ap (λ (t : Bool). h (step_along s).0 +ℤ cond t (negsuc (rise R.kind - 2)) (pos 1)) (not_crossed (is_crossed R A (step_along s)) refl))
      where
        here : In (step_along s) (steps_round R.kind a)
        here = In-map step_along s (sides R.kind a) k

        by_tile : (t : Tile) × In t A × IsAcross R t (step_along s) → ⊥
        by_tile (t, l, (m, n)) =
            let p = parts.tiles t l in
            p.differ (boundary-one R a t.first s k edge p.first m ∙ sym (boundary-one R a t.second s k edge p.second n))

        not_crossed : (c : Bool) → is_crossed R A (step_along s) ≡ c → c ≡ false
        not_crossed true e = absurd (by_tile (crossed-parts R A (step_along s) (round-step R.kind a (step_along s) here) e))
        not_crossed false e = refl
