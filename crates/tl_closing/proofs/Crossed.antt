-- The edges that a tiling's tiles cross: one round each cell. So the climbs of a tiling close round each cell, and
-- tilings with the same climbs are the same.
use Rattle.std.proofs.Common.{◌≡◌, ℕ, suc, ◌-◌, ◌*◌, ◌≤◌, ◌⊎◌, inl, inr, Bool, true, false, List, [], ◌∷◌, map, length, cond, refl, sym, ◌∙◌, ap, subst, arith, ℤ, pos, negsuc, ◌+ℤ◌}
use Rattle.std.specs.Prelude.{IsTrue}
use Rattle.std.specs.List.{list_any}
use Rattle.std.proofs.lemmas.Int.{ints}
use Rattle.std.proofs.lemmas.Bool.{and_parts, and_from, or_cases, or_left, or_right}
use Rattle.tl_definitions.specs.declared.Kind.{Kind}
use Rattle.tl_definitions.specs.declared.Kind.TheVariants.{Square, Triangle}
use Rattle.tl_definitions.specs.declared.Cell.{Cell}
use Rattle.tl_definitions.specs.declared.Corner.{Corner}
use Rattle.tl_definitions.specs.declared.Tile.{Tile}
use Rattle.tl_definitions.specs.Lattice.{cell_eq, cell_lt, is_dark, Side, sides, rise}
use Rattle.tl_definitions.specs.Region.{Region, joins_corners, is_corner_of, is_step}
use Rattle.tl_definitions.specs.Tiling.{tile_lt, covers, is_tiling}
use Rattle.tl_lists.specs.Lists.{int_sum}
use Rattle.tl_definitions.specs.Heights.{has_edge, crosses, climb}
use Rattle.tl_definitions.proofs.Cells.{cell_eq-same, cell_eq-refl, cell_lt-irreflexive, cell_lt-transitive}
use Rattle.tl_definitions.proofs.Tiles.{tile_lt-irreflexive, tile_lt-transitive}
use Rattle.tl_lists.proofs.Members.{In, In-map, In-any_of, any-In, In-map_parts}
use Rattle.tl_lists.proofs.Orders.{linked-same}
use Rattle.tl_lists.proofs.Counts.{Only, count, count_some, count_one}
use Rattle.tl_definitions.proofs.Tilings.{TileParts, TilingParts, tiling-parts}
use Rattle.tl_closing.specs.Closing.{step_along, steps_round, sum_round, ClosesRoundCells}
use Rattle.tl_definitions.proofs.Steps.{IsStepOut}
use Rattle.tl_closing.proofs.Residues.{step-one_way}
use Rattle.tl_closing.proofs.Sides.{steps-table, left_step, other_steps}
use Rattle.tl_closing.proofs.Shared.{neighbours-share, Share}
use Rattle.tl_closing.proofs.Centres.{step-one, cell-two, round-once}
use Rattle.tl_closing.proofs.Edges.{Step, has-In, round-step, round-corners, joins-step, step-joins, is_step-parts, is_step-from, corner_of-from}

-- ---- the edges of a cell are the steps round it

pub edge-round : (k : Kind) (a : Cell) (e : Step) → IsStepOut k e.0 e.1 → has_edge k a e.0 e.1 ≡ true → In e (steps_round k a)
edge-round k a e out h = start (any-In (joins_corners e.0 e.1) (sides k a) h)
  where
    go : (s : Side) → In s (sides k a) → (step_along s ≡ (e.0, e.1)) ⊎ (step_along s ≡ (e.1, e.0)) → In e (steps_round k a)
    go s i (inl same) = subst (λ (d : Step). In d (steps_round k a)) same (In-map step_along s (sides k a) i)
    go s i (inr back) =
        absurd (step-one_way k e.0 e.1 out (round-step k a (e.1, e.0) (subst (λ (d : Step). In d (steps_round k a)) back (In-map step_along s (sides k a) i))))

    start : (s : Side) × In s (sides k a) × (joins_corners e.0 e.1 s ≡ true) → In e (steps_round k a)
    start (s, i, j) = go s i (step-joins e.0 e.1 s j)

pub round-edge : (k : Kind) (a : Cell) (e : Step) → In e (steps_round k a) → has_edge k a e.0 e.1 ≡ true
round-edge k a e i = go (In-map_parts step_along e (sides k a) i)
  where
    go : (s : Side) × In s (sides k a) × (e ≡ step_along s) → has_edge k a e.0 e.1 ≡ true
    go (s, j, same) =
        In-any_of (joins_corners e.0 e.1) s (sides k a) j (subst (λ (d : Step). joins_corners d.0 d.1 s ≡ true) (sym same) (joins-step s))

-- ---- the tiles of a tiling

pub covers-cases : (t : Tile) (a : Cell) → covers t a ≡ true → (a ≡ t.first) ⊎ (a ≡ t.second)
covers-cases t a e = elim (or_cases _ _ e) [ inl h ↦ inl (sym (cell_eq-same _ _ h)) | inr h ↦ inr (sym (cell_eq-same _ _ h)) ]

pub covers-from : (t : Tile) (a : Cell) → (a ≡ t.first) ⊎ (a ≡ t.second) → covers t a ≡ true
covers-from t a (inl e) = or_left (cell_eq t.first a) _ (subst (λ (x : Cell). cell_eq t.first x ≡ true) (sym e) (cell_eq-refl t.first))
covers-from t a (inr e) = or_right (cell_eq t.first a) _ (subst (λ (x : Cell). cell_eq t.second x ≡ true) (sym e) (cell_eq-refl t.second))

-- the step that the two cells of a tile share
pub tile-step : (R : Region) (t : Tile) → TileParts R t → Share R.kind t.first t.second
tile-step R t p = neighbours-share R.kind t.first t.second p.near

-- a tile crosses the steps that both of its cells have
abbrev pub IsAcross : Region → Tile → Step → Type 0
IsAcross R t e = In e (steps_round R.kind t.first) × In e (steps_round R.kind t.second)

abbrev pub is_crossed : Region → List Tile → Step → Bool
is_crossed R A e = list_any (crosses R.kind e.0 e.1) A

pub crossed-from : (R : Region) (A : List Tile) (t : Tile) (e : Step) → In t A → IsAcross R t e → is_crossed R A e ≡ true
crossed-from R A t e i p =
    In-any_of (crosses R.kind e.0 e.1) t A i (and_from _ _ (round-edge R.kind t.first e p.0) (round-edge R.kind t.second e p.1))

pub crossed-parts : (R : Region) (A : List Tile) (e : Step) → IsStepOut R.kind e.0 e.1 → is_crossed R A e ≡ true → (t : Tile) × In t A × IsAcross R t e
crossed-parts R A e out h = go (any-In (crosses R.kind e.0 e.1) A h)
  where
    go : (t : Tile) × In t A × (crosses R.kind e.0 e.1 t ≡ true) → (t : Tile) × In t A × IsAcross R t e
    go (t, i, c) =
        let p : (has_edge R.kind t.first e.0 e.1 ≡ true) × (has_edge R.kind t.second e.0 e.1 ≡ true) = and_parts _ _ c in
        (t, i, (edge-round R.kind t.first e out p.0, edge-round R.kind t.second e out p.1))

-- ---- one step round each cell is crossed

pub record IsCrossing (R : Region) (A : List Tile) (a : Cell) (e : Step) : Type 0 where
  pub inside : In e (steps_round R.kind a)
  pub crossed : is_crossed R A e ≡ true
  pub only : (d : Step) → In d (steps_round R.kind a) → is_crossed R A d ≡ true → d ≡ e

pub one-crossed : (R : Region) (A : List Tile) → TilingParts R A → (a : Cell) → In a R.cells → (e : Step) × IsCrossing R A a e
one-crossed R A tiling a a_in = start (tiling.covered a a_in)
  where
    with_step : (t : Tile) → Only (λ s. covers s a) A t → TileParts R t → Share R.kind t.first t.second → (e : Step) × IsCrossing R A a e
    with_step t o p (e, i, j) = (e, record { inside = here (covers-cases t a o.passes); crossed = crossed-from R A t e o.inside (i, j); only = only })
      where
        here : (a ≡ t.first) ⊎ (a ≡ t.second) → In e (steps_round R.kind a)
        here (inl same) = subst (λ (x : Cell). In e (steps_round R.kind x)) (sym same) i
        here (inr same) = subst (λ (x : Cell). In e (steps_round R.kind x)) (sym same) j

        -- a tile that crosses a step of the cell covers the cell, and so is its tile
        by_tile : (d : Step) → In d (steps_round R.kind a) → (s : Tile) × In s A × IsAcross R s d → d ≡ e
        by_tile d k (s, l, (m, n)) =
            let its : s ≡ t = o.only s l (covers-from s a (cell-two R.kind s.first s.second a d (tiling.tiles s l).differ m n k)) in
            step-one R.kind t.first t.second d e p.differ
            (subst (λ (x : Tile). In d (steps_round R.kind x.first)) its m) (subst (λ (x : Tile). In d (steps_round R.kind x.second)) its n) i j

        only : (d : Step) → In d (steps_round R.kind a) → is_crossed R A d ≡ true → d ≡ e
        only d k h = by_tile d k (crossed-parts R A d (round-step R.kind a d k) h)

    start : (t : Tile) × Only (λ s. covers s a) A t → (e : Step) × IsCrossing R A a e
    start (t, o) = with_step t o (tiling.tiles t o.inside) (tile-step R t (tiling.tiles t o.inside))

-- ---- the climbs close

pub length-round : (k : Kind) (a : Cell) → length (steps_round k a) ≡ rise k
length-round k a = ap length (steps-table k a) ∙ go k (is_dark a)
  where
    go : (k : Kind) (t : Bool) → length (left_step k t a.r a.c ∷ other_steps k t a.r a.c) ≡ rise k
    go Square true = refl
    go Square false = refl
    go Triangle true = refl
    go Triangle false = refl

-- a sum of climbs by the number of those that fall
pub climbs-sum : (k : Kind) (p : Step → Bool) (es : List Step)
    → int_sum (map (λ e. cond (p e) (negsuc (rise k - 2)) (pos 1)) es) +ℤ pos (rise k * count p es) ≡ pos (length es)
climbs-sum Square p [] = refl
climbs-sum Square p (e ∷ es) = go (p e) (climbs-sum Square p es)
  where
    go : (t : Bool) → int_sum (map (λ e. cond (p e) (negsuc 2) (pos 1)) es) +ℤ pos (4 * count p es) ≡ pos (length es)
        → (cond t (negsuc 2) (pos 1) +ℤ int_sum (map (λ e. cond (p e) (negsuc 2) (pos 1)) es)) +ℤ pos (4 * cond t (suc (count p es)) (count p es)) ≡ pos (suc (length es))
    go true ih = omega (arith, ints, ih)
    go false ih = omega (arith, ints, ih)
climbs-sum Triangle p [] = refl
climbs-sum Triangle p (e ∷ es) = go (p e) (climbs-sum Triangle p es)
  where
    go : (t : Bool) → int_sum (map (λ e. cond (p e) (negsuc 1) (pos 1)) es) +ℤ pos (3 * count p es) ≡ pos (length es)
        → (cond t (negsuc 1) (pos 1) +ℤ int_sum (map (λ e. cond (p e) (negsuc 1) (pos 1)) es)) +ℤ pos (3 * cond t (suc (count p es)) (count p es)) ≡ pos (suc (length es))
    go true ih = omega (arith, ints, ih)
    go false ih = omega (arith, ints, ih)

-- the climbs of a tiling close round each cell, in any region
pub tiling-closes : (R : Region) (A : List Tile) → IsTrue (is_tiling R A) → ClosesRoundCells R (climb R A)
tiling-closes R A tiling a a_in = go (one-crossed R A (tiling-parts R A tiling) a (has-In R a a_in))
  where
    zero : (k : Kind) (s : ℤ) (n l : ℕ) → s +ℤ pos (rise k * n) ≡ pos l → n ≡ 1 → l ≡ rise k → s ≡ pos 0
    zero Square s n l e f g = omega (arith, ints, e, f, g)
    zero Triangle s n l e f g = omega (arith, ints, e, f, g)

    go : (e : Step) × IsCrossing R A a e → sum_round R.kind (climb R A) a ≡ pos 0
    go (e, c) =
        let some : 1 ≤ count (is_crossed R A) (steps_round R.kind a) = count_some (is_crossed R A) e (steps_round R.kind a) c.inside c.crossed in
        let one : count (is_crossed R A) (steps_round R.kind a) ≤ 1 =
        count_one (is_crossed R A) (steps_round R.kind a) (round-once R.kind a) (λ x y i j p q. c.only x i p ∙ sym (c.only y j q)) in
        zero R.kind (sum_round R.kind (climb R A) a) (count (is_crossed R A) (steps_round R.kind a)) (length (steps_round R.kind a))
        (climbs-sum R.kind (is_crossed R A) (steps_round R.kind a)) (omega (arith, some, one)) (length-round R.kind a)

-- ---- tilings with the same climbs

climb-told : (n : ℕ) (s t : Bool) → cond s (negsuc n) (pos 1) ≡ cond t (negsuc n) (pos 1) → s ≡ true → t ≡ true
climb-told n true true e h = refl
climb-told n true false e h = cc e
climb-told n false t e h = cc h

-- a tile of a tiling whose step another tiling crosses is a tile of that one too
tile-in : (R : Region) (A B : List Tile) → TilingParts R A → TilingParts R B
    → ((u v : Corner) → IsTrue (is_step R u v) → climb R A u v ≡ climb R B u v) → (t : Tile) → In t A → In t B
tile-in R A B a b same t i = with_step (a.tiles t i) (tile-step R t (a.tiles t i))
  where
    -- two tiles of the same cells are the same
    same_cells : (s : Tile) → TileParts R s → TileParts R t → (t.first ≡ s.first) ⊎ (t.first ≡ s.second) → (t.second ≡ s.first) ⊎ (t.second ≡ s.second) → t ≡ s
    same_cells s p q (inl e) (inr f) = λ i. record { first = e i; second = f i }
    same_cells s p q (inl e) (inl f) = absurd (q.differ (e ∙ sym f))
    same_cells s p q (inr e) (inr f) = absurd (q.differ (e ∙ sym f))
    same_cells s p q (inr e) (inl f) =
        absurd (cell_lt-irreflexive s.first (cell_lt-transitive s.first s.second s.first p.order
        (subst (λ (x : Cell). cell_lt s.second x ≡ true) f (subst (λ (x : Cell). cell_lt x t.second ≡ true) e q.order))))

    with_step : TileParts R t → Share R.kind t.first t.second → In t B
    with_step p (e, j, k) = found (crossed-parts R B e (round-step R.kind t.first e j) crossed)
      where
        crossed : is_crossed R B e ≡ true
        crossed =
            climb-told (rise R.kind - 2) (is_crossed R A e) (is_crossed R B e) (same e.0 e.1 (is_step-from R t.first e.0 e.1 p.first j))
            (crossed-from R A t e i (j, k))

        found : (s : Tile) × In s B × IsAcross R s e → In t B
        found (s, l, (m, n)) =
            let its : t ≡ s =
            same_cells s (b.tiles s l) p (cell-two R.kind s.first s.second t.first e (b.tiles s l).differ m n j)
            (cell-two R.kind s.first s.second t.second e (b.tiles s l).differ m n k) in
            subst (λ (x : Tile). In x B) (sym its) l

pub same-climbs : (R : Region) (A B : List Tile) → IsTrue (is_tiling R A) → IsTrue (is_tiling R B)
    → ((u v : Corner) → IsTrue (is_step R u v) → climb R A u v ≡ climb R B u v) → A ≡ B
same-climbs R A B p q same =
    let a : TilingParts R A = tiling-parts R A p in
    let b : TilingParts R B = tiling-parts R B q in
    linked-same tile_lt tile_lt-irreflexive tile_lt-transitive A B a.order b.order
    (λ t i. tile-in R A B a b same t i) (λ t i. tile-in R B A b a (λ u v e. sym (same u v e)) t i)

-- tilings whose heights agree on the corners of the region are the same
pub same-heights : (R : Region) (A B : List Tile) (g h : Corner → ℤ) → IsTrue (is_tiling R A) → IsTrue (is_tiling R B)
    → ((u v : Corner) → IsTrue (is_step R u v) → g v ≡ g u +ℤ climb R A u v) → ((u v : Corner) → IsTrue (is_step R u v) → h v ≡ h u +ℤ climb R B u v)
    → ((v : Corner) → IsTrue (is_corner_of R v) → g v ≡ h v) → A ≡ B
same-heights R A B g h p q a b agree = same-climbs R A B p q climbs
  where
    cancel : (x y c d x' y' : ℤ) → y ≡ x +ℤ c → y' ≡ x' +ℤ d → x ≡ x' → y ≡ y' → c ≡ d
    cancel x y c d x' y' e f s t = omega (arith, ints, e, f, s, t)

    climbs : (u v : Corner) → IsTrue (is_step R u v) → climb R A u v ≡ climb R B u v
    climbs u v e = go (is_step-parts R u v e)
      where
        go : (c : Cell) × In c R.cells × In (u, v) (steps_round R.kind c) → climb R A u v ≡ climb R B u v
        go (c, i, j) =
            let ends = round-corners R.kind c (u, v) j in
            cancel (g u) (g v) (climb R A u v) (climb R B u v) (h u) (h v) (a u v e) (b u v e)
            (agree u (corner_of-from R c u i ends.0)) (agree v (corner_of-from R c v i ends.1))
