-- The tiles of hi round an inner corner, and those of lo: each cell at the corner stands in one of them, and no other
-- cell does.
use Rattle.std.proofs.Common.{◌≡◌, ℕ, ◌<◌, ◌⊎◌, inl, inr, Bool, true, false, not, ◌&&◌, List, cond, refl, sym, ◌∙◌, ap, subst, arith}
use Rattle.std.specs.List.{list_any, list_all}
use Rattle.std.proofs.lemmas.Bool.{and_parts, and_from, cases_order, not-true, false_from_ne_true}
use Rattle.tl_definitions.specs.declared.Kind.{Kind}
use Rattle.tl_definitions.specs.declared.Kind.TheVariants.{Square, Triangle}
use Rattle.tl_definitions.specs.declared.Cell.{Cell}
use Rattle.tl_definitions.specs.declared.Corner.{Corner}
use Rattle.tl_definitions.specs.declared.Tile.{Tile}
use Rattle.tl_definitions.specs.Lattice.{cell_lt, are_neighbours, corner_eq, is_dark, corners, steps_in, steps_out}
use Rattle.tl_definitions.specs.Region.{Region, is_inner}
use Rattle.tl_lists.specs.Lists.{present}
use Rattle.tl_definitions.specs.Tiling.{tile_of, is_tile, covers}
use Rattle.tl_definitions.specs.Flip.{hi, lo}
use Rattle.tl_definitions.specs.Heights.{has_edge}
use Rattle.tl_definitions.proofs.Cells.{cell-same, cell_lt-from}
use Rattle.tl_definitions.proofs.Tiles.{pair}
use Rattle.tl_lists.proofs.Members.{In, In-any_of, any-In, In-list_all, list_all-In}
use Rattle.tl_definitions.proofs.Corners.{corner_eq-same, corner_eq-refl, corner-same}
use Rattle.tl_definitions.proofs.Steps.{IsStepOut}
use Rattle.tl_definitions.proofs.Tilings.{TileParts, tile-parts, TilingParts}
use Rattle.tl_closing.specs.Closing.{steps_round}
use Rattle.tl_closing.proofs.Stated.{step-one_way, IsCentre, round-centre, cell-two, step-one, Step, In-has, round-step, round-corners, shared-near, Share, edge-round, round-edge, covers-cases, tile-step, inner-ring, IsDart, Claims, claims, colours-differ, pair_is, dart-step-out, dart-step-in, hi-covers, lo-covers, lo-at}

-- Tiles of the region in which the cells at a corner stand, each in one, and no others.
pub record IsAround (R : Region) (v : Corner) (ts : List Tile) : Type 0 where
  pub tile : (t : Tile) → In t ts → is_tile R t ≡ true
  pub covered : (c : Cell) → In v (corners R.kind c) → (t : Tile) × In t ts × (covers t c ≡ true)
  pub at : (t : Tile) (c : Cell) → In t ts → covers t c ≡ true → In v (corners R.kind c)
  pub once : (s t : Tile) (c : Cell) → In s ts → In t ts → covers s c ≡ true → covers t c ≡ true → s ≡ t

-- ---- steps round one cell

-- one step round a cell begins at a corner, and one ends there
abbrev Same : Corner → Corner → Type 0
Same u w = (u.r ≡ w.r) × (u.x ≡ w.x)

centre-to : (k : Kind) (t : Bool) (r c : ℕ) (v w w' : Corner) → IsCentre k t r c (v, w) → IsCentre k t r c (v, w') → Same w w'
centre-to Square true r c v w w' p q = (omega (arith, p, q), omega (arith, p, q))
centre-to Square false r c v w w' p q = (omega (arith, p, q), omega (arith, p, q))
centre-to Triangle true r c v w w' p q = (omega (arith, p, q), omega (arith, p, q))
centre-to Triangle false r c v w w' p q = (omega (arith, p, q), omega (arith, p, q))

centre-from : (k : Kind) (t : Bool) (r c : ℕ) (v u u' : Corner) → IsCentre k t r c (u, v) → IsCentre k t r c (u', v) → Same u u'
centre-from Square true r c v u u' p q = (omega (arith, p, q), omega (arith, p, q))
centre-from Square false r c v u u' p q = (omega (arith, p, q), omega (arith, p, q))
centre-from Triangle true r c v u u' p q = (omega (arith, p, q), omega (arith, p, q))
centre-from Triangle false r c v u u' p q = (omega (arith, p, q), omega (arith, p, q))

to-one : (k : Kind) (a : Cell) (v w w' : Corner) → In (v, w) (steps_round k a) → In (v, w') (steps_round k a) → w ≡ w'
to-one k a v w w' i j =
    let same = centre-to k (is_dark a) a.r a.c v w w' (round-centre k a (v, w) i) (round-centre k a (v, w') j) in
    corner-same w w' same.0 same.1

from-one : (k : Kind) (a : Cell) (v u u' : Corner) → In (u, v) (steps_round k a) → In (u', v) (steps_round k a) → u ≡ u'
from-one k a v u u' i j =
    let same = centre-from k (is_dark a) a.r a.c v u u' (round-centre k a (u, v) i) (round-centre k a (u', v) j) in
    corner-same u u' same.0 same.1

-- ---- the tile of two cells with a step in common

-- its cells are the two, in one order or the other
tile-cells : (P : Cell → Cell → Type 0) (a b : Cell) → P a b → P b a → P (tile_of a b).first (tile_of a b).second
tile-cells P a b p q = go (cell_lt a b)
  where
    go : (t : Bool) → P (cond t (pair a b) (pair b a)).first (cond t (pair a b) (pair b a)).second
    go true = p
    go false = q

cell_lt-either : (a b : Cell) → (a ≡ b → ⊥) → cell_lt a b ≡ false → cell_lt b a ≡ true
cell_lt-either a b differ not_before = rows (cases_order a.r b.r)
  where
    columns : a.r ≡ b.r → (a.c ≡ b.c) ⊎ ((a.c < b.c) ⊎ (b.c < a.c)) → cell_lt b a ≡ true
    columns e (inl f) = absurd (differ (cell-same a b e f))
    columns e (inr (inl l)) = cc (not_before, cell_lt-from a b (inr (e, l)))
    columns e (inr (inr l)) = cell_lt-from b a (inr (sym e, l))

    rows : (a.r ≡ b.r) ⊎ ((a.r < b.r) ⊎ (b.r < a.r)) → cell_lt b a ≡ true
    rows (inl e) = columns e (cases_order a.c b.c)
    rows (inr (inl l)) = cc (not_before, cell_lt-from a b (inl l))
    rows (inr (inr l)) = cell_lt-from b a (inl l)

-- it is a tile of the region where both are cells of it
tile_of-is_tile : (R : Region) (a b : Cell) (e : Step) → (a ≡ b → ⊥) → In a R.cells → In b R.cells → In e (steps_round R.kind a) → In e (steps_round R.kind b)
    → is_tile R (tile_of a b) ≡ true
tile_of-is_tile R a b e differ a_in b_in i j = go (cell_lt a b) refl
  where
    of : (x y : Cell) → In x R.cells → In y R.cells → cell_lt x y ≡ true → are_neighbours R.kind x y ≡ true → is_tile R (pair x y) ≡ true
    of x y p q l n = and_from _ _ (and_from _ _ (and_from _ _ (In-has R x p) (In-has R y q)) l) n

    go : (t : Bool) → cell_lt a b ≡ t → is_tile R (cond t (pair a b) (pair b a)) ≡ true
    go true l = of a b a_in b_in l (shared-near R.kind a b e differ i j)
    go false l = of b a b_in a_in (cell_lt-either a b differ l) (shared-near R.kind b a e (λ same. differ (sym same)) j i)

-- ---- at a corner

-- the two cells of a tile have a step out from the corner in common
abbrev leads_out : Kind → Corner → Tile → Bool
leads_out k v t = list_any (λ w. has_edge k t.first v w && has_edge k t.second v w) (present (steps_out k v))

abbrev LeadsOut : Kind → Corner → Cell → Cell → Type 0
LeadsOut k v a b = (w : Corner) × In (v, w) (steps_round k a) × In (v, w) (steps_round k b)

leads_out-parts : (k : Kind) (v : Corner) (t : Tile) → leads_out k v t ≡ true → LeadsOut k v t.first t.second
leads_out-parts k v t e = go (any-In (λ w. has_edge k t.first v w && has_edge k t.second v w) (present (steps_out k v)) e)
  where
    go : (w : Corner) × In w (present (steps_out k v)) × ((has_edge k t.first v w && has_edge k t.second v w) ≡ true) → LeadsOut k v t.first t.second
    go (w, i, h) =
        let p = and_parts (has_edge k t.first v w) (has_edge k t.second v w) h in
        (w, edge-round k t.first (v, w) i p.0, edge-round k t.second (v, w) i p.1)

leads_out-from : (k : Kind) (v : Corner) (t : Tile) → LeadsOut k v t.first t.second → leads_out k v t ≡ true
leads_out-from k v t (w, i, j) =
    In-any_of (λ w. has_edge k t.first v w && has_edge k t.second v w) w (present (steps_out k v)) (round-step k t.first (v, w) i)
    (and_from _ _ (round-edge k t.first (v, w) i) (round-edge k t.second (v, w) j))

module _ (R : Region) (v : Corner) (inner : is_inner R v ≡ true) where
  -- a step at the corner has another corner at its other end
  apart : (w : Corner) → IsStepOut R.kind v w ⊎ IsStepOut R.kind w v → corner_eq w v ≡ false
  apart w step = false_from_ne_true (corner_eq w v) (λ h. go (corner_eq-same w v h) step)
    where
      loop : IsStepOut R.kind v v → ⊥
      loop s = step-one_way R.kind v v s s

      go : w ≡ v → IsStepOut R.kind v w ⊎ IsStepOut R.kind w v → ⊥
      go same (inl s) = loop (subst (λ (x : Corner). IsStepOut R.kind v x) same s)
      go same (inr s) = loop (subst (λ (x : Corner). IsStepOut R.kind x v) same s)

  -- at a dart whose step goes out, and at one whose step leads to the corner
  dart-leads : (w : Corner) (a b : Cell) → IsDart R.cells R.kind v w a b → is_dark a ≡ true → is_dark b ≡ false → leads_out R.kind v (tile_of a b) ≡ true
  dart-leads w a b g e f =
      let q = dart-step-out R v w a b g e f in
      leads_out-from R.kind v (tile_of a b) (tile-cells (LeadsOut R.kind v) a b (w, q.0, q.1) (w, q.1, q.0))

  dart-not_leads : (w : Corner) (a b : Cell) → IsDart R.cells R.kind v w a b → is_dark a ≡ false → is_dark b ≡ true → leads_out R.kind v (tile_of a b) ≡ false
  dart-not_leads w a b g e f =
      let q = dart-step-in R v w a b g e f in
      false_from_ne_true (leads_out R.kind v (tile_of a b)) (λ h.
      tile-cells (λ x y. LeadsOut R.kind v x y → ⊥) a b (none a b (λ same. colours-differ b a f e (sym same)) q.0 q.1) (none b a (colours-differ b a f e) q.1 q.0)
      (leads_out-parts R.kind v (tile_of a b) h))
    where
      none : (x y : Cell) → (x ≡ y → ⊥) → In (w, v) (steps_round R.kind x) → In (w, v) (steps_round R.kind y) → LeadsOut R.kind v x y → ⊥
      none x y differ i j (w', k, l) =
          let same : ◌≡◌ {A = Step} (w, v) (v, w') = step-one R.kind x y (w, v) (v, w') differ i j k l in
          let loop : IsStepOut R.kind v v = subst (λ (z : Corner). IsStepOut R.kind z v) (ap (λ (d : Step). d.0) same) (round-step R.kind x (w, v) i) in
          step-one_way R.kind v v loop loop

  hi-leads : list_all (leads_out R.kind v) (hi R.kind v) ≡ true
  hi-leads =
      (claims R.cells (leads_out R.kind v) (λ u w. corner_eq u v) v R.kind (λ w a b g e f. dart-leads w a b g e f ∙ sym (corner_eq-refl v))
      (λ w a b g e f. dart-not_leads w a b g e f ∙ sym (apart w (inr (round-step R.kind a (w, v) (dart-step-in R v w a b g e f).0))))
      (and_parts _ _ inner).0 (inner-ring R v inner)).0
      ∙ list_all-In (λ w. corner_eq v v) (present (steps_out R.kind v)) (λ w i. corner_eq-refl v)

  lo-not_leads : list_all (λ t. not (leads_out R.kind v t)) (lo R.kind v) ≡ true
  lo-not_leads =
      (claims R.cells (λ t. not (leads_out R.kind v t)) (λ u w. corner_eq w v) v R.kind
      (λ w a b g e f. ap not (dart-leads w a b g e f) ∙ sym (apart w (inl (round-step R.kind a (v, w) (dart-step-out R v w a b g e f).0))))
      (λ w a b g e f. ap not (dart-not_leads w a b g e f) ∙ sym (corner_eq-refl v)) (and_parts _ _ inner).0 (inner-ring R v inner)).1
      ∙ list_all-In (λ u. corner_eq v v) (present (steps_in R.kind v)) (λ u i. corner_eq-refl v)

-- ---- the tiles of hi, and those of lo

abbrev Shares : Kind → Tile → Step → Type 0
Shares k t e = In e (steps_round k t.first) × In e (steps_round k t.second)

module _ (R : Region) (A : List Tile) (tiling : TilingParts R A) (v : Corner) (inner : is_inner R v ≡ true)
    (whole : (c : Cell) → In v (corners R.kind c) → In c R.cells) where
  -- two tiles with the same step are the same
  same-step : (s t : Tile) (e : Step) → TileParts R s → TileParts R t → Shares R.kind s e → Shares R.kind t e → s ≡ t
  same-step s t e p q i j =
      pair_is R A tiling s t.first t.second p.order (cell-two R.kind s.first s.second t.first e p.differ i.0 i.1 j.0) (cell-two R.kind s.first s.second t.second e p.differ i.0 i.1 j.1) q.differ
      ∙ sym (pair_is R A tiling t t.first t.second q.order (inl refl) (inr refl) q.differ)

  -- it is enough to know of each tile the step that its cells share
  around-from : (ts : List Tile) (IsOne : Step → Type 0) → ((t : Tile) → In t ts → is_tile R t ≡ true)
      → ((c : Cell) → In v (corners R.kind c) → (t : Tile) × In t ts × (covers t c ≡ true))
      → ((t : Tile) → In t ts → (e : Step) × Shares R.kind t e × IsOne e)
      → ((c : Cell) (e : Step) → IsOne e → In e (steps_round R.kind c) → In v (corners R.kind c))
      → ((c : Cell) (d e : Step) → IsOne d → IsOne e → In d (steps_round R.kind c) → In e (steps_round R.kind c) → d ≡ e)
      → IsAround R v ts
  around-from ts IsOne tile covered steps at_corner only = record { tile = tile; covered = covered; at = at; once = once }
    where
      of_cell : (t : Tile) (c : Cell) (e : Step) → Shares R.kind t e → covers t c ≡ true → In e (steps_round R.kind c)
      of_cell t c e i h = go (covers-cases t c h)
        where
          go : (c ≡ t.first) ⊎ (c ≡ t.second) → In e (steps_round R.kind c)
          go (inl same) = subst (λ (x : Cell). In e (steps_round R.kind x)) (sym same) i.0
          go (inr same) = subst (λ (x : Cell). In e (steps_round R.kind x)) (sym same) i.1

      at : (t : Tile) (c : Cell) → In t ts → covers t c ≡ true → In v (corners R.kind c)
      at t c i h = go (steps t i)
        where
          go : (e : Step) × Shares R.kind t e × IsOne e → In v (corners R.kind c)
          go (e, j, one) = at_corner c e one (of_cell t c e j h)

      once : (s t : Tile) (c : Cell) → In s ts → In t ts → covers s c ≡ true → covers t c ≡ true → s ≡ t
      once s t c i j h k = go (steps s i) (steps t j)
        where
          go : (d : Step) × Shares R.kind s d × IsOne d → (e : Step) × Shares R.kind t e × IsOne e → s ≡ t
          go (d, l, p) (e, m, q) =
              let same : d ≡ e = only c d e p q (of_cell s c d l h) (of_cell t c e m k) in
              same-step s t e (tile-parts R s (tile s i)) (tile-parts R t (tile t j)) (subst (λ (x : Step). Shares R.kind s x) same l) m

  tiles-around : Claims R.cells (is_tile R) (λ u w. true) v R.kind
  tiles-around =
      claims R.cells (is_tile R) (λ u w. true) v R.kind
      (λ w a b g e f. let q = dart-step-out R v w a b g e f in of a b (v, w) (inl refl) (colours-differ a b e f) q.0 q.1)
      (λ w a b g e f. let q = dart-step-in R v w a b g e f in of a b (w, v) (inr refl) (λ same. colours-differ b a f e (sym same)) q.0 q.1)
      (and_parts _ _ inner).0 (inner-ring R v inner)
    where
      in-region : (c : Cell) (e : Step) → (e.0 ≡ v) ⊎ (e.1 ≡ v) → In e (steps_round R.kind c) → In c R.cells
      in-region c e (inl same) i = whole c (subst (λ (u : Corner). In u (corners R.kind c)) same (round-corners R.kind c e i).0)
      in-region c e (inr same) i = whole c (subst (λ (u : Corner). In u (corners R.kind c)) same (round-corners R.kind c e i).1)

      of : (a b : Cell) (e : Step) → (e.0 ≡ v) ⊎ (e.1 ≡ v) → (a ≡ b → ⊥) → In e (steps_round R.kind a) → In e (steps_round R.kind b) → is_tile R (tile_of a b) ≡ true
      of a b e here differ i j = tile_of-is_tile R a b e differ (in-region a e here i) (in-region b e here j) i j

  pub hi-around : IsAround R v (hi R.kind v)
  hi-around =
      around-from (hi R.kind v) (λ e. e.0 ≡ v)
      (λ t i. In-list_all (is_tile R) (hi R.kind v) t (tiles-around.0 ∙ list_all-In (λ w. true) (present (steps_out R.kind v)) (λ w j. refl)) i)
      (hi-covers R v inner)
      (λ t i. step t (leads_out-parts R.kind v t (In-list_all (leads_out R.kind v) (hi R.kind v) t (hi-leads R v inner) i)))
      (λ c e same i. subst (λ (u : Corner). In u (corners R.kind c)) same (round-corners R.kind c e i).0)
      only
    where
      step : (t : Tile) → LeadsOut R.kind v t.first t.second → (e : Step) × Shares R.kind t e × (e.0 ≡ v)
      step t (w, i, j) = ((v, w), (i, j), refl)

      only : (c : Cell) (d e : Step) → d.0 ≡ v → e.0 ≡ v → In d (steps_round R.kind c) → In e (steps_round R.kind c) → d ≡ e
      only c (u, w) (u', w') p q i j =
          let to : w ≡ w' = to-one R.kind c v w w' (subst (λ (x : Corner). In (x, w) (steps_round R.kind c)) p i) (subst (λ (x : Corner). In (x, w') (steps_round R.kind c)) q j) in
          λ k. ((p ∙ sym q) k, to k)

  pub lo-around : IsAround R v (lo R.kind v)
  lo-around =
      around-from (lo R.kind v) (λ e. e.1 ≡ v) tile (lo-covers R v inner)
      (λ t i. step t i (tile-parts R t (tile t i)) (tile-step R t (tile-parts R t (tile t i))))
      (λ c e same i. subst (λ (u : Corner). In u (corners R.kind c)) same (round-corners R.kind c e i).1)
      only
    where
      tile : (t : Tile) → In t (lo R.kind v) → is_tile R t ≡ true
      tile t i = In-list_all (is_tile R) (lo R.kind v) t (tiles-around.1 ∙ list_all-In (λ u. true) (present (steps_in R.kind v)) (λ u j. refl)) i

      step : (t : Tile) → In t (lo R.kind v) → TileParts R t → Share R.kind t.first t.second → (e : Step) × Shares R.kind t e × (e.1 ≡ v)
      step t i p (e, j, k) = go (lo-at R A tiling v inner t e p i j k)
        where
          no_way : e.0 ≡ v → ⊥
          no_way same =
              let out : leads_out R.kind v t ≡ true =
              leads_out-from R.kind v t (e.1, subst (λ (x : Corner). In (x, e.1) (steps_round R.kind t.first)) same j, subst (λ (x : Corner). In (x, e.1) (steps_round R.kind t.second)) same k) in
              cc (out, not-true (leads_out R.kind v t) (In-list_all (λ s. not (leads_out R.kind v s)) (lo R.kind v) t (lo-not_leads R v inner) i))

          go : (e.0 ≡ v) ⊎ (e.1 ≡ v) → (e : Step) × Shares R.kind t e × (e.1 ≡ v)
          go (inl same) = absurd (no_way same)
          go (inr same) = (e, (j, k), same)

      only : (c : Cell) (d e : Step) → d.1 ≡ v → e.1 ≡ v → In d (steps_round R.kind c) → In e (steps_round R.kind c) → d ≡ e
      only c (u, w) (u', w') p q i j =
          let from : u ≡ u' = from-one R.kind c v u u' (subst (λ (x : Corner). In (u, x) (steps_round R.kind c)) p i) (subst (λ (x : Corner). In (u', x) (steps_round R.kind c)) q j) in
          λ k. (from k, (p ∙ sym q) k)
