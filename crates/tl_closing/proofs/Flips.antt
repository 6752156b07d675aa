-- Raising the height at a corner where a tiling stands low is putting it high there, and lowering is putting it low.
use Rattle.std.proofs.Common.{◌≡◌, ◌⊎◌, inl, inr, Bool, true, false, not, ◌&&◌, List, cond, sym, ◌∙◌, ap, subst, ℤ, int_lt}
use Rattle.std.specs.Prelude.{IsTrue}
use Rattle.std.specs.List.{list_all}
use Rattle.std.proofs.lemmas.Bool.{and_parts, and_from, false_from_ne_true}
use Rattle.tl_definitions.specs.declared.Cell.{Cell}
use Rattle.tl_definitions.specs.declared.Corner.{Corner}
use Rattle.tl_definitions.specs.declared.Tile.{Tile}
use Rattle.tl_definitions.specs.Lattice.{corner_eq, cell_lt, steps_out, Side, sides, steps_in}
use Rattle.tl_definitions.specs.Region.{Region, joins_corners, is_inner, is_step}
use Rattle.tl_lists.specs.Lists.{present}
use Rattle.tl_definitions.specs.Accepted.{Accepted}
use Rattle.tl_definitions.specs.Tiling.{tile_eq, tile_of, is_in, is_tiling}
use Rattle.tl_definitions.specs.Flip.{hi, lo, stands_high, stands_low, put_high, put_low}
use Rattle.tl_definitions.specs.Heights.{has_edge, height, AreHeights}
use Rattle.tl_lists.proofs.Tests.{same_test}
use Rattle.tl_definitions.proofs.Cells.{cell_eq-refl}
use Rattle.tl_lists.proofs.Members.{In, In-map, any-In, In-list_all, list_all-In}
use Rattle.tl_definitions.proofs.Corners.{corner_eq-same, corner_eq-refl}
use Rattle.tl_definitions.proofs.Tilings.{tile_eq-same, TileParts, TilingParts, tiling-parts}
use Rattle.tl_closing.specs.Closing.{step_along, steps_round}
use Rattle.tl_closing.specs.Changed.{IsChangedAt}
use Rattle.tl_closing.proofs.Residues.{step-one_way}
use Rattle.tl_closing.proofs.Centres.{step-one, cell-two}
use Rattle.tl_closing.proofs.Edges.{Step, round-step, step-joins, is_step-from, step-out, step-ends}
use Rattle.tl_closing.proofs.Crossed.{is_crossed, edge-round, round-edge}
use Rattle.tl_closing.proofs.Ring.{inner-ring}
use Rattle.tl_closing.proofs.Standing.{Claims, claims, dart-out, dart-in, pair_is, crossed-told, colours-differ}
use Rattle.tl_closing.proofs.RingTiles.{dart-step-out, dart-step-in, not-all, hi-covers, lo-covers}
use Rattle.tl_closing.proofs.Exchange.{exchanged}

-- ---- the tiles of hi and lo have their steps at the corner

-- a tile is that of two cells where both of its cells have their step
tile-edge : (R : Region) (A : List Tile) (tiling : TilingParts R A) (t : Tile) → TileParts R t → (x y : Cell) (e : Step) → (x ≡ y → ⊥) → In e (steps_round R.kind x) → In e (steps_round R.kind y)
    → tile_eq t (tile_of x y) ≡ (has_edge R.kind t.first e.0 e.1 && has_edge R.kind t.second e.0 e.1)
tile-edge R A tiling t p x y e differ i j = same_test (tile_eq t (tile_of x y)) (has_edge R.kind t.first e.0 e.1 && has_edge R.kind t.second e.0 e.1) to from
  where
    both : (b : Bool) → (s : Tile) → s ≡ cond b (record { first = x; second = y }) (record { first = y; second = x })
        → (has_edge R.kind s.first e.0 e.1 && has_edge R.kind s.second e.0 e.1) ≡ true
    both true s q =
        subst (λ (z : Tile). (has_edge R.kind z.first e.0 e.1 && has_edge R.kind z.second e.0 e.1) ≡ true) (sym q)
        (and_from _ _ (round-edge R.kind x e i) (round-edge R.kind y e j))
    both false s q =
        subst (λ (z : Tile). (has_edge R.kind z.first e.0 e.1 && has_edge R.kind z.second e.0 e.1) ≡ true) (sym q)
        (and_from _ _ (round-edge R.kind y e j) (round-edge R.kind x e i))

    to : tile_eq t (tile_of x y) ≡ true → (has_edge R.kind t.first e.0 e.1 && has_edge R.kind t.second e.0 e.1) ≡ true
    to h = both (cell_lt x y) t (tile_eq-same t (tile_of x y) h)

    from : (has_edge R.kind t.first e.0 e.1 && has_edge R.kind t.second e.0 e.1) ≡ true → tile_eq t (tile_of x y) ≡ true
    from h =
        let q = and_parts (has_edge R.kind t.first e.0 e.1) (has_edge R.kind t.second e.0 e.1) h in
        let out = round-step R.kind x e i in
        let first : In e (steps_round R.kind t.first) = edge-round R.kind t.first e out q.0 in
        let second : In e (steps_round R.kind t.second) = edge-round R.kind t.second e out q.1 in
        let same : t ≡ tile_of x y =
        pair_is R A tiling t x y p.order (cell-two R.kind t.first t.second x e p.differ first second i) (cell-two R.kind t.first t.second y e p.differ first second j) differ in
        subst (λ (z : Tile). tile_eq t z ≡ true) same (and_from _ _ (cell_eq-refl t.first) (cell_eq-refl t.second))

-- an edge of a cell is a step round it, in one direction or the other
edge-either : (R : Region) (a : Cell) (u w : Corner) → has_edge R.kind a u w ≡ true → In (u, w) (steps_round R.kind a) ⊎ In (w, u) (steps_round R.kind a)
edge-either R a u w h = start (any-In (joins_corners u w) (sides R.kind a) h)
  where
    go : (s : Side) → In s (sides R.kind a) → (step_along s ≡ (u, w)) ⊎ (step_along s ≡ (w, u)) → In (u, w) (steps_round R.kind a) ⊎ In (w, u) (steps_round R.kind a)
    go s i (inl same) = inl (subst (λ (d : Step). In d (steps_round R.kind a)) same (In-map step_along s (sides R.kind a) i))
    go s i (inr same) = inr (subst (λ (d : Step). In d (steps_round R.kind a)) same (In-map step_along s (sides R.kind a) i))

    start : (s : Side) × In s (sides R.kind a) × (joins_corners u w s ≡ true) → In (u, w) (steps_round R.kind a) ⊎ In (w, u) (steps_round R.kind a)
    start (s, i, j) = go s i (step-joins u w s j)

-- so it is the step of a tile whose two cells have the edge in common
step-among : (R : Region) (t : Tile) → TileParts R t → (e : Step) → In e (steps_round R.kind t.first) → In e (steps_round R.kind t.second) → (u v : Corner)
    → (has_edge R.kind t.first u v && has_edge R.kind t.second u v) ≡ true → (e ≡ (u, v)) ⊎ (e ≡ (v, u))
step-among R t p e i j u v h = go (edge-either R t.first u v (and_parts _ _ h).0) (edge-either R t.second u v (and_parts _ _ h).1)
  where
    one : (d : Step) → In d (steps_round R.kind t.first) → In d (steps_round R.kind t.second) → e ≡ d
    one d k l = step-one R.kind t.first t.second e d p.differ i j k l

    go : In (u, v) (steps_round R.kind t.first) ⊎ In (v, u) (steps_round R.kind t.first) → In (u, v) (steps_round R.kind t.second) ⊎ In (v, u) (steps_round R.kind t.second)
        → (e ≡ (u, v)) ⊎ (e ≡ (v, u))
    go (inl k) (inl l) = inl (one (u, v) k l)
    go (inr k) (inr l) = inr (one (v, u) k l)
    go (inl k) (inr l) = absurd (step-one_way R.kind u v (round-step R.kind t.first (u, v) k) (round-step R.kind t.second (v, u) l))
    go (inr k) (inl l) = absurd (step-one_way R.kind u v (round-step R.kind t.second (u, v) l) (round-step R.kind t.first (v, u) k))

module _ (R : Region) (A : List Tile) (tiling : TilingParts R A) (v : Corner) (inner : is_inner R v ≡ true) where
  at-claims : (t : Tile) → TileParts R t
      → Claims R.cells (λ s. not (tile_eq t s)) (λ u w. not (has_edge R.kind t.first u w && has_edge R.kind t.second u w)) v R.kind
  at-claims t p =
      claims R.cells (λ s. not (tile_eq t s)) (λ u w. not (has_edge R.kind t.first u w && has_edge R.kind t.second u w)) v R.kind
      (λ w x y g e f. let q = dart-step-out R v w x y g e f in ap not (tile-edge R A tiling t p x y (v, w) (colours-differ x y e f) q.0 q.1))
      (λ w x y g e f. let q = dart-step-in R v w x y g e f in ap not (tile-edge R A tiling t p x y (w, v) (λ same. colours-differ y x f e (sym same)) q.0 q.1))
      (and_parts _ _ inner).0 (inner-ring R v inner)

  none-same : (t : Tile) (ts : List Tile) → In t ts → list_all (λ s. not (tile_eq t s)) ts ≡ true → ⊥
  none-same t ts i all =
      let no_t : not (tile_eq t t) ≡ true = In-list_all (λ s. not (tile_eq t s)) ts t all i in
      let yes_t : tile_eq t t ≡ true = and_from _ _ (cell_eq-refl t.first) (cell_eq-refl t.second) in
      cc (no_t, yes_t)

  pub lo-at : (t : Tile) (e : Step) → TileParts R t → In t (lo R.kind v) → In e (steps_round R.kind t.first) → In e (steps_round R.kind t.second) → (e.0 ≡ v) ⊎ (e.1 ≡ v)
  lo-at t e p i j k =
      go (not-all (λ u. has_edge R.kind t.first u v && has_edge R.kind t.second u v) (present (steps_in R.kind v)) (λ all. none-same t (lo R.kind v) i ((at-claims t p).1 ∙ all)))
    where
      go : (u : Corner) × In u (present (steps_in R.kind v)) × ((has_edge R.kind t.first u v && has_edge R.kind t.second u v) ≡ true) → (e.0 ≡ v) ⊎ (e.1 ≡ v)
      go (u, l, h) = elim (step-among R t p e j k u v h) [ inl same ↦ inr (ap (λ (d : Step). d.1) same) | inr same ↦ inl (ap (λ (d : Step). d.0) same) ]

  pub hi-at : (t : Tile) (e : Step) → TileParts R t → In t (hi R.kind v) → In e (steps_round R.kind t.first) → In e (steps_round R.kind t.second) → (e.0 ≡ v) ⊎ (e.1 ≡ v)
  hi-at t e p i j k =
      go (not-all (λ w. has_edge R.kind t.first v w && has_edge R.kind t.second v w) (present (steps_out R.kind v)) (λ all. none-same t (hi R.kind v) i ((at-claims t p).0 ∙ all)))
    where
      go : (w : Corner) × In w (present (steps_out R.kind v)) × ((has_edge R.kind t.first v w && has_edge R.kind t.second v w) ≡ true) → (e.0 ≡ v) ⊎ (e.1 ≡ v)
      go (w, l, h) = elim (step-among R t p e j k v w h) [ inl same ↦ inl (ap (λ (d : Step). d.0) same) | inr same ↦ inr (ap (λ (d : Step). d.1) same) ]

-- ---- heights changed at one corner

module _ (R : Region) (A B : List Tile) (numbers others : List ℤ) (v : Corner) (more : ℤ) (accepted : Accepted R)
    (a_tiling : IsTrue (is_tiling R A)) (b_tiling : IsTrue (is_tiling R B)) (a_heights : AreHeights R A numbers) (b_heights : AreHeights R B others)
    (inner : is_inner R v ≡ true) (changed : IsChangedAt R numbers others v more) where
  parts_a : TilingParts R A
  parts_a = tiling-parts R A a_tiling

  parts_b : TilingParts R B
  parts_b = tiling-parts R B b_tiling

  away : (c : Cell) (e : Step) → In c R.cells → In e (steps_round R.kind c) → corner_eq e.0 v ≡ false → corner_eq e.1 v ≡ false → is_crossed R A e ≡ is_crossed R B e
  away c e i j p q =
      let step : IsTrue (is_step R e.0 e.1) = is_step-from R c e.0 e.1 i j in
      let from : height R others e.0 ≡ height R numbers e.0 = changed.elsewhere e.0 (step-ends R e.0 e.1 step).0 p in
      let to : height R others e.1 ≡ height R numbers e.1 = changed.elsewhere e.1 (step-ends R e.0 e.1 step).1 q in
      crossed-told R.kind (height R numbers e.0) (height R numbers e.1) (is_crossed R A e) (a_heights.along e.0 e.1 step)
      ∙ (sym (same_lt (height R others e.0) (height R others e.1) (height R numbers e.0) (height R numbers e.1) from to)
      ∙ sym (crossed-told R.kind (height R others e.0) (height R others e.1) (is_crossed R B e) (b_heights.along e.0 e.1 step)))
    where
      same_lt : (x y x' y' : ℤ) → x ≡ x' → y ≡ y' → int_lt y x ≡ int_lt y' x'
      same_lt x y x' y' f g = λ i. int_lt (g i) (f i)

  pub apart : (u w : Corner) → IsTrue (is_step R u w) → corner_eq u w ≡ false
  apart u w e = false_from_ne_true (corner_eq u w) (λ h.
      let same : u ≡ w = corner_eq-same u w h in
      let here : IsTrue (is_step R u u) = subst (λ (x : Corner). IsTrue (is_step R u x)) (sym same) e in
      step-one_way R.kind u u (step-out R u u here) (step-out R u u here))

  pub apart-back : (u w : Corner) → IsTrue (is_step R u w) → corner_eq w u ≡ false
  apart-back u w e = false_from_ne_true (corner_eq w u) (λ h.
      let same : w ≡ u = corner_eq-same w u h in
      let here : IsTrue (is_step R u u) = subst (λ (x : Corner). IsTrue (is_step R u x)) same e in
      step-one_way R.kind u u (step-out R u u here) (step-out R u u here))

  all-yes : {X : Type 0} (t : Bool) (xs : List X) → t ≡ true → list_all (λ x. t) xs ≡ true
  all-yes t xs e = list_all-In (λ x. t) xs (λ z i. e)

  -- B crosses all steps from the corner and none to it
  new-high : ((w : Corner) → IsTrue (is_step R v w) → is_crossed R B (v, w) ≡ true) → ((u : Corner) → IsTrue (is_step R u v) → is_crossed R B (u, v) ≡ false)
      → list_all (is_in B) (hi R.kind v) ≡ true
  new-high out into =
      (claims R.cells (is_in B) (λ u w. corner_eq u v) v R.kind
      (λ w x y g e f.
      let q = dart-step-out R v w x y g e f in
      dart-out R B parts_b v w x y g e f ∙ (out w (is_step-from R x v w g.inside q.0) ∙ sym (corner_eq-refl v)))
      (λ w x y g e f.
      let q = dart-step-in R v w x y g e f in
      let step : IsTrue (is_step R w v) = is_step-from R x w v g.inside q.0 in
      dart-in R B parts_b v w x y g e f ∙ (into w step ∙ sym (apart w v step)))
      (and_parts _ _ inner).0 (inner-ring R v inner)).0
      ∙ all-yes (corner_eq v v) (present (steps_out R.kind v)) (corner_eq-refl v)

  new-low : ((w : Corner) → IsTrue (is_step R v w) → is_crossed R B (v, w) ≡ false) → ((u : Corner) → IsTrue (is_step R u v) → is_crossed R B (u, v) ≡ true)
      → list_all (is_in B) (lo R.kind v) ≡ true
  new-low out into =
      (claims R.cells (is_in B) (λ u w. corner_eq w v) v R.kind
      (λ w x y g e f.
      let q = dart-step-out R v w x y g e f in
      let step : IsTrue (is_step R v w) = is_step-from R x v w g.inside q.0 in
      dart-out R B parts_b v w x y g e f ∙ (out w step ∙ sym (apart-back v w step)))
      (λ w x y g e f.
      let q = dart-step-in R v w x y g e f in
      dart-in R B parts_b v w x y g e f ∙ (into w (is_step-from R x w v g.inside q.0) ∙ sym (corner_eq-refl v)))
      (and_parts _ _ inner).0 (inner-ring R v inner)).1
      ∙ all-yes (corner_eq v v) (present (steps_in R.kind v)) (corner_eq-refl v)

  pub is-put_high : IsTrue (stands_low R A v) → ((w : Corner) → IsTrue (is_step R v w) → is_crossed R B (v, w) ≡ true)
      → ((u : Corner) → IsTrue (is_step R u v) → is_crossed R B (u, v) ≡ false) → B ≡ put_high R A v
  is-put_high low out into =
      exchanged R accepted.placed A B parts_a parts_b v (lo R.kind v) (hi R.kind v) (and_parts _ _ low).1 (new-high out into)
      (λ c i. lo-covers R v inner c i) (λ c i. hi-covers R v inner c i) (λ t e p i j k. lo-at R A parts_a v inner t e p i j k) away

  pub is-put_low : IsTrue (stands_high R A v) → ((w : Corner) → IsTrue (is_step R v w) → is_crossed R B (v, w) ≡ false)
      → ((u : Corner) → IsTrue (is_step R u v) → is_crossed R B (u, v) ≡ true) → B ≡ put_low R A v
  is-put_low high out into =
      exchanged R accepted.placed A B parts_a parts_b v (hi R.kind v) (lo R.kind v) (and_parts _ _ high).1 (new-low out into)
      (λ c i. hi-covers R v inner c i) (λ c i. lo-covers R v inner c i) (λ t e p i j k. hi-at R A parts_a v inner t e p i j k) away
