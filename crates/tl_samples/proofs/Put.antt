-- Putting a tiling high or low at a corner. Where it stands so already nothing changes, and where it stands the other
-- way the result is a tiling.
use Rattle.std.proofs.Common.{◌≡◌, ◌⊎◌, inl, inr, Bool, true, false, not, ◌&&◌, ◌||◌, List, cond, refl, sym, ◌∙◌, ap, subst}
use Rattle.std.specs.Prelude.{IsTrue, ◌==◌, count_by}
use Rattle.std.specs.List.{list_any, list_all}
use Rattle.std.proofs.lemmas.Bool.{and_parts, and_from, or_cases, or_left, or_right, not-true, false_from_ne_true, eq-eqb}
use Rattle.tl_definitions.specs.declared.Cell.{Cell}
use Rattle.tl_definitions.specs.declared.Corner.{Corner}
use Rattle.tl_definitions.specs.declared.Tile.{Tile}
use Rattle.tl_definitions.specs.Lattice.{corner_eq, corners}
use Rattle.tl_definitions.specs.Region.{Region, is_inner}
use Rattle.tl_definitions.specs.Accepted.{IsPlaced}
use Rattle.tl_lists.specs.Lists.{linked}
use Rattle.tl_definitions.specs.Tiling.{tile_lt, is_tile, is_in, tiles, covers, is_tiling}
use Rattle.tl_definitions.specs.Flip.{hi, lo, stands_high, stands_low, can_flip, exchange, put_high, put_low, flip}
use Rattle.tl_definitions.specs.Sweep.{step}
use Rattle.tl_lists.proofs.Members.{In, In-filter, In-any_of, any-In, In-list_all, list_all-In, In-filter_parts}
use Rattle.tl_definitions.proofs.Tiles.{In-tiles, tile_lt-irreflexive, tile_lt-transitive}
use Rattle.tl_lists.proofs.Orders.{linked-filter, linked-same, count_by-only}
use Rattle.tl_lists.proofs.Counts.{Only}
use Rattle.tl_definitions.proofs.Corners.{corner_eq-same, corner_eq-refl}
use Rattle.tl_definitions.proofs.Tilings.{TilingParts, tiling-parts}
use Rattle.tl_closing.proofs.Stated.{covers-cases, covers-from, hi-covers, lo-covers, is_in-In, In-is_in, tiles-linked}
use Rattle.tl_samples.proofs.Around.{IsAround, hi-around, lo-around}

module _ (R : Region) (placed : IsPlaced R) (A : List Tile) (tiling : is_tiling R A ≡ true) where
  parts : TilingParts R A
  parts = tiling-parts R A tiling

  tile-of : (t : Tile) → In t A → is_tile R t ≡ true
  tile-of t i = In-list_all (is_tile R) A t (and_parts (linked tile_lt A) (list_all (is_tile R) A) (and_parts (linked tile_lt A && list_all (is_tile R) A) _ tiling).0).1 i

  -- two tiles of the tiling that cover one cell are the same
  one-tile : (s t : Tile) (c : Cell) → In c R.cells → In s A → In t A → covers s c ≡ true → covers t c ≡ true → s ≡ t
  one-tile s t c i j k h l = go (parts.covered c i)
    where
      go : (x : Tile) × Only (λ y. covers y c) A x → s ≡ t
      go (x, o) = o.only s j h ∙ sym (o.only t k l)

  -- where tiles of the tiling cover all cells at a corner, these are cells of the region
  whole-from : (v : Corner) (ts : List Tile) → list_all (is_in A) ts ≡ true → ((c : Cell) → In v (corners R.kind c) → (t : Tile) × In t ts × (covers t c ≡ true))
      → (c : Cell) → In v (corners R.kind c) → In c R.cells
  whole-from v ts all covered c i = go (covered c i)
    where
      of : (t : Tile) → In t A → (c ≡ t.first) ⊎ (c ≡ t.second) → In c R.cells
      of t j (inl same) = subst (λ (x : Cell). In x R.cells) (sym same) (parts.tiles t j).first
      of t j (inr same) = subst (λ (x : Cell). In x R.cells) (sym same) (parts.tiles t j).second

      go : (t : Tile) × In t ts × (covers t c ≡ true) → In c R.cells
      go (t, j, h) = of t (is_in-In A t (In-list_all (is_in A) ts t all j)) (covers-cases t c h)

  abbrev exchanges : List Tile → List Tile → Tile → Bool
  exchanges out new t = (is_in A t && not (is_in out t)) || is_in new t

  -- a tile of the exchange is a new one, or one of the tiling that is not put out
  exchange-cases : (out new : List Tile) (t : Tile) → In t (exchange R A out new) → (In t A × (In t out → ⊥)) ⊎ In t new
  exchange-cases out new t i = go (or_cases (is_in A t && not (is_in out t)) _ (In-filter_parts (exchanges out new) t (tiles R) i).1)
    where
      go : ((is_in A t && not (is_in out t)) ≡ true) ⊎ (is_in new t ≡ true) → (In t A × (In t out → ⊥)) ⊎ In t new
      go (inl h) =
          let p = and_parts (is_in A t) (not (is_in out t)) h in
          inl (is_in-In A t p.0, λ j. cc (In-is_in out t j, not-true (is_in out t) p.1))
      go (inr h) = inr (is_in-In new t h)

  exchange-kept : (out new : List Tile) (t : Tile) → In t A → (In t out → ⊥) → In t (exchange R A out new)
  exchange-kept out new t i stays =
      In-filter (exchanges out new) t (tiles R)
      (or_left (is_in A t && not (is_in out t)) _ (and_from _ _ (In-is_in A t i) (ap not (false_from_ne_true (is_in out t) (λ h. stays (is_in-In out t h))))))
      (In-tiles R t (tile-of t i))

  exchange-new : (out new : List Tile) (t : Tile) → is_tile R t ≡ true → In t new → In t (exchange R A out new)
  exchange-new out new t tile i = In-filter (exchanges out new) t (tiles R) (or_right (is_in A t && not (is_in out t)) _ (In-is_in new t i)) (In-tiles R t tile)

  exchange-linked : (out new : List Tile) → linked tile_lt (exchange R A out new) ≡ true
  exchange-linked out new = linked-filter tile_lt tile_lt-irreflexive tile_lt-transitive (exchanges out new) (tiles R) (tiles-linked R placed)

  module _ (v : Corner) (out new : List Tile) (out_around : IsAround R v out) (new_around : IsAround R v new)
      (whole : (c : Cell) → In v (corners R.kind c) → In c R.cells) where
    -- where the new tiles are those of the tiling, nothing changes
    pub exchange-same : list_all (is_in A) new ≡ true → exchange R A out new ≡ A
    exchange-same stand = linked-same tile_lt tile_lt-irreflexive tile_lt-transitive (exchange R A out new) A (exchange-linked out new) parts.order to from
      where
        new-in : (t : Tile) → In t new → In t A
        new-in t i = is_in-In A t (In-list_all (is_in A) new t stand i)

        to : (t : Tile) → In t (exchange R A out new) → In t A
        to t i = elim (exchange-cases out new t i) [ inl p ↦ p.0 | inr j ↦ new-in t j ]

        -- a tile of the tiling that is to be put out is one of the new ones
        stays : (t : Tile) → In t A → In t out → In t new
        stays t i j = go (new_around.covered t.first at)
          where
            at : In v (corners R.kind t.first)
            at = out_around.at t t.first j (covers-from t t.first (inl refl))

            go : (s : Tile) × In s new × (covers s t.first ≡ true) → In t new
            go (s, k, h) = subst (λ (x : Tile). In x new) (one-tile s t t.first (whole t.first at) (new-in s k) i h (covers-from t t.first (inl refl))) k

        from : (t : Tile) → In t A → In t (exchange R A out new)
        from t i = go (is_in out t) refl
          where
            go : (b : Bool) → is_in out t ≡ b → In t (exchange R A out new)
            go true h = exchange-new out new t (tile-of t i) (stays t i (is_in-In out t h))
            go false h = exchange-kept out new t i (λ j. cc (h, In-is_in out t j))

    -- where those that are put out are tiles of the tiling, the result is a tiling
    pub exchange-tiling : list_all (is_in A) out ≡ true → is_tiling R (exchange R A out new) ≡ true
    exchange-tiling stand =
        and_from _ _ (and_from _ _ (exchange-linked out new) (list_all-In (is_tile R) (exchange R A out new) tile))
        (list_all-In (λ c. count_by (λ t. covers t c) (exchange R A out new) == 1) R.cells (λ c i. eq-eqb _ _ (once c i)))
      where
        tile : (t : Tile) → In t (exchange R A out new) → is_tile R t ≡ true
        tile t i = elim (exchange-cases out new t i) [ inl p ↦ tile-of t p.0 | inr j ↦ new_around.tile t j ]

        only : (c : Cell) (t : Tile) → In t (exchange R A out new) → covers t c ≡ true → ((s : Tile) → In s (exchange R A out new) → covers s c ≡ true → s ≡ t)
            → count_by (λ t. covers t c) (exchange R A out new) ≡ 1
        only c t i h same = count_by-only tile_lt tile_lt-irreflexive tile_lt-transitive (λ t. covers t c) (exchange R A out new) t (exchange-linked out new) i h same

        -- a cell at the corner stands in a new tile, and another cell in its old one
        once : (c : Cell) → In c R.cells → count_by (λ t. covers t c) (exchange R A out new) ≡ 1
        once c i = go (list_any (corner_eq v) (corners R.kind c)) refl
          where
            at-corner : (t : Tile) × In t new × (covers t c ≡ true) → (o : Tile) × In o out × (covers o c ≡ true) → count_by (λ t. covers t c) (exchange R A out new) ≡ 1
            at-corner (t, j, h) (o, k, l) = only c t (exchange-new out new t (new_around.tile t j) j) h same
              where
                same : (s : Tile) → In s (exchange R A out new) → covers s c ≡ true → s ≡ t
                same s m p = cases (exchange-cases out new s m)
                  where
                    cases : (In s A × (In s out → ⊥)) ⊎ In s new → s ≡ t
                    cases (inl q) = absurd (q.1 (subst (λ (x : Tile). In x out) (one-tile o s c i (is_in-In A o (In-list_all (is_in A) out o stand k)) q.0 l p) k))
                    cases (inr q) = new_around.once s t c q j p h

            elsewhere : (In v (corners R.kind c) → ⊥) → (t : Tile) × Only (λ s. covers s c) A t → count_by (λ t. covers t c) (exchange R A out new) ≡ 1
            elsewhere off (t, o) = only c t (exchange-kept out new t o.inside (λ j. off (out_around.at t c j o.passes))) o.passes same
              where
                same : (s : Tile) → In s (exchange R A out new) → covers s c ≡ true → s ≡ t
                same s m p = elim (exchange-cases out new s m) [ inl q ↦ o.only s q.0 p | inr q ↦ absurd (off (new_around.at s c q p)) ]

            found : (w : Corner) × In w (corners R.kind c) × (corner_eq v w ≡ true) → In v (corners R.kind c)
            found (w, j, h) = subst (λ (x : Corner). In x (corners R.kind c)) (sym (corner_eq-same v w h)) j

            go : (b : Bool) → list_any (corner_eq v) (corners R.kind c) ≡ b → count_by (λ t. covers t c) (exchange R A out new) ≡ 1
            go true h = let at : In v (corners R.kind c) = found (any-In (corner_eq v) (corners R.kind c) h) in at-corner (new_around.covered c at) (out_around.covered c at)
            go false h = elsewhere (λ j. cc (h, In-any_of (corner_eq v) v (corners R.kind c) j (corner_eq-refl v))) (parts.covered c i)

module _ (R : Region) (A : List Tile) (v : Corner) (placed : IsPlaced R) (tiling : IsTrue (is_tiling R A)) where
  parts_a : TilingParts R A
  parts_a = tiling-parts R A tiling

  -- the tiles of hi and of lo, where the tiling has all of a list that covers the cells at the corner
  abbrev AreAround : Type 0
  AreAround = IsAround R v (hi R.kind v) × IsAround R v (lo R.kind v) × ((c : Cell) → In v (corners R.kind c) → In c R.cells)

  around : is_inner R v ≡ true → (ts : List Tile) → list_all (is_in A) ts ≡ true → ((c : Cell) → In v (corners R.kind c) → (t : Tile) × In t ts × (covers t c ≡ true)) → AreAround
  around inner ts all covered =
      let whole : (c : Cell) → In v (corners R.kind c) → In c R.cells = whole-from R placed A tiling v ts all covered in
      (hi-around R A parts_a v inner whole, lo-around R A parts_a v inner whole, whole)

  high-around : IsTrue (stands_high R A v) → AreAround
  high-around high = let p = and_parts (is_inner R v) (list_all (is_in A) (hi R.kind v)) high in around p.0 (hi R.kind v) p.1 (hi-covers R v p.0)

  low-around : IsTrue (stands_low R A v) → AreAround
  low-around low = let p = and_parts (is_inner R v) (list_all (is_in A) (lo R.kind v)) low in around p.0 (lo R.kind v) p.1 (lo-covers R v p.0)

  pub put_high-stands_high : IsTrue (stands_high R A v) → put_high R A v ≡ A
  put_high-stands_high high =
      let p = high-around high in
      exchange-same R placed A tiling v (lo R.kind v) (hi R.kind v) p.1 p.0 p.2 (and_parts (is_inner R v) (list_all (is_in A) (hi R.kind v)) high).1

  pub put_low-stands_low : IsTrue (stands_low R A v) → put_low R A v ≡ A
  put_low-stands_low low =
      let p = low-around low in
      exchange-same R placed A tiling v (hi R.kind v) (lo R.kind v) p.0 p.1 p.2 (and_parts (is_inner R v) (list_all (is_in A) (lo R.kind v)) low).1

  pub put_high-tiling : IsTrue (can_flip R A v) → IsTrue (is_tiling R (put_high R A v))
  put_high-tiling can = go (or_cases (stands_high R A v) (stands_low R A v) can)
    where
      go : (stands_high R A v ≡ true) ⊎ (stands_low R A v ≡ true) → IsTrue (is_tiling R (put_high R A v))
      go (inl high) = subst (λ (B : List Tile). IsTrue (is_tiling R B)) (sym (put_high-stands_high high)) tiling
      go (inr low) =
          let p = low-around low in
          exchange-tiling R placed A tiling v (lo R.kind v) (hi R.kind v) p.1 p.0 p.2 (and_parts (is_inner R v) (list_all (is_in A) (lo R.kind v)) low).1

  pub put_low-tiling : IsTrue (can_flip R A v) → IsTrue (is_tiling R (put_low R A v))
  put_low-tiling can = go (or_cases (stands_high R A v) (stands_low R A v) can)
    where
      go : (stands_high R A v ≡ true) ⊎ (stands_low R A v ≡ true) → IsTrue (is_tiling R (put_low R A v))
      go (inl high) =
          let p = high-around high in
          exchange-tiling R placed A tiling v (hi R.kind v) (lo R.kind v) p.0 p.1 p.2 (and_parts (is_inner R v) (list_all (is_in A) (hi R.kind v)) high).1
      go (inr low) = subst (λ (B : List Tile). IsTrue (is_tiling R B)) (sym (put_low-stands_low low)) tiling

  pub flip-tiling : IsTrue (can_flip R A v) → IsTrue (is_tiling R (flip R A v))
  flip-tiling can = go (stands_high R A v)
    where
      go : (b : Bool) → IsTrue (is_tiling R (cond b (put_low R A v) (put_high R A v)))
      go true = put_low-tiling can
      go false = put_high-tiling can

  -- a step puts the tiling high or low only where it stands one way or the other
  pub step-tiling : (b : Bool) → IsTrue (is_tiling R (step R A v b))
  step-tiling b = go (can_flip R A v) refl b
    where
      go : (can : Bool) → can_flip R A v ≡ can → (b : Bool) → IsTrue (is_tiling R (cond can (cond b (put_high R A v) (put_low R A v)) A))
      go true e true = put_high-tiling e
      go true e false = put_low-tiling e
      go false e b = tiling
