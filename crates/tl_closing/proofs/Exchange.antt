-- Two tilings that cross the same steps but those at an inner corner, where one has all tiles of one way round it and
-- the other all of the other way, differ by the exchange of these tiles.
use Rattle.std.proofs.Common.{◌≡◌, ◌⊎◌, inl, inr, Bool, true, false, not, ◌&&◌, ◌||◌, List, cond, refl, sym, ◌∙◌, ap, subst}
use Rattle.std.specs.List.{list_all}
use Rattle.std.proofs.lemmas.Bool.{and_parts, and_from, or_cases, or_left, or_right, not-true, false_from_ne_true}
use Rattle.tl_definitions.specs.declared.Cell.{Cell}
use Rattle.tl_definitions.specs.declared.Corner.{Corner}
use Rattle.tl_definitions.specs.declared.Tile.{Tile}
use Rattle.tl_definitions.specs.Lattice.{corner_eq, cell_lt, corners}
use Rattle.tl_definitions.specs.Region.{Region}
use Rattle.tl_definitions.specs.Accepted.{IsPlaced}
use Rattle.tl_definitions.specs.Tiling.{tile_eq, tile_lt, is_tile, is_in, tiles, covers}
use Rattle.tl_definitions.specs.Flip.{exchange}
use Rattle.tl_definitions.proofs.Tiles.{In-tiles, tile_lt-irreflexive, tile_lt-transitive}
use Rattle.tl_definitions.proofs.Cells.{cell_eq-refl}
use Rattle.tl_lists.proofs.Members.{In, In-filter, In-any_of, any-In, In-list_all, In-filter_parts}
use Rattle.tl_lists.proofs.Orders.{linked-filter, linked-same}
use Rattle.tl_lists.proofs.Counts.{Only}
use Rattle.tl_definitions.proofs.Corners.{corner_eq-same, corner_eq-refl}
use Rattle.tl_definitions.proofs.Tilings.{TileParts, TilingParts, tile_eq-same}
use Rattle.tl_closing.specs.Closing.{steps_round}
use Rattle.tl_closing.proofs.Edges.{Step, In-has, round-corners}
use Rattle.tl_closing.proofs.Shared.{Share}
use Rattle.tl_closing.proofs.Crossed.{tile-step, is_crossed, covers-from}
use Rattle.tl_closing.proofs.Standing.{tile-crossed}
use Rattle.tl_closing.proofs.TilesInOrder.{tiles-linked}

pub is_in-In : (A : List Tile) (t : Tile) → is_in A t ≡ true → In t A
is_in-In A t e = go (any-In (tile_eq t) A e)
  where
    go : (s : Tile) × In s A × (tile_eq t s ≡ true) → In t A
    go (s, i, h) = subst (λ (x : Tile). In x A) (sym (tile_eq-same t s h)) i

pub In-is_in : (A : List Tile) (t : Tile) → In t A → is_in A t ≡ true
In-is_in A t i = In-any_of (tile_eq t) t A i (and_from _ _ (cell_eq-refl t.first) (cell_eq-refl t.second))

-- a tile is in a tiling where its step is crossed
in-crossed : (R : Region) (A : List Tile) → TilingParts R A → (t : Tile) (e : Step) → TileParts R t → In e (steps_round R.kind t.first) → In e (steps_round R.kind t.second)
    → is_in A t ≡ is_crossed R A e
in-crossed R A tiling t e p i j = ap (is_in A) (sym (ordered (cell_lt t.first t.second) p.order)) ∙ tile-crossed R A tiling t.first t.second e p.differ i j
  where
    ordered : (b : Bool) → b ≡ true → cond b (record { first = t.first; second = t.second }) (record { first = t.second; second = t.first }) ≡ t
    ordered true e = refl
    ordered false e = cc e

-- the step of a tile is at the corner
abbrev IsAt : Corner → Step → Type 0
IsAt v e = (e.0 ≡ v) ⊎ (e.1 ≡ v)

module _ (R : Region) (placed : IsPlaced R) (A B : List Tile) (a : TilingParts R A) (b : TilingParts R B) (v : Corner) (out new : List Tile)
    (out_in : list_all (is_in A) out ≡ true) (new_in : list_all (is_in B) new ≡ true)
    (out_covers : (c : Cell) → In v (corners R.kind c) → (s : Tile) × In s out × (covers s c ≡ true))
    (new_covers : (c : Cell) → In v (corners R.kind c) → (s : Tile) × In s new × (covers s c ≡ true))
    (out_at : (t : Tile) (e : Step) → TileParts R t → In t out → In e (steps_round R.kind t.first) → In e (steps_round R.kind t.second) → IsAt v e)
    (away : (c : Cell) (e : Step) → In c R.cells → In e (steps_round R.kind c) → corner_eq e.0 v ≡ false → corner_eq e.1 v ≡ false → is_crossed R A e ≡ is_crossed R B e) where
  -- where the step of a tile is at the corner, its first cell is one of the ring
  at-corner : (t : Tile) (e : Step) → In e (steps_round R.kind t.first) → IsAt v e → In v (corners R.kind t.first)
  at-corner t e i (inl same) = subst (λ (u : Corner). In u (corners R.kind t.first)) same (round-corners R.kind t.first e i).0
  at-corner t e i (inr same) = subst (λ (u : Corner). In u (corners R.kind t.first)) same (round-corners R.kind t.first e i).1

  -- a tile of a tiling that covers a cell which a tile of the list covers, all of which are in the tiling, is that one
  is-one-of : (C : List Tile) → TilingParts R C → (list : List Tile) → list_all (is_in C) list ≡ true → (t : Tile) → In t C → TileParts R t
      → (s : Tile) × In s list × (covers s t.first ≡ true) → In t list
  is-one-of C c list all t i p (s, j, h) = go (c.covered t.first p.first)
    where
      go : (x : Tile) × Only (λ y. covers y t.first) C x → In t list
      go (x, o) =
          let first : s ≡ x = o.only s (is_in-In C s (In-list_all (is_in C) list s all j)) h in
          let second : t ≡ x = o.only t i (covers-from t t.first (inl refl)) in
          subst (λ (y : Tile). In y list) (first ∙ sym second) j

  where-at : (e : Step) → IsAt v e ⊎ ((corner_eq e.0 v ≡ false) × (corner_eq e.1 v ≡ false))
  where-at e = go (corner_eq e.0 v) (corner_eq e.1 v) refl refl
    where
      go : (s t : Bool) → corner_eq e.0 v ≡ s → corner_eq e.1 v ≡ t → IsAt v e ⊎ ((corner_eq e.0 v ≡ false) × (corner_eq e.1 v ≡ false))
      go true t p q = inl (inl (corner_eq-same _ _ p))
      go false true p q = inl (inr (corner_eq-same _ _ q))
      go false false p q = inr (p, q)

  abbrev test : Tile → Bool
  test t = (is_in A t && not (is_in out t)) || is_in new t

  to : (t : Tile) → In t B → In t (exchange R A out new)
  to t i = with_step (b.tiles t i) (tile-step R t (b.tiles t i))
    where
      with_step : TileParts R t → Share R.kind t.first t.second → In t (exchange R A out new)
      with_step p (e, j, k) = In-filter test t (tiles R) (go (where-at e)) (In-tiles R t (tile-from p))
        where
          tile-from : TileParts R t → is_tile R t ≡ true
          tile-from q = and_from _ _ (and_from _ _ (and_from _ _ (In-has R t.first q.first) (In-has R t.second q.second)) q.order) q.near

          go : IsAt v e ⊎ ((corner_eq e.0 v ≡ false) × (corner_eq e.1 v ≡ false)) → test t ≡ true
          go (inl at) =
              or_right (is_in A t && not (is_in out t)) _ (In-is_in new t (is-one-of B b new new_in t i p (new_covers t.first (at-corner t e j at))))
          go (inr off) =
              or_left (is_in A t && not (is_in out t)) _
              (and_from _ _
              (in-crossed R A a t e p j k ∙ (away t.first e p.first j off.0 off.1 ∙ (sym (in-crossed R B b t e p j k) ∙ In-is_in B t i)))
              (ap not (false_from_ne_true (is_in out t) (λ h. no_out (out_at t e p (is_in-In out t h) j k)))))
            where
              no_out : IsAt v e → ⊥
              no_out (inl same) = cc (subst (λ (u : Corner). corner_eq u v ≡ true) (sym same) (corner_eq-refl v), off.0)
              no_out (inr same) = cc (subst (λ (u : Corner). corner_eq u v ≡ true) (sym same) (corner_eq-refl v), off.1)

  from : (t : Tile) → In t (exchange R A out new) → In t B
  from t i = either (or_cases (is_in A t && not (is_in out t)) _ (In-filter_parts test t (tiles R) i).1)
    where
      either : ((is_in A t && not (is_in out t)) ≡ true) ⊎ (is_in new t ≡ true) → In t B
      either (inr h) = is_in-In B t (In-list_all (is_in B) new t new_in (is_in-In new t h))
      either (inl h) = with_step (a.tiles t in_A) (tile-step R t (a.tiles t in_A))
        where
          in_A : In t A
          in_A = is_in-In A t (and_parts (is_in A t) (not (is_in out t)) h).0

          not_out : is_in out t ≡ false
          not_out = not-true (is_in out t) (and_parts (is_in A t) (not (is_in out t)) h).1

          with_step : TileParts R t → Share R.kind t.first t.second → In t B
          with_step p (e, j, k) = go (where-at e)
            where
              go : IsAt v e ⊎ ((corner_eq e.0 v ≡ false) × (corner_eq e.1 v ≡ false)) → In t B
              go (inl at) = cc (In-is_in out t (is-one-of A a out out_in t in_A p (out_covers t.first (at-corner t e j at))), not_out)
              go (inr off) =
                  is_in-In B t (in-crossed R B b t e p j k ∙ (sym (away t.first e p.first j off.0 off.1) ∙ (sym (in-crossed R A a t e p j k) ∙ In-is_in A t in_A)))

  pub exchanged : B ≡ exchange R A out new
  exchanged =
      linked-same tile_lt tile_lt-irreflexive tile_lt-transitive B (exchange R A out new) b.order
      (linked-filter tile_lt tile_lt-irreflexive tile_lt-transitive test (tiles R) (tiles-linked R placed)) to from
