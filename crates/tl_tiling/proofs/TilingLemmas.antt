-- What a tiling is to its cells, and that its partners determine it.
use Rattle.std.proofs.Common.{◌≡◌, ℕ, ◌⊎◌, inl, inr, Bool, true, false, not, ◌||◌, List, [], ◌∷◌, cond, refl, sym, ◌∙◌, ap, subst, Option, Some, None}
use Rattle.std.specs.Prelude.{find, option_map, option_and_then, ◌==◌}
use Rattle.std.proofs.lemmas.Bool.{and_from, or_cases, or_left, or_right}
use Rattle.tl_definitions.specs.declared.Cell.{Cell}
use Rattle.tl_definitions.specs.declared.Tile.{Tile}
use Rattle.tl_definitions.specs.Lattice.{cell_eq, cell_lt, are_neighbours, is_cell, left, right, above, below}
use Rattle.tl_definitions.specs.Region.{Region, has}
use Rattle.tl_formats.specs.RegionText.{byte_at, is_blank}
use Rattle.tl_definitions.specs.Tiling.{tile_lt, covers, is_tiling, other_cell, partner}
use Rattle.tl_formats.specs.Drawing.{is_letter, named, named_at, Draws, is_allowed, is_answered, is_matched, first_unmatched, drawing_refusal}
use Rattle.tl_definitions.proofs.Cells.{cell_eq-same, In-any, cell_eq-refl, cell_lt-irreflexive, cell_lt-transitive, In-has}
use Rattle.tl_lists.proofs.Tests.{some_same}
use Rattle.tl_definitions.proofs.Neighbours.{neighbours-back, neighbours-differ}
use Rattle.tl_definitions.proofs.Tiles.{tile_lt-irreflexive, tile_lt-transitive}
use Rattle.tl_lists.proofs.Members.{In}
use Rattle.tl_lists.proofs.Orders.{linked-same}
use Rattle.tl_lists.proofs.Searches.{find-only, none-find}
use Rattle.tl_lists.proofs.Counts.{Only}
use Rattle.tl_definitions.proofs.Partners.{IsMatched, AreMatched}
use Rattle.tl_formats.proofs.Drawings.{AgreeOn, refused-none, first_unmatched-same}
use Rattle.tl_definitions.proofs.Tilings.{TileParts, TilingParts, tiling-parts}

module _ (R : Region) (A : List Tile) (tiling : TilingParts R A) where
  -- the tile that covers a cell is the one that is found
  found : (t : Tile) (a : Cell) → In t A → covers t a ≡ true → has R a ≡ true → find (λ s. covers s a) A ≡ Some t
  found t a i c h =
      let (u, o) = tiling.covered a (In-any a R.cells h) in
      find-only (λ s. covers s a) A t i c (λ s j d. o.only s j d ∙ sym (o.only t i c))

  first_other : (t : Tile) → other_cell t t.first ≡ t.second
  first_other t = rw (cell_eq-refl t.first) refl

  second_other : (t : Tile) → TileParts R t → other_cell t t.second ≡ t.first
  second_other t p = rw (neighbours-differ R.kind t.first t.second p.near) refl

  -- each cell of a tile has the other one as its partner
  pub partner-first : (t : Tile) → In t A → partner A t.first ≡ Some t.second
  partner-first t i =
      ap (λ (o : Option Tile). option_map (λ s. other_cell s t.first) o) (found t t.first i (or_left _ _ (cell_eq-refl t.first)) (In-has t.first R.cells (tiling.tiles t i).first))
      ∙ ap (λ (c : Cell). Some c) (first_other t)

  pub partner-second : (t : Tile) → In t A → partner A t.second ≡ Some t.first
  partner-second t i =
      ap (λ (o : Option Tile). option_map (λ s. other_cell s t.second) o)
      (found t t.second i (or_right (cell_eq t.first t.second) _ (cell_eq-refl t.second)) (In-has t.second R.cells (tiling.tiles t i).second))
      ∙ ap (λ (c : Cell). Some c) (second_other t (tiling.tiles t i))

  -- a tiling matches each cell with its partner
  pub tiling-matched : AreMatched R (partner A)
  tiling-matched a h = go (tiling.covered a (In-any a R.cells h))
    where
      go : (t : Tile) × Only (λ s. covers s a) A t → IsMatched R (partner A) a
      go (t, o) = at (tiling.tiles t o.inside) (or_cases (cell_eq t.first a) _ o.passes)
        where
          at : TileParts R t → (cell_eq t.first a ≡ true) ⊎ (cell_eq t.second a ≡ true) → IsMatched R (partner A) a
          at p (inl e) =
              subst (IsMatched R (partner A)) (cell_eq-same t.first a e)
              (t.second, partner-first t o.inside, In-has t.second R.cells p.second, p.near, partner-second t o.inside)
          at p (inr e) =
              subst (IsMatched R (partner A)) (cell_eq-same t.second a e)
              (t.first, partner-second t o.inside, In-has t.first R.cells p.first, neighbours-back R.kind t.first t.second p.near, partner-first t o.inside)

  -- another place has none
  pub partner-outside : (a : Cell) → has R a ≡ false → partner A a ≡ None
  partner-outside a h = ap (λ (o : Option Tile). option_map (λ s. other_cell s a) o) (none-find (λ s. covers s a) A none)
    where
      none : (t : Tile) → In t A → covers t a ≡ true → ⊥
      none t i c = go (or_cases (cell_eq t.first a) _ c)
        where
          go : (cell_eq t.first a ≡ true) ⊎ (cell_eq t.second a ≡ true) → ⊥
          go (inl e) = cc (sym (In-has t.first R.cells (tiling.tiles t i).first), ap (has R) (cell_eq-same t.first a e), h)
          go (inr e) = cc (sym (In-has t.second R.cells (tiling.tiles t i).second), ap (has R) (cell_eq-same t.second a e), h)

-- a tile of a tiling is one of each tiling with the same partners
tile-in : (R : Region) (A B : List Tile) → TilingParts R A → TilingParts R B → AgreeOn R (partner A) (partner B) → (t : Tile) → In t A → In t B
tile-in R A B a b same t i = go (b.covered t.first (a.tiles t i).first)
  where
    to : partner B t.first ≡ Some t.second
    to = sym (same t.first (In-has t.first R.cells (a.tiles t i).first)) ∙ partner-first R A a t i

    go : (u : Tile) × Only (λ s. covers s t.first) B u → In t B
    go (u, o) = at (or_cases (cell_eq u.first t.first) _ o.passes)
      where
        at : (cell_eq u.first t.first ≡ true) ⊎ (cell_eq u.second t.first ≡ true) → In t B
        at (inl e) =
            let first : u.first ≡ t.first = cell_eq-same u.first t.first e in
            let second : u.second ≡ t.second = some_same u.second t.second (sym (partner-first R B b u o.inside) ∙ (ap (partner B) first ∙ to)) in
            subst (λ (s : Tile). In s B) (λ i. record { first = first i; second = second i }) o.inside
        at (inr e) =
            let second : u.second ≡ t.first = cell_eq-same u.second t.first e in
            let first : u.first ≡ t.second = some_same u.first t.second (sym (partner-second R B b u o.inside) ∙ (ap (partner B) second ∙ to)) in
            let turned : cell_lt t.second t.first ≡ true = subst (λ (c : Cell). cell_lt c t.first ≡ true) first (subst (λ (c : Cell). cell_lt u.first c ≡ true) second (b.tiles u o.inside).order) in
            absurd (cell_lt-irreflexive t.first (cell_lt-transitive t.first t.second t.first (a.tiles t i).order turned))

-- tilings with the same partners are the same
pub same-partners : (R : Region) (A B : List Tile) → is_tiling R A ≡ true → is_tiling R B ≡ true → AgreeOn R (partner A) (partner B) → A ≡ B
same-partners R A B p q same =
    let a : TilingParts R A = tiling-parts R A p in
    let b : TilingParts R B = tiling-parts R B q in
    linked-same tile_lt tile_lt-irreflexive tile_lt-transitive A B a.order b.order
    (λ t i. tile-in R A B a b same t i) (λ t i. tile-in R B A b a (λ c h. sym (same c h)) t i)

-- rows draw one tiling at most
pub draws-same : (R : Region) (rows : List (List ℕ)) (A B : List Tile) → Draws R rows A → Draws R rows B → A ≡ B
draws-same R rows A B a b = same-partners R A B a.tiling b.tiling (λ c h. sym (a.letters c h) ∙ b.letters c h)

-- ---- rows that draw a tiling aren't refused

find-no_other : {A : Type 0} (p : A → Bool) (xs : List A) → ((x : A) → In x xs → p x ≡ true) → find (λ x. not (p x)) xs ≡ None
find-no_other p [] all = refl
find-no_other {A} p (x ∷ xs) all = go (p x) (all x (inl refl)) (find-no_other p xs (λ y i. all y (inr i)))
  where
    go : (b : Bool) → b ≡ true → find (λ y. not (p y)) xs ≡ None → cond (not b) (Some x) (find (λ y. not (p y)) xs) ≡ None
    go true e ih = ih
    go false e ih = cc e

some-named : (o : Option ℕ) (a b : Cell) → option_and_then (λ n. named n a) o ≡ Some b → is_letter o ≡ true
some-named None a b e = cc e
some-named (Some n) a b e = go (n == 62) (n == 60) (n == 118) (n == 94) e
  where
    go : (s t u v : Bool) → cond s (right a) (cond t (left a) (cond u (below a) (cond v (above a) None))) ≡ Some b → (s || t || u || v) ≡ true
    go true t u v e = refl
    go false true u v e = refl
    go false false true v e = refl
    go false false false true e = refl
    go false false false false e = cc e

pub draws-not_refused : (R : Region) (rows : List (List ℕ)) (A : List Tile) → Draws R rows A → drawing_refusal R rows ≡ None
draws-not_refused R rows A d = refused-none R rows (find-no_other (is_allowed R rows) _ (λ a i. allowed a (has R a) refl)) unmatched
  where
    tiling : TilingParts R A
    tiling = tiling-parts R A d.tiling

    allowed : (a : Cell) (b : Bool) → has R a ≡ b → is_allowed R rows a ≡ true
    allowed a true h =
        let (b, to, in_R, near, back) = tiling-matched R A tiling a h in
        ap (λ (t : Bool). cond t (is_letter (byte_at rows a)) (is_blank (byte_at rows a))) h ∙ some-named (byte_at rows a) a b (d.letters a h ∙ to)
    allowed a false h = ap (λ (t : Bool). cond t (is_letter (byte_at rows a)) (is_blank (byte_at rows a))) h ∙ d.blanks a h

    answered : (a b : Cell) (f : Cell → Option Cell) → f a ≡ Some b → has R b ≡ true → are_neighbours R.kind a b ≡ true → f b ≡ Some a → is_matched R f a ≡ true
    answered a b f to in_R near back =
        ap (is_answered R f a) to
        ∙ and_from _ _ (and_from _ _ in_R near) (ap (is_cell a) back ∙ cell_eq-refl a)

    matched : (a : Cell) → In a R.cells → is_matched R (partner A) a ≡ true
    matched a i =
        let (b, to, in_R, near, back) = tiling-matched R A tiling a (In-has a R.cells i) in
        answered a b (partner A) to in_R near back

    unmatched : first_unmatched R rows ≡ None
    unmatched = first_unmatched-same R (named_at rows) (partner A) d.letters ∙ find-no_other (is_matched R (partner A)) R.cells matched
