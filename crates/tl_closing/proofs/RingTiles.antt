-- Each cell of a region at an inner corner is covered by a tile of hi there, and by one of lo.
use Rattle.std.proofs.Common.{◌≡◌, ℕ, ◌⊎◌, inl, inr, Bool, true, false, not, List, [], ◌∷◌, cond, refl, sym, ◌∙◌, ap, subst}
use Rattle.std.specs.List.{list_all}
use Rattle.std.proofs.lemmas.Bool.{and_parts, and_from}
use Rattle.tl_definitions.specs.declared.Kind.{Kind}
use Rattle.tl_definitions.specs.declared.Kind.TheVariants.{Square, Triangle}
use Rattle.tl_definitions.specs.declared.Cell.{Cell}
use Rattle.tl_definitions.specs.declared.Corner.{Corner}
use Rattle.tl_definitions.specs.declared.Tile.{Tile}
use Rattle.tl_definitions.specs.Lattice.{is_dark, corners, cell_lt, steps_out, side, sides, steps_in}
use Rattle.tl_definitions.specs.Region.{Region, is_inner}
use Rattle.tl_lists.specs.Lists.{present}
use Rattle.tl_definitions.specs.Tiling.{tile_of, covers}
use Rattle.tl_definitions.specs.Flip.{hi, lo}
use Rattle.tl_definitions.specs.Heights.{has_edge}
use Rattle.tl_lists.proofs.Tests.{same_test}
use Rattle.tl_lists.proofs.Members.{In, In-map, In-list_all}
use Rattle.tl_closing.specs.Closing.{step_along, steps_round}
use Rattle.tl_closing.proofs.Sides.{directed, left_step, other_steps, steps-table, corner_table, corners-table}
use Rattle.tl_definitions.proofs.Steps.{step-move, move-step_in}
use Rattle.tl_closing.proofs.Centres.{cell-two}
use Rattle.tl_closing.proofs.Crossed.{covers-cases, covers-from, edge-round, round-edge}
use Rattle.tl_closing.proofs.Edges.{Step, round-step}
use Rattle.tl_closing.proofs.Ring.{inner-ring}
use Rattle.tl_closing.proofs.Standing.{IsDart, claims, Claims, colours-differ}

-- the steps round a cell are a cycle: one begins at each corner of the cell, and one ends there
abbrev Begins : Corner → List Step → Type 0
Begins v es = (w : Corner) × In (v, w) es

abbrev Ends : Corner → List Step → Type 0
Ends v es = (u : Corner) × In (u, v) es

from-at : (v x w : Corner) → v ≡ x → ◌≡◌ {A = Step} (v, w) (x, w)
from-at v x w e = λ i. (e i, w)

to-at : (v x u : Corner) → v ≡ x → ◌≡◌ {A = Step} (u, v) (u, x)
to-at v x u e = λ i. (u, e i)

begins-table : (k : Kind) (t : Bool) (r c : ℕ) (v : Corner) → In v (corner_table k t r c) → Begins v (left_step k t r c ∷ other_steps k t r c) × Ends v (left_step k t r c ∷ other_steps k t r c)
begins-table Square true r c v (inl e) = ((_, inl (from-at v _ _ e)), (_, inr (inr (inr (inl (to-at v _ _ e))))))
begins-table Square true r c v (inr (inl e)) = ((_, inr (inr (inr (inl (from-at v _ _ e))))), (_, inr (inr (inl (to-at v _ _ e)))))
begins-table Square true r c v (inr (inr (inl e))) = ((_, inr (inl (from-at v _ _ e))), (_, inl (to-at v _ _ e)))
begins-table Square true r c v (inr (inr (inr (inl e)))) = ((_, inr (inr (inl (from-at v _ _ e)))), (_, inr (inl (to-at v _ _ e))))
begins-table Square true r c v (inr (inr (inr (inr none)))) = absurd none
begins-table Square false r c v (inl e) = ((_, inr (inr (inr (inl (from-at v _ _ e))))), (_, inl (to-at v _ _ e)))
begins-table Square false r c v (inr (inl e)) = ((_, inr (inr (inl (from-at v _ _ e)))), (_, inr (inr (inr (inl (to-at v _ _ e))))))
begins-table Square false r c v (inr (inr (inl e))) = ((_, inl (from-at v _ _ e)), (_, inr (inl (to-at v _ _ e))))
begins-table Square false r c v (inr (inr (inr (inl e)))) = ((_, inr (inl (from-at v _ _ e))), (_, inr (inr (inl (to-at v _ _ e)))))
begins-table Square false r c v (inr (inr (inr (inr none)))) = absurd none
begins-table Triangle true r c v (inl e) = ((_, inl (from-at v _ _ e)), (_, inr (inr (inl (to-at v _ _ e)))))
begins-table Triangle true r c v (inr (inl e)) = ((_, inr (inl (from-at v _ _ e))), (_, inl (to-at v _ _ e)))
begins-table Triangle true r c v (inr (inr (inl e))) = ((_, inr (inr (inl (from-at v _ _ e)))), (_, inr (inl (to-at v _ _ e))))
begins-table Triangle true r c v (inr (inr (inr none))) = absurd none
begins-table Triangle false r c v (inl e) = ((_, inr (inr (inl (from-at v _ _ e)))), (_, inl (to-at v _ _ e)))
begins-table Triangle false r c v (inr (inl e)) = ((_, inr (inl (from-at v _ _ e))), (_, inr (inr (inl (to-at v _ _ e)))))
begins-table Triangle false r c v (inr (inr (inl e))) = ((_, inl (from-at v _ _ e)), (_, inr (inl (to-at v _ _ e))))
begins-table Triangle false r c v (inr (inr (inr none))) = absurd none

pub round-begins : (k : Kind) (a : Cell) (v : Corner) → In v (corners k a) → Begins v (steps_round k a) × Ends v (steps_round k a)
round-begins k a v i =
    subst (λ (es : List Step). Begins v es × Ends v es) (sym (steps-table k a))
    (begins-table k (is_dark a) a.r a.c v (subst (λ (vs : List Corner). In v vs) (corners-table k a) i))

-- ---- covering

-- a tile covers the cells that have the step of its two cells
cover-edge : (k : Kind) (a x y : Cell) (e : Step) → (x ≡ y → ⊥) → In e (steps_round k x) → In e (steps_round k y) → covers (tile_of x y) a ≡ has_edge k a e.0 e.1
cover-edge k a x y e differ i j = same_test (covers (tile_of x y) a) (has_edge k a e.0 e.1) to from
  where
    cells : (t : Bool) → covers (cond t (record { first = x; second = y }) (record { first = y; second = x })) a ≡ true → (a ≡ x) ⊎ (a ≡ y)
    cells true h = covers-cases (record { first = x; second = y }) a h
    cells false h = elim (covers-cases (record { first = y; second = x }) a h) [ inl q ↦ inr q | inr q ↦ inl q ]

    back : (t : Bool) → (a ≡ x) ⊎ (a ≡ y) → covers (cond t (record { first = x; second = y }) (record { first = y; second = x })) a ≡ true
    back true h = covers-from (record { first = x; second = y }) a h
    back false (inl q) = covers-from (record { first = y; second = x }) a (inr q)
    back false (inr q) = covers-from (record { first = y; second = x }) a (inl q)

    to : covers (tile_of x y) a ≡ true → has_edge k a e.0 e.1 ≡ true
    to h = go (cells (cell_lt x y) h)
      where
        go : (a ≡ x) ⊎ (a ≡ y) → has_edge k a e.0 e.1 ≡ true
        go (inl q) = round-edge k a e (subst (λ (z : Cell). In e (steps_round k z)) (sym q) i)
        go (inr q) = round-edge k a e (subst (λ (z : Cell). In e (steps_round k z)) (sym q) j)

    from : has_edge k a e.0 e.1 ≡ true → covers (tile_of x y) a ≡ true
    from h = back (cell_lt x y) (cell-two k x y a e differ i j (edge-round k a e (round-step k x e i) h))

pub not-all : {A : Type 0} (p : A → Bool) (xs : List A) → (list_all (λ x. not (p x)) xs ≡ true → ⊥) → (x : A) × In x xs × (p x ≡ true)
not-all p [] no_all = absurd (no_all refl)
not-all {A} p (x ∷ xs) no_all = go (p x) refl (λ h. not-all p xs h)
  where
    go : (t : Bool) → p x ≡ t → ((list_all (λ y. not (p y)) xs ≡ true → ⊥) → (y : A) × In y xs × (p y ≡ true)) → (y : A) × In y (x ∷ xs) × (p y ≡ true)
    go true e ih = (x, inl refl, e)
    go false e ih = let (y, i, h) = ih (λ all. no_all (and_from _ _ (ap not e) all)) in (y, inr i, h)

pub dart-step-out : (R : Region) (v w : Corner) (a b : Cell) → IsDart R.cells R.kind v w a b → is_dark a ≡ true → is_dark b ≡ false → In (v, w) (steps_round R.kind a) × In (v, w) (steps_round R.kind b)
dart-step-out R v w a b g e f = (
  subst (λ (t : Bool). In (directed t v w) (steps_round R.kind a)) e (In-map step_along (side a v w) (sides R.kind a) g.first),
  subst (λ (t : Bool). In (directed t w v) (steps_round R.kind b)) f (In-map step_along (side b w v) (sides R.kind b) g.second),
)

pub dart-step-in : (R : Region) (v w : Corner) (a b : Cell) → IsDart R.cells R.kind v w a b → is_dark a ≡ false → is_dark b ≡ true → In (w, v) (steps_round R.kind a) × In (w, v) (steps_round R.kind b)
dart-step-in R v w a b g e f = (
  subst (λ (t : Bool). In (directed t v w) (steps_round R.kind a)) e (In-map step_along (side a v w) (sides R.kind a) g.first),
  subst (λ (t : Bool). In (directed t w v) (steps_round R.kind b)) f (In-map step_along (side b w v) (sides R.kind b) g.second),
)

module _ (R : Region) (v : Corner) (inner : is_inner R v ≡ true) where
  covering : (a : Cell) → Claims R.cells (λ s. not (covers s a)) (λ u w. not (has_edge R.kind a u w)) v R.kind
  covering a =
      claims R.cells (λ s. not (covers s a)) (λ u w. not (has_edge R.kind a u w)) v R.kind
      (λ w x y g e f. let p = dart-step-out R v w x y g e f in ap not (cover-edge R.kind a x y (v, w) (colours-differ x y e f) p.0 p.1))
      (λ w x y g e f. let p = dart-step-in R v w x y g e f in ap not (cover-edge R.kind a x y (w, v) (λ same. colours-differ y x f e (sym same)) p.0 p.1))
      (and_parts _ _ inner).0 (inner-ring R v inner)

  pub hi-covers : (a : Cell) → In v (corners R.kind a) → (s : Tile) × In s (hi R.kind v) × (covers s a ≡ true)
  hi-covers a i = not-all (λ s. covers s a) (hi R.kind v) (λ all. go (round-begins R.kind a v i).0 (sym (covering a).0 ∙ all))
    where
      go : Begins v (steps_round R.kind a) → list_all (λ w. not (has_edge R.kind a v w)) (present (steps_out R.kind v)) ≡ true → ⊥
      go (w, j) all =
          let out : not (has_edge R.kind a v w) ≡ true = In-list_all (λ w. not (has_edge R.kind a v w)) (present (steps_out R.kind v)) w all (round-step R.kind a (v, w) j) in
          cc (out, round-edge R.kind a (v, w) j)

  pub lo-covers : (a : Cell) → In v (corners R.kind a) → (s : Tile) × In s (lo R.kind v) × (covers s a ≡ true)
  lo-covers a i = not-all (λ s. covers s a) (lo R.kind v) (λ all. go (round-begins R.kind a v i).1 (sym (covering a).1 ∙ all))
    where
      go : Ends v (steps_round R.kind a) → list_all (λ u. not (has_edge R.kind a u v)) (present (steps_in R.kind v)) ≡ true → ⊥
      go (u, j) all =
          let out : not (has_edge R.kind a u v) ≡ true =
          In-list_all (λ u. not (has_edge R.kind a u v)) (present (steps_in R.kind v)) u all (move-step_in R.kind u v (step-move R.kind u v (round-step R.kind a (u, v) j))) in
          cc (out, round-edge R.kind a (u, v) j)
