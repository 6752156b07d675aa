-- Neighbours have a step in common, and so a corner.
use Rattle.std.proofs.Common.{◌≡◌, ℕ, ◌+◌, inl, inr, Bool, true, false, not, cond, List, ◌∷◌, Option, Some, refl, sym, ap, subst, arith}
use Rattle.std.proofs.lemmas.Bool.{not-false}
use Rattle.tl_definitions.specs.declared.Kind.{Kind}
use Rattle.tl_definitions.specs.declared.Kind.TheVariants.{Square, Triangle}
use Rattle.tl_definitions.specs.declared.Cell.{Cell}
use Rattle.tl_definitions.specs.declared.Corner.{Corner}
use Rattle.tl_definitions.specs.Lattice.{cell, corner, is_cell, less, left, right, above, below, neighbours, are_neighbours, is_dark}
use Rattle.tl_lists.proofs.Members.{In, any-In}
use Rattle.tl_definitions.proofs.Cells.{is_cell-some}
use Rattle.tl_definitions.proofs.Corners.{corner-same}
use Rattle.tl_definitions.proofs.Darts.{less-some, cell_at-some}
use Rattle.tl_closing.specs.Closing.{steps_round}
use Rattle.tl_closing.proofs.Sides.{Parity, parity-of, dark-from, light-from, left_step, other_steps, steps-table}

-- a cell beside another has the other colour
other-colour : (a b : Cell) → a.r + a.c ≡ b.r + b.c + 1 → is_dark b ≡ not (is_dark a)
other-colour a b h = go (is_dark a) (parity-of a)
  where
    go : (t : Bool) → Parity t (a.r + a.c) → is_dark b ≡ not t
    go true even = light-from b (omega (arith, even, h))
    go false odd = dark-from b (omega (arith, odd, h))

abbrev pub Share : Kind → Cell → Cell → Type 0
Share k a b = (e : Corner × Corner) × In e (steps_round k a) × In e (steps_round k b)

share-sym : (k : Kind) (a b : Cell) → Share k a b → Share k b a
share-sym k a b (e, i, j) = (e, j, i)

abbrev ShareTable : Kind → Bool → Bool → ℕ → ℕ → ℕ → ℕ → Type 0
ShareTable k s t r c r' c' =
    (e : Corner × Corner) × In e (left_step k s r c ∷ other_steps k s r c) × In e (left_step k t r' c' ∷ other_steps k t r' c')

share-from : (k : Kind) (a b : Cell) → is_dark b ≡ not (is_dark a) → ShareTable k (is_dark a) (not (is_dark a)) a.r a.c b.r b.c → Share k a b
share-from k a b colour (e, i, j) = (
  e,
  subst (λ (es : List (Corner × Corner)). In e es) (sym (steps-table k a)) i,
  subst (λ (es : List (Corner × Corner)). In e es) (sym (steps-table k b))
      (subst (λ (t : Bool). In e (left_step k t b.r b.c ∷ other_steps k t b.r b.c)) (sym colour) j),
)

same_ends : (u v u' v' : Corner) → u.r ≡ u'.r → u.x ≡ u'.x → v.r ≡ v'.r → v.x ≡ v'.x → ◌≡◌ {A = Corner × Corner} (u, v) (u', v')
same_ends u v u' v' p q s t = λ i. (corner-same u u' p q i, corner-same v v' s t i)

-- the left step of a cell is one of the cell on its left
left-table : (k : Kind) (t : Bool) (r c r' c' : ℕ) → r ≡ r' → c ≡ c' + 1 → ShareTable k t (not t) r c r' c'
left-table Square true r c r' c' h l = ((corner r c, corner (r + 1) c), inl refl, inr (inr (inl (same_ends _ _ _ _ h l (omega (arith, h)) l))))
left-table Square false r c r' c' h l = ((corner (r + 1) c, corner r c), inl refl, inr (inr (inl (same_ends _ _ _ _ (omega (arith, h)) l h l))))
left-table Triangle true r c r' c' h l =
    ((corner r (c + 1), corner (r + 1) c), inl refl, inr (inl (same_ends _ _ _ _ h (omega (arith, l)) (omega (arith, h)) l)))
left-table Triangle false r c r' c' h l =
    ((corner (r + 1) (c + 1), corner r c), inl refl, inr (inr (inl (same_ends _ _ _ _ (omega (arith, h)) (omega (arith, l)) h l))))

-- the lower step of a cell is one of the cell below
below-square : (t : Bool) (r c r' c' : ℕ) → r + 1 ≡ r' → c ≡ c' → ShareTable Square t (not t) r c r' c'
below-square true r c r' c' h l =
    ((corner (r + 1) c, corner (r + 1) (c + 1)), inr (inl refl), inr (inr (inr (inl (same_ends _ _ _ _ h l h (omega (arith, l)))))))
below-square false r c r' c' h l =
    ((corner (r + 1) (c + 1), corner (r + 1) c), inr (inl refl), inr (inr (inr (inl (same_ends _ _ _ _ h (omega (arith, l)) h l)))))

below-triangle : (r c r' c' : ℕ) → r + 1 ≡ r' → c ≡ c' → ShareTable Triangle true false r c r' c'
below-triangle r c r' c' h l =
    ((corner (r + 1) c, corner (r + 1) (c + 2)), inr (inl refl), inr (inr (inl (same_ends _ _ _ _ h l h (omega (arith, l))))))

share-left : (k : Kind) (a b : Cell) → a.r ≡ b.r → a.c ≡ b.c + 1 → Share k a b
share-left k a b row column = share-from k a b (other-colour a b (omega (arith, row, column))) (left-table k (is_dark a) a.r a.c b.r b.c row column)

below-colour : (a b : Cell) → a.r + 1 ≡ b.r → a.c ≡ b.c → is_dark b ≡ not (is_dark a)
below-colour a b row column = go (is_dark a) (parity-of a)
  where
    go : (t : Bool) → Parity t (a.r + a.c) → is_dark b ≡ not t
    go true even = light-from b (omega (arith, even, row, column))
    go false odd = dark-from b (omega (arith, odd, row, column))

share-below-square : (a b : Cell) → a.r + 1 ≡ b.r → a.c ≡ b.c → Share Square a b
share-below-square a b row column = share-from Square a b (below-colour a b row column) (below-square (is_dark a) a.r a.c b.r b.c row column)

share-below-triangle : (a b : Cell) → is_dark a ≡ true → a.r + 1 ≡ b.r → a.c ≡ b.c → Share Triangle a b
share-below-triangle a b dark row column =
    share-from Triangle a b (below-colour a b row column)
    (subst (λ (t : Bool). ShareTable Triangle t (not t) a.r a.c b.r b.c) (sym dark) (below-triangle a.r a.c b.r b.c row column))

pub left-coordinates : (a b : Cell) → left a ≡ Some b → (a.r ≡ b.r) × (a.c ≡ b.c + 1)
left-coordinates a b e = let p = cell_at-some (Some a.r) (less a.c 1) b e in (cc (p.0), less-some a.c 1 b.c p.1)

pub above-coordinates : (a b : Cell) → above a ≡ Some b → (b.r + 1 ≡ a.r) × (b.c ≡ a.c)
above-coordinates a b e = let p = cell_at-some (less a.r 1) (Some a.c) b e in (sym (less-some a.r 1 b.r p.0), cc (p.1))

right-coordinates : (a b : Cell) → right a ≡ Some b → (b.r ≡ a.r) × (b.c ≡ a.c + 1)
right-coordinates a b e = let same : cell a.r (a.c + 1) ≡ b = cc e in (ap (λ (x : Cell). x.r) (sym same), ap (λ (x : Cell). x.c) (sym same))

below-coordinates : (a b : Cell) → below a ≡ Some b → (a.r + 1 ≡ b.r) × (a.c ≡ b.c)
below-coordinates a b e = let same : cell (a.r + 1) a.c ≡ b = cc e in (ap (λ (x : Cell). x.r) same, ap (λ (x : Cell). x.c) same)

pub neighbours-share : (k : Kind) (a b : Cell) → are_neighbours k a b ≡ true → Share k a b
neighbours-share k a b e = start k (any-In (is_cell b) (neighbours k a) e)
  where
    dark : (b : Cell) → not (is_dark b) ≡ false → is_dark b ≡ true
    dark b = not-false (is_dark b)

    third : (t : Bool) → is_dark a ≡ t → cond t (below a) (above a) ≡ Some b → Share Triangle a b
    third true h e = let p = below-coordinates a b e in share-below-triangle a b h p.0 p.1
    third false h e =
        let p = above-coordinates a b e in
        share-sym Triangle b a (share-below-triangle b a (dark b (cc (below-colour b a p.0 p.1, h))) p.0 p.1)

    at : (k : Kind) → In (Some b) (neighbours k a) → Share k a b
    at Square (inl e) = let p = left-coordinates a b (sym e) in share-left Square a b p.0 p.1
    at Square (inr (inl e)) = let p = right-coordinates a b (sym e) in share-sym Square b a (share-left Square b a p.0 p.1)
    at Square (inr (inr (inl e))) = let p = above-coordinates a b (sym e) in share-sym Square b a (share-below-square b a p.0 p.1)
    at Square (inr (inr (inr (inl e)))) = let p = below-coordinates a b (sym e) in share-below-square a b p.0 p.1
    at Square (inr (inr (inr (inr none)))) = absurd none
    at Triangle (inl e) = let p = left-coordinates a b (sym e) in share-left Triangle a b p.0 p.1
    at Triangle (inr (inl e)) = let p = right-coordinates a b (sym e) in share-sym Triangle b a (share-left Triangle b a p.0 p.1)
    at Triangle (inr (inr (inl e))) = third (is_dark a) refl (sym e)
    at Triangle (inr (inr (inr none))) = absurd none

    start : (k : Kind) → (o : Option Cell) × In o (neighbours k a) × (is_cell b o ≡ true) → Share k a b
    start k (o, i, h) = at k (subst (λ p. In p (neighbours k a)) (is_cell-some b o h) i)
