-- A region with a cell has a boundary, and all its circuits begin at one corner.
use Rattle.std.proofs.Common.{◌≡◌, ℕ, zero, suc, ◌+◌, ◌≤◌, ◌⊎◌, inl, inr, Bool, true, false, not, List, ◌∷◌, map, refl, sym, ◌∙◌, subst, arith}
use Rattle.tl_definitions.specs.declared.Kind.{Kind}
use Rattle.tl_definitions.specs.declared.Kind.TheVariants.{Square, Triangle}
use Rattle.tl_definitions.specs.declared.Cell.{Cell}
use Rattle.tl_definitions.specs.declared.Corner.{Corner}
use Rattle.tl_definitions.specs.Lattice.{cell, corner_lt, is_dark, corners, Side, sides}
use Rattle.tl_definitions.specs.Region.{Region, all_sides, is_boundary, boundary, is_corner_of}
use Rattle.tl_definitions.specs.Accepted.{IsCircuit, circuit_corners}
use Rattle.tl_definitions.proofs.Cells.{cell_lt-irreflexive, cell_lt-transitive}
use Rattle.tl_lists.proofs.Members.{In, In-filter, In-flat_map, In-map, In-map_parts, In-list_all}
use Rattle.tl_closing.specs.Closing.{step_along, steps_round}
use Rattle.tl_lists.proofs.Distinct.{Distinct}
use Rattle.tl_closing.proofs.Sides.{left_step, left_here, directed, steps-table}
use Rattle.tl_closing.proofs.Centres.{IsCentre, round-centre, cell-one}
use Rattle.tl_closing.proofs.Edges.{Step, round-corners, corner_of-from}
use Rattle.tl_closing.proofs.Circuit.{walk-boundary, boundary-walk}
use Rattle.tl_closing.proofs.Boundary.{boundary-parts, inside-two}

-- the cell across the left step is one column earlier
left-earlier : (k : Kind) (t : Bool) (r c r' c' : ℕ) → IsCentre k (not t) r' c' (left_step k t r c) → c' + 1 ≡ c
left-earlier Square true r c r' c' p = omega (arith, p)
left-earlier Square false r c r' c' p = omega (arith, p)
left-earlier Triangle true r c r' c' p = omega (arith, p)
left-earlier Triangle false r c r' c' p = omega (arith, p)

-- the left side of a cell is on the boundary, or there is a cell one column earlier
left-or-boundary : (R : Region) (a : Cell) → In a R.cells → ((s : Side) × In s (boundary R)) ⊎ ((b : Cell) × In b R.cells × (b.c + 1 ≡ a.c))
left-or-boundary R a i = start (In-map_parts step_along (left_here R.kind a) (sides R.kind a) here)
  where
    here : In (left_here R.kind a) (steps_round R.kind a)
    here = subst (λ (es : List Step). In (left_here R.kind a) es) (sym (steps-table R.kind a)) (inl refl)

    colour : (b : Cell) → (a ≡ b → ⊥) → In (left_here R.kind a) (steps_round R.kind b) → is_dark b ≡ not (is_dark a)
    colour b d j = go (is_dark a) (is_dark b) refl refl
      where
        go : (s t : Bool) → is_dark a ≡ s → is_dark b ≡ t → t ≡ not s
        go true true e f = absurd (d (cell-one R.kind a b (left_here R.kind a) (e ∙ sym f) here j))
        go true false e f = refl
        go false true e f = refl
        go false false e f = absurd (d (cell-one R.kind a b (left_here R.kind a) (e ∙ sym f) here j))

    earlier : (s : Side) → left_here R.kind a ≡ step_along s → (b : Cell) × In b R.cells × In (step_along s) (steps_round R.kind b) × (a ≡ b → ⊥)
        → (b : Cell) × In b R.cells × (b.c + 1 ≡ a.c)
    earlier s same (b, j, k, d) =
        let at : In (left_here R.kind a) (steps_round R.kind b) = subst (λ (e : Step). In e (steps_round R.kind b)) (sym same) k in (
          b,
          j,
          left-earlier R.kind (is_dark a) a.r a.c b.r b.c
              (subst (λ (t : Bool). IsCentre R.kind t b.r b.c (left_here R.kind a)) (colour b d at) (round-centre R.kind b (left_here R.kind a) at)),
        )

    with_side : (s : Side) → In s (sides R.kind a) → left_here R.kind a ≡ step_along s → (t : Bool) → is_boundary R s ≡ t
        → ((s : Side) × In s (boundary R)) ⊎ ((b : Cell) × In b R.cells × (b.c + 1 ≡ a.c))
    with_side s j same true e = inl (s, In-filter (is_boundary R) s (all_sides R) e (In-flat_map (sides R.kind) s a R.cells i j))
    with_side s j same false e = inr (earlier s same (inside-two R a s j e))

    start : (s : Side) × In s (sides R.kind a) × (left_here R.kind a ≡ step_along s) → ((s : Side) × In s (boundary R)) ⊎ ((b : Cell) × In b R.cells × (b.c + 1 ≡ a.c))
    start (s, j, same) = with_side s j same (is_boundary R s) refl

-- going left from any cell one comes to the boundary
boundary-within : (R : Region) (n : ℕ) (a : Cell) → In a R.cells → a.c ≤ n → (s : Side) × In s (boundary R)
boundary-within R zero a i h = go (left-or-boundary R a i)
  where
    go : ((s : Side) × In s (boundary R)) ⊎ ((b : Cell) × In b R.cells × (b.c + 1 ≡ a.c)) → (s : Side) × In s (boundary R)
    go (inl found) = found
    go (inr (b, j, e)) = absurd (omega (arith, h, e))
boundary-within R (suc n) a i h = go (left-or-boundary R a i) (λ b j l. boundary-within R n b j l)
  where
    go : ((s : Side) × In s (boundary R)) ⊎ ((b : Cell) × In b R.cells × (b.c + 1 ≡ a.c)) → ((b : Cell) → In b R.cells → b.c ≤ n → (s : Side) × In s (boundary R))
        → (s : Side) × In s (boundary R)
    go (inl found) ih = found
    go (inr (b, j, e)) ih = ih b j (omega (arith, h, e))

pub boundary-some : (R : Region) (a : Cell) → In a R.cells → (s : Side) × In s (boundary R)
boundary-some R a i = boundary-within R a.c a i (omega arith)

-- a boundary side begins at a corner of the region
pub boundary-corner : (R : Region) (s : Side) → In s (boundary R) → is_corner_of R s.from ≡ true
boundary-corner R s i = go (boundary-parts R s i)
  where
    one_end : (vs : List Corner) (t : Bool) → In (directed t s.from s.to).0 vs × In (directed t s.from s.to).1 vs → In s.from vs
    one_end vs true p = p.0
    one_end vs false p = p.1

    go : (a : Cell) × In a R.cells × In s (sides R.kind a) × (is_boundary R s ≡ true) → is_corner_of R s.from ≡ true
    go (a, j, k, e) =
        corner_of-from R a s.from j
        (one_end (corners R.kind a) (is_dark s.cell) (round-corners R.kind a (step_along s) (In-map step_along s (sides R.kind a) k)))

-- two circuits begin at one corner
pub first-one : (R : Region) (once : Distinct R.cells) (s t : Side) (ss ts : List Side) → IsCircuit R (s ∷ ss) → IsCircuit R (t ∷ ts) → s.from ≡ t.from
first-one R once s t ss ts p q = go (among (s ∷ ss) p t (walk-boundary R once (t ∷ ts) q t (inl refl))) (among (t ∷ ts) q s (walk-boundary R once (s ∷ ss) p s (inl refl)))
  where
    among : (walk : List Side) → IsCircuit R walk → (u : Side) → In u (boundary R) → In u.from (circuit_corners walk)
    among walk c u i = In-map (λ (x : Side). x.from) u walk (boundary-walk R once walk c u i)

    both_ways : (u v : Corner) → corner_lt u v ≡ true → corner_lt v u ≡ true → ⊥
    both_ways u v e f = cell_lt-irreflexive (cell u.r u.x) (cell_lt-transitive (cell u.r u.x) (cell v.r v.x) (cell u.r u.x) e f)

    go : (t.from ≡ s.from) ⊎ In t.from (map (λ x. x.from) ss) → (s.from ≡ t.from) ⊎ In s.from (map (λ x. x.from) ts) → s.from ≡ t.from
    go (inl e) j = sym e
    go (inr i) (inl e) = e
    go (inr i) (inr j) =
        absurd (both_ways s.from t.from (In-list_all (corner_lt s.from) (map (λ x. x.from) ss) t.from p.first i)
        (In-list_all (corner_lt t.from) (map (λ x. x.from) ts) s.from q.first j))
