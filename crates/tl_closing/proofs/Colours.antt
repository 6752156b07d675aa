-- The total by colours. The signs of all sides of the cells add up to it, as the two sides of an edge between two
-- cells of the region have opposite signs.
use Rattle.std.proofs.Common.{◌≡◌, Bool, true, false, not, List, [], ◌∷◌, ◌++◌, map, filter, flat_map, length, cond, refl, sym, ◌∙◌, ap, subst, arith, ◌+◌, ◌-◌, ℤ, pos, negsuc, ◌+ℤ◌, ◌-ℤ◌, ◌*ℤ◌}
use Rattle.std.proofs.lemmas.Int.{ints}
use Rattle.std.proofs.lemmas.Bool.{not-true}
use Rattle.tl_definitions.specs.declared.Kind.{Kind}
use Rattle.tl_definitions.specs.declared.Kind.TheVariants.{Square, Triangle}
use Rattle.tl_definitions.specs.declared.Cell.{Cell}
use Rattle.tl_definitions.specs.Lattice.{corner, is_dark, Side, side, sides, rise}
use Rattle.tl_definitions.specs.Region.{Region, all_sides, is_boundary}
use Rattle.tl_definitions.specs.Accepted.{IsPlaced, IsCircuit}
use Rattle.tl_definitions.specs.Obstruction.{sign, total}
use Rattle.tl_lists.specs.Lists.{int_sum}
use Rattle.tl_lists.proofs.Members.{In, In-map, In-filter, In-flat_map, In-flat_map_parts, In-map_parts, In-filter_parts}
use Rattle.tl_closing.specs.Closing.{step_along, steps_round}
use Rattle.tl_closing.specs.Colours.{dark_count, light_count}
use Rattle.tl_lists.proofs.Distinct.{Distinct, Distinct-filter, Distinct-map_in}
use Rattle.tl_closing.proofs.Sides.{directed}
use Rattle.tl_closing.proofs.Centres.{cell-one}
use Rattle.tl_closing.proofs.Edges.{Step, step_eq, step_eq-same, step_eq-refl, Distinct-cells}
use Rattle.tl_lists.proofs.Sums.{sum-members}
use Rattle.tl_closing.proofs.Circuit.{side-cell, Distinct-all_sides, total-walk}
use Rattle.tl_closing.proofs.Boundary.{boundary-one, inside-two}

-- ---- the sides of all cells

sides-sum : (k : Kind) (a : Cell) → int_sum (map sign (sides k a)) ≡ cond (is_dark a) (pos (rise k)) (negsuc (rise k - 1))
sides-sum Square a = go (is_dark a)
  where
    go : (t : Bool) → int_sum (cond t (pos 1) (negsuc 0) ∷ cond t (pos 1) (negsuc 0) ∷ cond t (pos 1) (negsuc 0) ∷ cond t (pos 1) (negsuc 0) ∷ []) ≡ cond t (pos 4) (negsuc 3)
    go true = refl
    go false = refl
sides-sum Triangle a = shapes (is_dark a) ∙ go (is_dark a)
  where
    go : (t : Bool) → int_sum (cond t (pos 1) (negsuc 0) ∷ cond t (pos 1) (negsuc 0) ∷ cond t (pos 1) (negsuc 0) ∷ []) ≡ cond t (pos 3) (negsuc 2)
    go true = refl
    go false = refl

    -- three sides of the same cell, whichever way the triangle points
    shapes : (t : Bool)
        → int_sum (map sign (cond t
        (side a (corner a.r (a.c + 1)) (corner (a.r + 1) a.c) ∷ side a (corner (a.r + 1) a.c) (corner (a.r + 1) (a.c + 2)) ∷ side a (corner (a.r + 1) (a.c + 2)) (corner a.r (a.c + 1)) ∷ [])
        (side a (corner a.r a.c) (corner (a.r + 1) (a.c + 1)) ∷ side a (corner (a.r + 1) (a.c + 1)) (corner a.r (a.c + 2)) ∷ side a (corner a.r (a.c + 2)) (corner a.r a.c) ∷ [])))
        ≡ int_sum (cond (is_dark a) (pos 1) (negsuc 0) ∷ cond (is_dark a) (pos 1) (negsuc 0) ∷ cond (is_dark a) (pos 1) (negsuc 0) ∷ [])
    shapes true = refl
    shapes false = refl

signs-append : (ss ts : List Side) → int_sum (map sign (ss ++ ts)) ≡ int_sum (map sign ss) +ℤ int_sum (map sign ts)
signs-append [] ts = omega (arith, ints)
signs-append (s ∷ ss) ts = omega (arith, ints, signs-append ss ts)

all-sum : (k : Kind) (cells : List Cell)
    → int_sum (map sign (flat_map (sides k) cells)) ≡ pos (rise k) *ℤ (pos (length (filter is_dark cells)) -ℤ pos (length (filter (λ a. not (is_dark a)) cells)))
all-sum Square [] = refl
all-sum Triangle [] = refl
all-sum k (a ∷ cells) = signs-append (sides k a) (flat_map (sides k) cells) ∙ go k (is_dark a) _ _ (sides-sum k a) (all-sum k cells)
  where
    go : (k : Kind) (t : Bool) (x y : ℤ) → x ≡ cond t (pos (rise k)) (negsuc (rise k - 1))
        → y ≡ pos (rise k) *ℤ (pos (length (filter is_dark cells)) -ℤ pos (length (filter (λ a. not (is_dark a)) cells)))
        → x +ℤ y
        ≡ pos (rise k) *ℤ (pos (length (cond t (a ∷ filter is_dark cells) (filter is_dark cells)))
        -ℤ pos (length (cond (not t) (a ∷ filter (λ a. not (is_dark a)) cells) (filter (λ a. not (is_dark a)) cells))))
    go Square true x y e f = omega (arith, ints, e, f)
    go Square false x y e f = omega (arith, ints, e, f)
    go Triangle true x y e f = omega (arith, ints, e, f)
    go Triangle false x y e f = omega (arith, ints, e, f)

-- ---- those of one colour

-- dark where the first argument says so, and else light
abbrev has_colour : Bool → Side → Bool
has_colour c s = cond c (is_dark s.cell) (not (is_dark s.cell))

colour-is : (c : Bool) (s : Side) → has_colour c s ≡ true → is_dark s.cell ≡ c
colour-is true s e = e
colour-is false s e = not-true (is_dark s.cell) e

is-colour : (c : Bool) (s : Side) → is_dark s.cell ≡ c → has_colour c s ≡ true
is-colour true s e = e
is-colour false s e = ap not e

abbrev steps_of : Bool → List Side → List Step
steps_of c ss = map step_along (filter (has_colour c) ss)

abbrev one : Step → ℤ
one e = pos 1

-- the signs add up to the number of dark sides less that of light ones
signs-count : (ss : List Side) → int_sum (map sign ss) +ℤ int_sum (map one (steps_of false ss)) ≡ int_sum (map one (steps_of true ss))
signs-count [] = refl
signs-count (s ∷ ss) = go (is_dark s.cell) (signs-count ss)
  where
    go : (t : Bool) → int_sum (map sign ss) +ℤ int_sum (map one (steps_of false ss)) ≡ int_sum (map one (steps_of true ss))
        → (cond t (pos 1) (negsuc 0) +ℤ int_sum (map sign ss))
        +ℤ int_sum (map one (map step_along (cond (not t) (s ∷ filter (has_colour false) ss) (filter (has_colour false) ss))))
        ≡ int_sum (map one (map step_along (cond t (s ∷ filter (has_colour true) ss) (filter (has_colour true) ss))))
    go true ih = omega (arith, ints, ih)
    go false ih = omega (arith, ints, ih)

sum-parts : (p : Side → Bool) (ss : List Side)
    → int_sum (map sign ss) ≡ int_sum (map sign (filter p ss)) +ℤ int_sum (map sign (filter (λ s. not (p s)) ss))
sum-parts p [] = refl
sum-parts p (s ∷ ss) = go (p s) (sign s) (sum-parts p ss)
  where
    go : (t : Bool) (x : ℤ) → int_sum (map sign ss) ≡ int_sum (map sign (filter p ss)) +ℤ int_sum (map sign (filter (λ s. not (p s)) ss))
        → sign s +ℤ int_sum (map sign ss)
        ≡ int_sum (map sign (cond t (s ∷ filter p ss) (filter p ss))) +ℤ int_sum (map sign (cond (not t) (s ∷ filter (λ s. not (p s)) ss) (filter (λ s. not (p s)) ss)))
    go true x ih = omega (arith, ints, ih)
    go false x ih = omega (arith, ints, ih)

-- ---- inside the region

module _ (R : Region) (placed : IsPlaced R) where
  abbrev inside : List Side
  inside = filter (λ s. not (is_boundary R s)) (all_sides R)

  abbrev IsSideOf : Side → Type 0
  IsSideOf s = In s.cell R.cells × In s (sides R.kind s.cell)

  side-of : (s : Side) → In s (all_sides R) → IsSideOf s
  side-of s i = go (In-flat_map_parts (sides R.kind) s R.cells i)
    where
      go : (a : Cell) × In a R.cells × In s (sides R.kind a) → IsSideOf s
      go (a, j, k) = subst (λ (x : Cell). In x R.cells × In s (sides R.kind x)) (sym (side-cell R.kind a s k)) (j, k)

  abbrev IsInside : Bool → Side → Type 0
  IsInside c s = IsSideOf s × (is_boundary R s ≡ false) × (is_dark s.cell ≡ c)

  inside-parts : (c : Bool) (s : Side) → In s (filter (has_colour c) inside) → IsInside c s
  inside-parts c s i =
      let p : In s inside × (has_colour c s ≡ true) = In-filter_parts (has_colour c) s inside i in
      let q : In s (all_sides R) × (not (is_boundary R s) ≡ true) = In-filter_parts (λ s. not (is_boundary R s)) s (all_sides R) p.0 in
      (side-of s q.0, not-true (is_boundary R s) q.1, colour-is c s p.1)

  inside-from : (c : Bool) (s : Side) → IsInside c s → In s (filter (has_colour c) inside)
  inside-from c s p =
      In-filter (has_colour c) s inside (is-colour c s p.2)
      (In-filter (λ s. not (is_boundary R s)) s (all_sides R) (ap not p.1) (In-flat_map (sides R.kind) s s.cell R.cells p.0.0 p.0.1))

  -- across a side inside the region lies a side of the other colour
  across : (c : Bool) (d : Step) → In d (steps_of c inside) → In d (steps_of (not c) inside)
  across c d i = start (In-map_parts step_along d (filter (has_colour c) inside) i)
    where
      with_side : (s : Side) → IsInside c s → (b : Cell) × In b R.cells × In (step_along s) (steps_round R.kind b) × (s.cell ≡ b → ⊥) → In (step_along s) (steps_of (not c) inside)
      with_side s p (b, j, k, differ) = found (In-map_parts step_along (step_along s) (sides R.kind b) k)
        where
          here : In (step_along s) (steps_round R.kind s.cell)
          here = In-map step_along s (sides R.kind s.cell) p.0.1

          other_colour : (x y : Bool) → is_dark s.cell ≡ x → is_dark b ≡ y → y ≡ not x
          other_colour true false e f = refl
          other_colour false true e f = refl
          other_colour true true e f = absurd (differ (cell-one R.kind s.cell b (step_along s) (e ∙ sym f) here k))
          other_colour false false e f = absurd (differ (cell-one R.kind s.cell b (step_along s) (e ∙ sym f) here k))

          found : (t : Side) × In t (sides R.kind b) × (step_along s ≡ step_along t) → In (step_along s) (steps_of (not c) inside)
          found (t, l, same) =
              subst (λ (e : Step). In e (steps_of (not c) inside)) (sym same)
              (In-map step_along t (filter (has_colour (not c)) inside) (inside-from (not c) t (its, not_edge (is_boundary R t) refl, colour)))
            where
              of_b : t.cell ≡ b
              of_b = side-cell R.kind b t l

              its : IsSideOf t
              its = subst (λ (x : Cell). In x R.cells × In t (sides R.kind x)) (sym of_b) (j, l)

              colour : is_dark t.cell ≡ not c
              colour = ap is_dark of_b ∙ (other_colour (is_dark s.cell) (is_dark b) refl refl ∙ ap not p.2)

              not_edge : (t' : Bool) → is_boundary R t ≡ t' → t' ≡ false
              not_edge false e = refl
              not_edge true e =
                  absurd (differ (boundary-one R b s.cell t l e p.0.0 (subst (λ (e : Step). In e (steps_round R.kind s.cell)) same here)))

      start : (s : Side) × In s (filter (has_colour c) inside) × (d ≡ step_along s) → In d (steps_of (not c) inside)
      start (s, j, same) =
          let p : IsInside c s = inside-parts c s j in
          subst (λ (e : Step). In e (steps_of (not c) inside)) (sym same) (with_side s p (inside-two R s.cell s p.0.1 p.1))

  -- a step knows its side of each colour
  Distinct-steps : (c : Bool) → Distinct (steps_of c inside)
  Distinct-steps c =
      Distinct-map_in step_along (filter (has_colour c) inside) (λ s t i j e. same s t (inside-parts c s i) (inside-parts c t j) e)
      (Distinct-filter (has_colour c) inside (Distinct-filter (λ s. not (is_boundary R s)) (all_sides R) (Distinct-all_sides R (Distinct-cells R placed))))
    where
      ends : (c : Bool) (s t : Side) → directed c s.from s.to ≡ directed c t.from t.to → (s.from ≡ t.from) × (s.to ≡ t.to)
      ends true s t e = (ap (λ (d : Step). d.0) e, ap (λ (d : Step). d.1) e)
      ends false s t e = (ap (λ (d : Step). d.1) e, ap (λ (d : Step). d.0) e)

      same : (s t : Side) → IsInside c s → IsInside c t → step_along s ≡ step_along t → s ≡ t
      same s t p q e =
          let its : s.cell ≡ t.cell =
          cell-one R.kind s.cell t.cell (step_along s) (p.2 ∙ sym q.2) (In-map step_along s (sides R.kind s.cell) p.0.1)
          (subst (λ (d : Step). In d (steps_round R.kind t.cell)) (sym e) (In-map step_along t (sides R.kind t.cell) q.0.1)) in
          let u : (s.from ≡ t.from) × (s.to ≡ t.to) =
          ends c s t (ap (λ (x : Bool). directed x s.from s.to) (sym p.2) ∙ (e ∙ ap (λ (x : Bool). directed x t.from t.to) q.2)) in
          let from : s.from ≡ t.from = u.0 in
          let to : s.to ≡ t.to = u.1 in
          λ i. record { cell = its i; from = from i; to = to i }

  inside-zero : int_sum (map sign inside) ≡ pos 0
  inside-zero =
      cancel _ _ _ (signs-count inside)
      (sum-members step_eq step_eq-same step_eq-refl one (steps_of true inside) (steps_of false inside) (Distinct-steps true) (Distinct-steps false) (across true) (across false))
    where
      cancel : (x y z : ℤ) → x +ℤ y ≡ z → z ≡ y → x ≡ pos 0
      cancel x y z e f = omega (arith, ints, e, f)

  -- the total is the rise of a flip times the number of dark cells less that of light ones
  pub total-colours : total R ≡ pos (rise R.kind) *ℤ (pos (dark_count R) -ℤ pos (light_count R))
  total-colours =
      outside (int_sum (map sign (all_sides R))) (total R) (int_sum (map sign inside)) (sum-parts (is_boundary R) (all_sides R)) inside-zero
      ∙ all-sum R.kind R.cells
    where
      outside : (x y z : ℤ) → x ≡ y +ℤ z → z ≡ pos 0 → y ≡ x
      outside x y z e f = omega (arith, ints, e, f)

pub signs-total : (R : Region) (walk : List Side) → IsPlaced R → IsCircuit R walk → int_sum (map sign walk) ≡ total R
signs-total R walk placed circuit = sym (total-walk R (Distinct-cells R placed) walk circuit)
