-- Tilings of an accepted region and lawful heights correspond one to one.
use Rattle.std.proofs.Common.{◌≡◌, ℕ, ◌-◌, inl, Bool, true, false, List, [], ◌∷◌, cond, Some, refl, sym, ◌∙◌, ap, subst, arith, ℤ, pos, negsuc, ◌+ℤ◌, ◌*ℤ◌, ◌≤ℤ◌}
use Rattle.std.specs.Prelude.{slice_get, IsTrue}
use Rattle.std.proofs.lemmas.Int.{ints}
use Rattle.tl_definitions.specs.declared.Kind.{Kind}
use Rattle.tl_definitions.specs.declared.Kind.TheVariants.{Square, Triangle}
use Rattle.tl_definitions.specs.declared.Cell.{Cell}
use Rattle.tl_definitions.specs.declared.Corner.{Corner}
use Rattle.tl_definitions.specs.declared.Tile.{Tile}
use Rattle.tl_definitions.specs.Lattice.{Side, rise}
use Rattle.tl_definitions.specs.Region.{Region, boundary, is_corner_of, is_step}
use Rattle.tl_definitions.specs.Accepted.{Accepted, IsCircuit, circuit_corners}
use Rattle.tl_definitions.specs.Tiling.{is_tiling}
use Rattle.tl_definitions.specs.Obstruction.{prefix, total}
use Rattle.tl_definitions.specs.Heights.{height, climb, AreHeights, AreLawful}
use Rattle.tl_lists.proofs.Members.{In}
use Rattle.tl_closing.specs.Closing.{steps_round, IsPotential, HasOnePotential}
use Rattle.tl_closing.proofs.Edges.{Distinct-cells, is_step-parts, is_step-from, round-corners, corner_of-from}
use Rattle.tl_closing.proofs.Closing.{accepted-closing}
use Rattle.tl_closing.proofs.Crossed.{tiling-closes, is_crossed, same-heights}
use Rattle.tl_closing.proofs.Circuit.{RisesAt, walk-boundary, boundary-walk, total-walk, signs-closed, has-prefixes, rises-by_prefixes}
use Rattle.tl_closing.proofs.Boundary.{potential-rises}
use Rattle.tl_closing.proofs.Falls.{IsMild}
use Rattle.tl_closing.proofs.Partnered.{tiling_by, tiling_by-tiling, tiling_by-climbs}
use Rattle.tl_closing.proofs.Start.{boundary-some, boundary-corner, first-one}
use Rattle.tl_closing.proofs.Numbers.{numbers_of, height-numbers_of, numbers_of-heights, same-numbers}

-- the first corner of a region's circuits
pub record Start (R : Region) : Type 0 where
  pub corner : Corner
  pub of_region : is_corner_of R corner ≡ true
  pub walk : List Side
  pub circuit : IsCircuit R walk
  pub first : slice_get (circuit_corners walk) 0 ≡ Some corner
  pub only : (other : List Side) (v : Corner) → IsCircuit R other → slice_get (circuit_corners other) 0 ≡ Some v → v ≡ corner

pub start-of : (R : Region) → Accepted R → Start R
start-of R accepted = go (accepted.circuit) (some_cell R.cells refl)
  where
    some_cell : (cells : List Cell) → cells ≡ R.cells → (a : Cell) × In a R.cells
    some_cell [] e = absurd (accepted.nonempty (sym e))
    some_cell (a ∷ cells) e = (a, subst (λ (cs : List Cell). In a cs) e (inl refl))

    with_walk : (walk : List Side) → IsCircuit R walk → (s : Side) × In s (boundary R) → Start R
    with_walk [] c (s, i) = absurd (boundary-walk R (Distinct-cells R accepted.placed) [] c s i)
    with_walk (s ∷ ss) c found = record {
      corner = s.from;
      of_region = boundary-corner R s (walk-boundary R (Distinct-cells R accepted.placed) (s ∷ ss) c s (inl refl));
      walk = s ∷ ss;
      circuit = c;
      first = refl;
      only = only;
    }
      where
        only : (other : List Side) (v : Corner) → IsCircuit R other → slice_get (circuit_corners other) 0 ≡ Some v → v ≡ s.from
        only [] v d e = cc e
        only (t ∷ ts) v d e = let same : t.from ≡ v = cc e in sym same ∙ sym (first-one R (Distinct-cells R accepted.placed) s t ss ts c d)

    go : (walk : List Side) × IsCircuit R walk → (a : Cell) × In a R.cells → Start R
    go (walk, c) (a, i) = with_walk walk c (boundary-some R a i)

-- ---- the heights of a tiling

-- heights are a potential of the climbs, from the start of the circuit
heights-potential : (R : Region) (A : List Tile) (numbers : List ℤ) (start : Start R) → AreHeights R A numbers → IsPotential R (climb R A) start.corner (height R numbers)
heights-potential R A numbers start h = record { zero = h.start start.walk start.corner start.circuit start.first; along = h.along }

-- each tiling has heights, and no two
pub has-heights : (R : Region) (A : List Tile) → Accepted R → IsTrue (is_tiling R A)
    → (numbers : List ℤ) × AreHeights R A numbers × ((others : List ℤ) → AreHeights R A others → others ≡ numbers)
has-heights R A accepted tiling = go (accepted-closing R accepted (climb R A) (tiling-closes R A tiling) start.corner start.of_region)
  where
    start : Start R
    start = start-of R accepted

    go : HasOnePotential R (climb R A) start.corner → (numbers : List ℤ) × AreHeights R A numbers × ((others : List ℤ) → AreHeights R A others → others ≡ numbers)
    go (h, p, one) = (numbers_of R h, here, λ others q. same-numbers R others (numbers_of R h) q.heights here.heights (agree others q))
      where
        at : (v : Corner) → is_corner_of R v ≡ true → height R (numbers_of R h) v ≡ h v
        at v e = height-numbers_of R h v accepted.placed e

        along : (u v : Corner) → IsTrue (is_step R u v) → height R (numbers_of R h) v ≡ height R (numbers_of R h) u +ℤ climb R A u v
        along u v e = with_cell (is_step-parts R u v e)
          where
            with_cell : (a : Cell) × In a R.cells × In (u, v) (steps_round R.kind a) → height R (numbers_of R h) v ≡ height R (numbers_of R h) u +ℤ climb R A u v
            with_cell (a, i, j) =
                let ends = round-corners R.kind a (u, v) j in
                at v (corner_of-from R a v i ends.1) ∙ (p.along u v e ∙ ap (λ (z : ℤ). z +ℤ climb R A u v) (sym (at u (corner_of-from R a u i ends.0))))

        begin : (walk : List Side) (v : Corner) → IsCircuit R walk → slice_get (circuit_corners walk) 0 ≡ Some v → height R (numbers_of R h) v ≡ pos 0
        begin walk v c e =
            let same : v ≡ start.corner = start.only walk v c e in
            ap (height R (numbers_of R h)) same ∙ (at start.corner start.of_region ∙ p.zero)

        here : AreHeights R A (numbers_of R h)
        here = record { heights = numbers_of-heights R h; start = begin; along = along }

        agree : (others : List ℤ) → AreHeights R A others → (v : Corner) → is_corner_of R v ≡ true → height R others v ≡ height R (numbers_of R h) v
        agree others q v e = one (height R others) (heights-potential R A others start q) v e ∙ sym (at v e)

-- heights of a tiling are lawful
pub heights-lawful : (R : Region) (A : List Tile) (numbers : List ℤ) → Accepted R → IsTrue (is_tiling R A) → AreHeights R A numbers → AreLawful R numbers
heights-lawful R A numbers accepted tiling h = record {
  heights = h.heights;
  balanced = balanced accepted.circuit;
  boundary = prefixes;
  modulo = λ u v e. modulo (height R numbers u) (height R numbers v) (is_crossed R A (u, v)) R.kind (h.along u v e);
  least = λ u v e. least (height R numbers u) (height R numbers v) (is_crossed R A (u, v)) R.kind (h.along u v e);
}
  where
    rises : (s : Side) → In s (boundary R) → RisesAt (height R numbers) s
    rises = potential-rises R A (height R numbers) tiling (λ a e i j. h.along e.0 e.1 (is_step-from R a e.0 e.1 i j))

    on_walk : (walk : List Side) → IsCircuit R walk → (s : Side) → In s walk → RisesAt (height R numbers) s
    on_walk walk c s i = rises s (walk-boundary R (Distinct-cells R accepted.placed) walk c s i)

    balanced : (walk : List Side) × IsCircuit R walk → total R ≡ pos 0
    balanced (walk, c) =
        total-walk R (Distinct-cells R accepted.placed) walk c ∙ signs-closed (height R numbers) walk c.closed (on_walk walk c)

    prefixes : (walk : List Side) (k : ℕ) (v : Corner) → IsCircuit R walk → slice_get (circuit_corners walk) k ≡ Some v → height R numbers v ≡ prefix walk k
    prefixes walk k v c e = has-prefixes R (height R numbers) walk c (on_walk walk c) (λ w f. h.start walk w c f) k v e

    modulo : (x y : ℤ) (t : Bool) (k : Kind) → y ≡ x +ℤ cond t (negsuc (rise k - 2)) (pos 1) → (m : ℤ) × (y ≡ (x +ℤ pos 1) +ℤ (pos (rise k) *ℤ m))
    modulo x y true Square e = (negsuc 0, omega (arith, ints, e))
    modulo x y true Triangle e = (negsuc 0, omega (arith, ints, e))
    modulo x y false Square e = (pos 0, omega (arith, ints, e))
    modulo x y false Triangle e = (pos 0, omega (arith, ints, e))

    least : (x y : ℤ) (t : Bool) (k : Kind) → y ≡ x +ℤ cond t (negsuc (rise k - 2)) (pos 1) → y ≤ℤ (x +ℤ pos 1)
    least x y true Square e = omega (arith, ints, e)
    least x y true Triangle e = omega (arith, ints, e)
    least x y false k e = omega (arith, ints, e)

-- ---- the tiling of lawful heights

-- lawful heights are those of exactly one tiling
pub has-tiling : (R : Region) (numbers : List ℤ) → Accepted R → AreLawful R numbers
    → (A : List Tile) × IsTrue (is_tiling R A) × AreHeights R A numbers × ((B : List Tile) → IsTrue (is_tiling R B) → AreHeights R B numbers → B ≡ A)
has-tiling R numbers accepted lawful = (
  tiling_by R h,
  tiling_by-tiling R h accepted.placed mild rises,
  record { heights = lawful.heights; start = λ walk v c e. lawful.boundary walk 0 v c e; along = tiling_by-climbs R h accepted.placed mild rises },
  λ B b q. same-heights R B (tiling_by R h) h h b (tiling_by-tiling R h accepted.placed mild rises) q.along (tiling_by-climbs R h accepted.placed mild rises) (λ v e. refl),
)
  where
    h : Corner → ℤ
    h = height R numbers

    mild : IsMild R h
    mild = record { modulo = lawful.modulo; least = lawful.least }

    rises : (s : Side) → In s (boundary R) → RisesAt h s
    rises s i = go accepted.circuit
      where
        go : (walk : List Side) × IsCircuit R walk → RisesAt h s
        go (walk, c) =
            rises-by_prefixes R h walk c (sym (total-walk R (Distinct-cells R accepted.placed) walk c) ∙ lawful.balanced)
            (λ k v e. lawful.boundary walk k v c e) s (boundary-walk R (Distinct-cells R accepted.placed) walk c s i)
