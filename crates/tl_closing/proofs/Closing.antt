-- Differences that close round each cell have a potential, and only one.
use Rattle.std.proofs.Common.{◌≡◌, ℕ, zero, suc, ◌+◌, ◌%◌, ◌≤◌, ◌⊎◌, inl, inr, true, List, ◌∷◌, map, sym, ◌∙◌, subst, arith, ℤ, pos, ◌+ℤ◌, ◌-ℤ◌}
use Rattle.std.specs.Prelude.{IsTrue}
use Rattle.std.proofs.lemmas.Int.{ints}
use Rattle.tl_definitions.specs.declared.Cell.{Cell}
use Rattle.tl_definitions.specs.declared.Corner.{Corner}
use Rattle.tl_definitions.specs.Lattice.{corner_eq, are_neighbours, is_dark, corners, rise}
use Rattle.tl_definitions.specs.Region.{Region, has, corner_places, is_corner_of, is_step}
use Rattle.tl_definitions.specs.Accepted.{Accepted, AreJoined, IsPlaced, HasEulerOne}
use Rattle.tl_lists.specs.Lists.{int_sum}
use Rattle.tl_definitions.proofs.Joined.{joined_hands_on}
use Rattle.tl_lists.proofs.Members.{In, Each, Each-at, In-map_parts, In-filter_parts, Each-from}
use Rattle.tl_definitions.proofs.Corners.{corner_eq-same, corner_eq-refl}
use Rattle.tl_closing.specs.Closing.{steps_round, ClosesRoundCells, IsPotential, HasOnePotential}
use Rattle.tl_closing.proofs.Merge.{merged}
use Rattle.tl_definitions.proofs.Steps.{step-move}
use Rattle.tl_closing.specs.Residues.{residue}
use Rattle.tl_closing.proofs.Residues.{residue-move}
use Rattle.tl_closing.proofs.Sides.{left_here, others_here, corners-table, steps-table, others-later, SameStep, same_step}
use Rattle.tl_closing.proofs.Shared.{neighbours-share, Share}
use Rattle.tl_closing.proofs.Edges.{round-step, round-corners, Step, vertices, tree_part, left_steps, has-In, In-has, corner_of-parts, is_step-parts, is_step-from, cell-within, Distinct-vertices, In-tree_part, length-tree_part}
use Rattle.tl_closing.proofs.Round.{SameLabels, left-label, corners-label, Rises, left-rises, sum-rises}

-- what holds of each step round a cell
abbrev pub Round : (Step → Type 0) → Region → Cell → Type 0
Round P R a = Each P (left_here R.kind a ∷ others_here R.kind a)

round-at : (P : Step → Type 0) (R : Region) (a : Cell) (e : Step) → Round P R a → In e (steps_round R.kind a) → P e
round-at P R a e h i = Each-at P e (left_here R.kind a ∷ others_here R.kind a) h (subst (λ (es : List Step). In e es) (steps-table R.kind a) i)

pub round-from : (P : Step → Type 0) (R : Region) (a : Cell) → ((e : Step) → In e (steps_round R.kind a) → P e) → Round P R a
round-from P R a f =
    Each-from P (left_here R.kind a ∷ others_here R.kind a) (λ e i. f e (subst (λ (es : List Step). In e es) (sym (steps-table R.kind a)) i))

-- What holds on the tree part, and round each cell is handed on to the left step by the others, holds of every
-- step: column by column, from the last to the first.
pub peeled : (R : Region) (placed : IsPlaced R) (P : Step → Type 0) → ((e : Step) → In e (tree_part R placed) → P e)
    → ((a : Cell) → In a R.cells → Each P (others_here R.kind a) → P (left_here R.kind a))
    → (a : Cell) → In a R.cells → Round P R a
peeled R placed P on_tree closes a i = go R.columns a i (omega arith)
  where
    go : (n : ℕ) (a : Cell) → In a R.cells → R.columns ≤ a.c + n → Round P R a
    go zero a i h = absurd (omega (arith, h, (cell-within R placed a i).1))
    go (suc n) a i h =
        let others : Each P (others_here R.kind a) = Each-from P (others_here R.kind a) (λ e j. one (λ b k l. go n b k l) e j) in
        (closes a i others, others)
      where
        one : ((b : Cell) → In b R.cells → R.columns ≤ b.c + n → Round P R b) → (e : Step) → In e (others_here R.kind a) → P e
        one ih e j = either (In-tree_part R placed a e i (subst (λ (es : List Step). In e es) (sym (steps-table R.kind a)) (inr j)))
          where
            -- the left step of a later cell
            later : (b : Cell) × In b R.cells × (e ≡ left_here R.kind b) → P e
            later (b, k, same) =
                let after : a.c + 1 ≤ b.c =
                Each-at (λ (d : Step). SameStep d (left_here R.kind b) → a.c + 1 ≤ b.c) e (others_here R.kind a)
                (others-later R.kind (is_dark a) (is_dark b) a.r a.c b.r b.c) j (same_step _ _ same) in
                subst P (sym same) (ih b k (omega (arith, after, h))).0

            either : In e (tree_part R placed) ⊎ In e (left_steps R placed) → P e
            either (inl k) = on_tree e k
            either (inr k) = later (In-map_parts (left_here R.kind) e R.cells k)

-- ---- the corners of a region are connected

abbrev pub IsInOnePart : Region → Type 0
IsInOnePart R = (a b : Cell) → IsTrue (has R a) → IsTrue (has R b) → AreJoined R a b

-- labels that are the same at both ends of each step are the same at all corners
pub labels-same : {L : Type 0} (R : Region) → IsInOnePart R → (label : Corner → L) → ((a : Cell) → In a R.cells → Round (SameLabels label) R a)
    → (v w : Corner) → is_corner_of R v ≡ true → is_corner_of R w ≡ true → label v ≡ label w
labels-same {L} R joined label along v w hv hw = go (corner_of-parts R v hv) (corner_of-parts R w hw)
  where
    within : (a : Cell) → In a R.cells → (x y : Corner) → In x (corners R.kind a) → In y (corners R.kind a) → label x ≡ label y
    within a i x y j k =
        corners-label label R.kind (is_dark a) a.r a.c (along a i) x y
        (subst (λ (vs : List Corner). In x vs) (corners-table R.kind a) j) (subst (λ (vs : List Corner). In y vs) (corners-table R.kind a) k)

    -- the label of v stands at each corner of the cell
    Labelled : Cell → Type 0
    Labelled a = In a R.cells × ((x : Corner) → In x (corners R.kind a) → label v ≡ label x)

    go : (a : Cell) × In a R.cells × In v (corners R.kind a) → (b : Cell) × In b R.cells × In w (corners R.kind b) → label v ≡ label w
    go (a, i, j) (b, k, l) =
        let end : Labelled b = joined_hands_on R Labelled next a b (joined a b (In-has R a i) (In-has R b k)) (i, λ x m. within a i v x j m) in
        end.1 w l
      where
        over : (x y : Cell) → Labelled x → In y R.cells → Share R.kind x y → Labelled y
        over x y h m (e, p, q) = (m, λ u n. h.1 e.0 (round-corners R.kind x e p).0 ∙ within y m e.0 u (round-corners R.kind y e q).0 n)

        next : (x y : Cell) → Labelled x → IsTrue (has R y) → IsTrue (are_neighbours R.kind x y) → Labelled y
        next x y h y_in near = over x y h (has-In R y y_in) (neighbours-share R.kind x y near)

-- ---- the closing lemma

module _ (R : Region) (placed : IsPlaced R) (joined : IsInOnePart R) (difference : Corner → Corner → ℤ) where
  -- a function that rises along each step round each cell rises along each step
  rises-along : (h : Corner → ℤ) → ((a : Cell) → In a R.cells → Round (Rises difference h) R a) → (u v : Corner) → IsTrue (is_step R u v) → h v ≡ h u +ℤ difference u v
  rises-along h rises u v e = go (is_step-parts R u v e)
    where
      go : (a : Cell) × In a R.cells × In (u, v) (steps_round R.kind a) → h v ≡ h u +ℤ difference u v
      go (a, i, j) = round-at (Rises difference h) R a (u, v) (rises a i) j

  pub potential-one : (start : Corner) → IsTrue (is_corner_of R start) → (g h : Corner → ℤ) → IsPotential R difference start g → IsPotential R difference start h
      → (v : Corner) → IsTrue (is_corner_of R v) → g v ≡ h v
  potential-one start at g h p q v e = even (g v) (h v) (g start) (h start) p.zero q.zero (labels-same R joined (λ w. g w -ℤ h w) along v start e at)
    where
      even : (a b c d : ℤ) → c ≡ pos 0 → d ≡ pos 0 → a -ℤ b ≡ c -ℤ d → a ≡ b
      even a b c d e f g = omega (arith, ints, e, f, g)

      same : (a b c d x : ℤ) → b ≡ a +ℤ x → d ≡ c +ℤ x → a -ℤ c ≡ b -ℤ d
      same a b c d x e f = omega (arith, ints, e, f)

      along : (a : Cell) → In a R.cells → Round (SameLabels (λ w. g w -ℤ h w)) R a
      along a i = round-from (SameLabels (λ w. g w -ℤ h w)) R a (λ e j.
          let step : is_step R e.0 e.1 ≡ true = is_step-from R a e.0 e.1 i j in
          same (g e.0) (g e.1) (h e.0) (h e.1) (difference e.0 e.1) (p.along e.0 e.1 step) (q.along e.0 e.1 step))

  -- the tree part connects the corners
  connected : (f : Corner → Corner) → ((u v : Corner) → In (u, v) (tree_part R placed) → f u ≡ f v)
      → (x y : Corner) → In x (vertices R) → In y (vertices R) → f x ≡ f y
  connected f same x y i j =
      labels-same R joined f
      (peeled R placed (SameLabels f) (λ e k. same e.0 e.1 k) (λ a k others. left-label f R.kind (is_dark a) a.r a.c others))
      x y (In-filter_parts (is_corner_of R) x (corner_places R) i).1 (In-filter_parts (is_corner_of R) y (corner_places R) j).1

  pub potential : HasEulerOne R → ClosesRoundCells R difference → (start : Corner) → (h : Corner → ℤ) × IsPotential R difference start h
  potential euler closes start =
      go (merged corner_eq corner_eq-same corner_eq-refl difference (tree_part R placed) (vertices R) (Distinct-vertices R) connected (length-tree_part R placed euler))
    where
      sum_here : (a : Cell) → In a R.cells → int_sum (map (λ e. difference e.0 e.1) (left_here R.kind a ∷ others_here R.kind a)) ≡ pos 0
      sum_here a i = subst (λ (es : List Step). int_sum (map (λ e. difference e.0 e.1) es) ≡ pos 0) (steps-table R.kind a) (closes a (In-has R a i))

      shift : (a b c d : ℤ) → b ≡ a +ℤ d → b -ℤ c ≡ (a -ℤ c) +ℤ d
      shift a b c d e = omega (arith, ints, e)

      none : (a : ℤ) → a -ℤ a ≡ pos 0
      none a = omega (arith, ints)

      go : (h : Corner → ℤ) × ((u v : Corner) → In (u, v) (tree_part R placed) → h v ≡ h u +ℤ difference u v) → (h : Corner → ℤ) × IsPotential R difference start h
      go (h, fits) =
          let rises : (u v : Corner) → IsTrue (is_step R u v) → h v ≡ h u +ℤ difference u v =
          rises-along h (peeled R placed (Rises difference h) (λ e i. fits e.0 e.1 i) (λ a i others. left-rises difference h R.kind (is_dark a) a.r a.c (sum_here a i) others)) in
          (λ v. h v -ℤ h start, record { zero = none (h start); along = λ u v e. shift (h u) (h v) (h start) (difference u v) (rises u v e) })

-- Differences that close round each cell of a region have exactly one potential. Of the region it matters that it
-- is placed and in one part, and that V - E + F = 1.
pub closing : (R : Region) → IsPlaced R → IsInOnePart R → HasEulerOne R → (difference : Corner → Corner → ℤ) → ClosesRoundCells R difference
    → (start : Corner) → IsTrue (is_corner_of R start) → HasOnePotential R difference start
closing R placed joined euler difference closes start at = go (potential R placed joined difference euler closes start)
  where
    go : (h : Corner → ℤ) × IsPotential R difference start h → HasOnePotential R difference start
    go (h, p) = (h, p, λ g q v e. potential-one R placed joined difference start at g h q p v e)

-- Only differences that close round each cell have a potential; this is true of every region.
pub potential-closes : (R : Region) (difference : Corner → Corner → ℤ) (start : Corner) (h : Corner → ℤ) → IsPotential R difference start h
    → ClosesRoundCells R difference
potential-closes R difference start h p a a_in =
    subst (λ (es : List Step). int_sum (map (λ e. difference e.0 e.1) es) ≡ pos 0) (sym (steps-table R.kind a))
    (sum-rises difference h R.kind (is_dark a) a.r a.c (round-from (Rises difference h) R a rises))
  where
    rises : (e : Step) → In e (steps_round R.kind a) → Rises difference h e
    rises e i = p.along e.0 e.1 (is_step-from R a e.0 e.1 (has-In R a a_in) i)

-- along each step of a region the residue rises by 1 modulo the rise of a flip
pub residue-step : (R : Region) (u v : Corner) → IsTrue (is_step R u v) → residue R.kind v ≡ (residue R.kind u + 1) % rise R.kind
residue-step R u v e = go (is_step-parts R u v e)
  where
    go : (a : Cell) × In a R.cells × In (u, v) (steps_round R.kind a) → residue R.kind v ≡ (residue R.kind u + 1) % rise R.kind
    go (a, i, j) = residue-move R.kind u v (step-move R.kind u v (round-step R.kind a (u, v) j))

pub accepted-closing : (R : Region) → Accepted R → (difference : Corner → Corner → ℤ) → ClosesRoundCells R difference
    → (start : Corner) → IsTrue (is_corner_of R start) → HasOnePotential R difference start
accepted-closing R accepted difference closes start at = closing R accepted.placed accepted.joined accepted.euler difference closes start at
