-- The corners of a block: where they stand, and what lies round them.
use Rattle.std.proofs.Common.{◌≡◌, ℕ, zero, suc, ◌+◌, ◌-◌, ◌*◌, ◌/◌, ◌%◌, ◌<◌, ◌≤◌, ◌⊎◌, inl, inr, true, List, length, get_or, Some, refl, sym, ◌∙◌, ap, subst, arith}
use Rattle.std.specs.Prelude.{slice_get}
use Rattle.std.proofs.lemmas.List.{get_or-map, length-map}
use Rattle.std.proofs.lemmas.Nat.{mul-add-lt, div-mul-add, mod-mul-add}
use Rattle.std.proofs.lemmas.Option.{slice_get-get_or}
use Rattle.std.proofs.Math.Nat.{mul-le-mul, mul_comm}
use Rattle.tl_definitions.specs.declared.Corner.{Corner}
use Rattle.tl_definitions.specs.declared.Kind.{Kind}
use Rattle.tl_definitions.specs.declared.Kind.TheVariants.{Square, Triangle}
use Rattle.tl_definitions.specs.Lattice.{cell_width, corner}
use Rattle.tl_definitions.specs.Region.{Region, inner_corners, is_inner}
use Rattle.tl_definitions.specs.Accepted.{IsPlaced}
use Rattle.tl_definitions.specs.Heights.{height_count}
use Rattle.tl_definitions.proofs.Corners.{same_place}
use Rattle.tl_definitions.proofs.InnerNumbers.{IsAmongCells, inner-among, inner-at}
use Rattle.tl_lists.proofs.Tests.{some_same}
use Rattle.tl_grid.specs.Survey.{inner_places, place_in}
use Rattle.tl_sweep.specs.Blocks.{IsBlock}

-- ---- round an inner corner

-- its place, and that there are places enough before it and after it
pub record IsAround (width place count : ℕ) : Type 0 where
  pub above : width < place
  pub left : 1 ≤ place % width
  pub below : place + width + 2 < count

pub inner-around : (R : Region) (v : Corner) → IsPlaced R → is_inner R v ≡ true → IsAround (R.columns + 2) (v.r * (R.columns + 2) + v.x) (height_count R)
inner-around R v placed inner = go (inner-among R v placed inner)
  where
    go : IsAmongCells R v → IsAround (R.columns + 2) (v.r * (R.columns + 2) + v.x) (height_count R)
    go p =
        let first : 1 * (R.columns + 2) ≤ v.r * (R.columns + 2) = mul-le-mul p.below_first_row refl_le in
        let last : (v.r + 2) * (R.columns + 2) ≤ (R.rows + 1) * (R.columns + 2) = mul-le-mul rows refl_le in
        record {
          above = omega (arith, first, p.right_of_first_column);
          left = subst (λ (n : ℕ). 1 ≤ n) (sym (mod-mul-add v.r (R.columns + 2) v.x (omega (arith, p.column)))) p.right_of_first_column;
          below = omega (arith, last, p.column);
        }
      where
        refl_le : R.columns + 2 ≤ R.columns + 2
        refl_le = omega arith

        rows : v.r + 2 ≤ R.rows + 1
        rows = omega (arith, p.row)

-- the same in the widths and lengths that the code has read
pub below-by : (v : Corner) (columns wanted count size : ℕ) → columns ≡ wanted → size ≡ count → IsAround (wanted + 2) (v.r * (wanted + 2) + v.x) count
    → v.r * (columns + 2) + v.x + (columns + 2) + 2 < size
below-by v columns wanted count size e f a = subst (λ (n : ℕ). v.r * (n + 2) + v.x + (n + 2) + 2 < size) (sym e) (subst (λ (n : ℕ). v.r * (wanted + 2) + v.x + (wanted + 2) + 2 < n) (sym f) a.below)

stride-small : (k : Kind) → cell_width k ≤ 2
stride-small Square = omega arith
stride-small Triangle = omega arith

-- ---- the corners of a block

module _ (R : Region) (placed : IsPlaced R) (number place count : ℕ) (block : IsBlock R number place count) where
  abbrev pub corner_of : ℕ → Corner
  corner_of j = get_or (inner_corners R) (number + j) (corner 0 0)

  among : (j : ℕ) → j < count → number + j < length (inner_corners R)
  among j h = omega (arith, h, block.within, length-map (inner_corners R) (place_in (R.columns + 2)))

  pub block-at : (j : ℕ) → j < count → slice_get (inner_corners R) (number + j) ≡ Some (corner_of j)
  block-at j h = slice_get-get_or (inner_corners R) (number + j) (corner 0 0) (among j h)

  pub block-inner : (j : ℕ) → j < count → is_inner R (corner_of j) ≡ true
  block-inner j h = inner-at R (corner_of j) (number + j) (block-at j h)

  pub block-place : (j : ℕ) → j < count → (corner_of j).r * (R.columns + 2) + (corner_of j).x ≡ place + cell_width R.kind * j
  block-place j h = sym (get_or-map (place_in (R.columns + 2)) (inner_corners R) (number + j) (corner 0 0) 0 (among j h)) ∙ block.each j h

  column : (j : ℕ) → j < count → (corner_of j).x < R.columns
  column j h = (inner-among R (corner_of j) placed (block-inner j h)).column

  -- they stand in one row
  pub block-row : (j : ℕ) → j < count → ((corner_of j).r ≡ place / (R.columns + 2)) × ((corner_of j).x ≡ place % (R.columns + 2) + cell_width R.kind * j)
  block-row zero h =
      let v = corner_of 0 in
      let here : v.r * (R.columns + 2) + v.x ≡ place = omega (arith, block-place 0 h) in
      let within : v.x < R.columns + 2 = omega (arith, column 0 h) in
      let row : v.r ≡ place / (R.columns + 2) = sym (div-mul-add v.r (R.columns + 2) v.x within) ∙ ap (λ (n : ℕ). n / (R.columns + 2)) here in
      let first : v.x ≡ place % (R.columns + 2) = sym (mod-mul-add v.r (R.columns + 2) v.x within) ∙ ap (λ (n : ℕ). n % (R.columns + 2)) here in
      (row, omega (arith, first))
  block-row (suc j) h = go (block-row j (omega (arith, h)))
    where
      u : Corner
      u = corner_of j

      next : Corner
      next = corner u.r (u.x + cell_width R.kind)

      same : corner_of (suc j) ≡ next
      same =
          same_place (corner_of (suc j)) next (R.columns + 2) (omega (arith, column (suc j) h)) (omega (arith, column j (omega (arith, h)), stride-small R.kind))
          (omega (arith, block-place (suc j) h, block-place j (omega (arith, h))))

      go : (u.r ≡ place / (R.columns + 2)) × (u.x ≡ place % (R.columns + 2) + cell_width R.kind * j)
          → ((corner_of (suc j)).r ≡ place / (R.columns + 2)) × ((corner_of (suc j)).x ≡ place % (R.columns + 2) + cell_width R.kind * suc j)
      go (row, x) =
          let r : (corner_of (suc j)).r ≡ u.r = ap (λ (w : Corner). w.r) same in
          let c : (corner_of (suc j)).x ≡ u.x + cell_width R.kind = ap (λ (w : Corner). w.x) same in
          (r ∙ row, omega (arith, c, x))

  -- what stands at a number of the block
  pub block-is : (j : ℕ) (v : Corner) → j < count → slice_get (inner_corners R) (number + j) ≡ Some v → corner_of j ≡ v
  block-is j v h e = some_same (corner_of j) v (sym (block-at j h) ∙ e)

  -- round its first and its last place
  pub first-around : IsAround (R.columns + 2) place (height_count R)
  first-around =
      subst (λ (p : ℕ). IsAround (R.columns + 2) p (height_count R)) (omega (arith, block-place 0 block.some))
      (inner-around R (corner_of 0) placed (block-inner 0 block.some))

  pub last-around : IsAround (R.columns + 2) (place + cell_width R.kind * (count - 1)) (height_count R)
  last-around =
      subst (λ (p : ℕ). IsAround (R.columns + 2) p (height_count R)) (block-place (count - 1) last) (inner-around R (corner_of (count - 1)) placed (block-inner (count - 1) last))
    where
      last : count - 1 < count
      last = omega (arith, block.some)
