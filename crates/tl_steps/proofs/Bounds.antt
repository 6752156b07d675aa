-- The height that a step puts is the greatest lawful one while the others stay, or the least.
use Rattle.std.proofs.Common.{◌≡◌, ◌-◌, inl, inr, Bool, true, false, cond, List, map, refl, sym, ◌∙◌, ap, arith, ℤ, pos, negsuc, ◌+ℤ◌, ◌-ℤ◌, ◌≤ℤ◌}
use Rattle.std.specs.Prelude.{IsTrue}
use Rattle.std.proofs.lemmas.Bool.{false_from_ne_true}
use Rattle.std.proofs.lemmas.Int.{ints}
use Rattle.tl_definitions.specs.declared.Kind.{Kind}
use Rattle.tl_definitions.specs.declared.Kind.TheVariants.{Square, Triangle}
use Rattle.tl_definitions.specs.declared.Corner.{Corner}
use Rattle.tl_definitions.specs.declared.Tile.{Tile}
use Rattle.tl_definitions.specs.Lattice.{class_of, corner_eq, rise, steps_in, steps_out}
use Rattle.tl_definitions.specs.Region.{Region, is_inner}
use Rattle.tl_definitions.specs.Accepted.{Accepted}
use Rattle.tl_definitions.specs.Tiling.{is_tiling}
use Rattle.tl_definitions.specs.Flip.{stands_high, stands_low}
use Rattle.tl_definitions.specs.Heights.{height, AreHeights, AreLawful}
use Rattle.tl_definitions.proofs.Corners.{corner_eq-same}
use Rattle.tl_lists.specs.Lists.{present}
use Rattle.tl_lists.proofs.Members.{In, In-map, In-map_parts}
use Rattle.tl_closing.specs.Standing.{falls_from, falls_to}
use Rattle.tl_closing.proofs.Stated.{heights-lawful, inner-step_in, inner-step_out, standing-heights}
use Rattle.tl_steps.specs.Stepping.{AgreeBut, greatest, highest_at, least, lowest_at}
use Rattle.tl_steps.proofs.Extremes.{greatest-one, least-one}
use Rattle.tl_steps.proofs.Read.{IsBeside, beside-class, beside-corner, some-step_in, some-step_out}
use Rattle.tl_steps.proofs.Values.{highest-raised, highest-same, lowest-lowered, lowest-same}

-- ---- by how the tiling stands

module _ (R : Region) (A : List Tile) (numbers : List ℤ) (v : Corner) (accepted : Accepted R) (tiling : IsTrue (is_tiling R A))
    (heights : AreHeights R A numbers) (inner : is_inner R v ≡ true) where
  lawful : AreLawful R numbers
  lawful = heights-lawful R A numbers accepted tiling heights

  pub highest-standing : highest_at R numbers v ≡ cond (stands_low R A v) (height R numbers v +ℤ pos (rise R.kind)) (height R numbers v)
  highest-standing = go (falls_to R numbers v) refl ∙ ap (λ (t : Bool). cond t (height R numbers v +ℤ pos (rise R.kind)) (height R numbers v)) (sym low)
    where
      low : stands_low R A v ≡ falls_to R numbers v
      low = (standing-heights R A (height R numbers) v tiling heights.along inner).1

      go : (t : Bool) → falls_to R numbers v ≡ t → highest_at R numbers v ≡ cond t (height R numbers v +ℤ pos (rise R.kind)) (height R numbers v)
      go true e = highest-raised R numbers v lawful inner e
      go false e = highest-same R numbers v lawful inner e

  pub lowest-standing : lowest_at R numbers v ≡ cond (stands_high R A v) (height R numbers v -ℤ pos (rise R.kind)) (height R numbers v)
  lowest-standing = go (falls_from R numbers v) refl ∙ ap (λ (t : Bool). cond t (height R numbers v -ℤ pos (rise R.kind)) (height R numbers v)) (sym high)
    where
      high : stands_high R A v ≡ falls_from R numbers v
      high = (standing-heights R A (height R numbers) v tiling heights.along inner).0

      less : (k : Kind) (z : ℤ) → z +ℤ negsuc (rise k - 1) ≡ z -ℤ pos (rise k)
      less Square z = omega (arith, ints)
      less Triangle z = omega (arith, ints)

      go : (t : Bool) → falls_from R numbers v ≡ t → lowest_at R numbers v ≡ cond t (height R numbers v -ℤ pos (rise R.kind)) (height R numbers v)
      go true e = lowest-lowered R numbers v lawful inner e ∙ less R.kind (height R numbers v)
      go false e = lowest-same R numbers v lawful inner e

-- ---- of all lawful heights that are the same elsewhere

module _ (R : Region) (numbers others : List ℤ) (v : Corner) (lawful : AreLawful R others) (inner : is_inner R v ≡ true) (agree : AgreeBut R numbers others v) where
  beside-agree : (u : Corner) → IsBeside R.kind v u → height R others u ≡ height R numbers u
  beside-agree u beside =
      agree u (beside-corner R v u inner beside)
      (false_from_ne_true (corner_eq u v) (λ h. beside-class R.kind v u beside (ap (class_of R.kind) (corner_eq-same u v h))))

  -- they rise by no more than 1 along the step from the corner of least height
  pub none-higher : height R others v ≤ℤ highest_at R numbers v
  none-higher = start (some-step_in R.kind v)
    where
      at_most : (x y z w : ℤ) → x ≤ℤ (y +ℤ pos 1) → y ≡ z → w ≡ z → x ≤ℤ (w +ℤ pos 1)
      at_most x y z w l e f = omega (arith, ints, l, e, f)

      go : (u : Corner) × In u (present (steps_in R.kind v)) × (least (map (height R numbers) (present (steps_in R.kind v))) ≡ height R numbers u) → height R others v ≤ℤ highest_at R numbers v
      go (u, i, e) =
          at_most (height R others v) (height R others u) (height R numbers u) (least (map (height R numbers) (present (steps_in R.kind v))))
          (lawful.least u v (inner-step_in R v u inner i)) (beside-agree u (inl i)) e

      start : (u : Corner) × In u (present (steps_in R.kind v)) → height R others v ≤ℤ highest_at R numbers v
      start (u, i) =
          go (In-map_parts (height R numbers) (least (map (height R numbers) (present (steps_in R.kind v)))) (present (steps_in R.kind v))
          (least-one (map (height R numbers) (present (steps_in R.kind v))) (height R numbers u) (In-map (height R numbers) u (present (steps_in R.kind v)) i)))

  -- and to the corner of greatest height
  pub none-lower : lowest_at R numbers v ≤ℤ height R others v
  none-lower = start (some-step_out R.kind v)
    where
      at_least : (x y z w : ℤ) → y ≤ℤ (x +ℤ pos 1) → y ≡ z → w ≡ z → (w -ℤ pos 1) ≤ℤ x
      at_least x y z w l e f = omega (arith, ints, l, e, f)

      go : (u : Corner) × In u (present (steps_out R.kind v)) × (greatest (map (height R numbers) (present (steps_out R.kind v))) ≡ height R numbers u) → lowest_at R numbers v ≤ℤ height R others v
      go (u, i, e) =
          at_least (height R others v) (height R others u) (height R numbers u) (greatest (map (height R numbers) (present (steps_out R.kind v))))
          (lawful.least v u (inner-step_out R v u inner i)) (beside-agree u (inr i)) e

      start : (u : Corner) × In u (present (steps_out R.kind v)) → lowest_at R numbers v ≤ℤ height R others v
      start (u, i) =
          go (In-map_parts (height R numbers) (greatest (map (height R numbers) (present (steps_out R.kind v)))) (present (steps_out R.kind v))
          (greatest-one (map (height R numbers) (present (steps_out R.kind v))) (height R numbers u) (In-map (height R numbers) u (present (steps_out R.kind v)) i)))
