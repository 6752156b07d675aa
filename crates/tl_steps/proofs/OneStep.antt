-- The heights after a step at an inner corner are those of the tiling after it.
use Rattle.std.proofs.Common.{◌≡◌, ◌-◌, Bool, true, false, ◌||◌, List, cond, refl, sym, ◌∙◌, subst, ℤ, pos, negsuc, ◌+ℤ◌}
use Rattle.std.specs.Prelude.{IsTrue}
use Rattle.tl_definitions.specs.declared.Corner.{Corner}
use Rattle.tl_definitions.specs.declared.Tile.{Tile}
use Rattle.tl_definitions.specs.Lattice.{corner_eq, rise}
use Rattle.tl_definitions.specs.Region.{Region, is_corner_of, is_inner}
use Rattle.tl_definitions.specs.Accepted.{Accepted}
use Rattle.tl_definitions.specs.Tiling.{is_tiling}
use Rattle.tl_definitions.specs.Flip.{put_high, put_low, stands_high, stands_low}
use Rattle.tl_definitions.specs.Heights.{height, AreHeights, AreLawful}
use Rattle.tl_definitions.specs.Sweep.{step}
use Rattle.tl_definitions.proofs.Corners.{corner_eq-same}
use Rattle.tl_closing.specs.Changed.{IsChangedAt}
use Rattle.tl_closing.specs.Standing.{falls_from, falls_to}
use Rattle.tl_closing.proofs.Stated.{heights-lawful, lowered-put_low, raised-put_high, same-numbers, standing-heights}
use Rattle.tl_samples.proofs.Put.{put_high-stands_high, put_low-stands_low}
use Rattle.tl_steps.specs.Stepping.{AreStepped, stepped_height}
use Rattle.tl_steps.proofs.Values.{highest-raised, highest-same, lowest-lowered, lowest-same}

-- a tiling with these heights
abbrev pub HasHeights : Region → List Tile → List ℤ → Type 0
HasHeights R A numbers = IsTrue (is_tiling R A) × AreHeights R A numbers

module _ (R : Region) (A : List Tile) (numbers others : List ℤ) (v : Corner) (accepted : Accepted R) (tiling : IsTrue (is_tiling R A))
    (heights : AreHeights R A numbers) (inner : is_inner R v ≡ true) where
  lawful : AreLawful R numbers
  lawful = heights-lawful R A numbers accepted tiling heights

  falls-to : stands_low R A v ≡ falls_to R numbers v
  falls-to = (standing-heights R A (height R numbers) v tiling heights.along inner).1

  falls-from : stands_high R A v ≡ falls_from R numbers v
  falls-from = (standing-heights R A (height R numbers) v tiling heights.along inner).0

  moved : (B C : List Tile) → B ≡ C → HasHeights R C others → HasHeights R B others
  moved B C same has = subst (λ (D : List Tile). HasHeights R D others) (sym same) has

  changed : (bit : Bool) (more : ℤ) → AreStepped R numbers others v bit → stepped_height R numbers v bit ≡ height R numbers v +ℤ more → IsChangedAt R numbers others v more
  changed bit more stepped e = record { heights = stepped.heights; here = stepped.here ∙ e; elsewhere = stepped.elsewhere }

  -- where the step puts the height that is there already, nothing changes
  unchanged : (bit : Bool) → AreStepped R numbers others v bit → stepped_height R numbers v bit ≡ height R numbers v → HasHeights R A others
  unchanged bit stepped e = (tiling, subst (λ (others : List ℤ). AreHeights R A others) (same-numbers R numbers others heights.heights stepped.heights (λ w i. go w i (corner_eq w v) refl)) heights)
    where
      go : (w : Corner) → is_corner_of R w ≡ true → (t : Bool) → corner_eq w v ≡ t → height R numbers w ≡ height R others w
      go w i true h = let same : w ≡ v = corner_eq-same w v h in subst (λ (u : Corner). height R numbers u ≡ height R others u) (sym same) (sym (stepped.here ∙ e))
      go w i false h = sym (stepped.elsewhere w i h)

  -- ---- the step, by how the tiling stands

  abbrev by_standing : Bool → Bool → Bool → List Tile
  by_standing high low bit = cond (high || low) (cond bit (put_high R A v) (put_low R A v)) A

  by : (high low bit : Bool) → stands_high R A v ≡ high → stands_low R A v ≡ low → step R A v bit ≡ by_standing high low bit
  by high low bit e f = λ i. by_standing (e i) (f i) bit

  pub step-heights : (bit : Bool) → AreStepped R numbers others v bit → HasHeights R (step R A v bit) others
  step-heights true stepped = go (stands_high R A v) (stands_low R A v) refl refl
    where
      raised : stands_low R A v ≡ true → HasHeights R (put_high R A v) others
      raised low =
          raised-put_high R A numbers others v accepted tiling heights low
          (changed true (pos (rise R.kind)) stepped (highest-raised R numbers v lawful inner (sym falls-to ∙ low)))

      same : stands_low R A v ≡ false → HasHeights R A others
      same low = unchanged true stepped (highest-same R numbers v lawful inner (sym falls-to ∙ low))

      go : (high low : Bool) → stands_high R A v ≡ high → stands_low R A v ≡ low → HasHeights R (step R A v true) others
      go true true e f = moved (step R A v true) (put_high R A v) (by true true true e f) (raised f)
      go false true e f = moved (step R A v true) (put_high R A v) (by false true true e f) (raised f)
      go true false e f = moved (step R A v true) A (by true false true e f ∙ put_high-stands_high R A v accepted.placed tiling e) (same f)
      go false false e f = moved (step R A v true) A (by false false true e f) (same f)
  step-heights false stepped = go (stands_high R A v) (stands_low R A v) refl refl
    where
      lowered : stands_high R A v ≡ true → HasHeights R (put_low R A v) others
      lowered high =
          lowered-put_low R A numbers others v accepted tiling heights high
          (changed false (negsuc (rise R.kind - 1)) stepped (lowest-lowered R numbers v lawful inner (sym falls-from ∙ high)))

      same : stands_high R A v ≡ false → HasHeights R A others
      same high = unchanged false stepped (lowest-same R numbers v lawful inner (sym falls-from ∙ high))

      go : (high low : Bool) → stands_high R A v ≡ high → stands_low R A v ≡ low → HasHeights R (step R A v false) others
      go true true e f = moved (step R A v false) (put_low R A v) (by true true false e f) (lowered e)
      go true false e f = moved (step R A v false) (put_low R A v) (by true false false e f) (lowered e)
      go false true e f = moved (step R A v false) A (by false true false e f ∙ put_low-stands_low R A v accepted.placed tiling f) (same e)
      go false false e f = moved (step R A v false) A (by false false false e f) (same e)
