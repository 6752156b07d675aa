-- Lawful heights are those of a tiling, and so are the heights after steps: they are lawful.
use Rattle.std.proofs.Common.{◌≡◌, ℕ, Bool, true, List, ℤ}
use Rattle.std.specs.Prelude.{fold, IsTrue}
use Rattle.tl_definitions.specs.declared.Corner.{Corner}
use Rattle.tl_definitions.specs.declared.Tile.{Tile}
use Rattle.tl_definitions.specs.Region.{Region, is_inner}
use Rattle.tl_definitions.specs.Accepted.{Accepted}
use Rattle.tl_definitions.specs.Tiling.{is_tiling}
use Rattle.tl_definitions.specs.Heights.{AreHeights, AreLawful}
use Rattle.tl_definitions.specs.Sweep.{step, sweep_class}
use Rattle.tl_closing.proofs.Stated.{has-tiling, heights-lawful}
use Rattle.tl_steps.specs.Stepping.{AreChosenOf, AreStepped, AreSwept, is_among, is_of_class}
use Rattle.tl_steps.proofs.OneStep.{HasHeights, step-heights}
use Rattle.tl_steps.proofs.Chosen.{chosen-heights}
use Rattle.tl_steps.proofs.Class.{class-heights}

module _ (R : Region) (numbers others : List ℤ) (accepted : Accepted R) (lawful : AreLawful R numbers) where
  -- so it is enough to know what becomes of a tiling
  by-tiling : (after : List Tile → List Tile) → ((A : List Tile) → HasHeights R A numbers → HasHeights R (after A) others) → AreLawful R others
  by-tiling after kept = go (has-tiling R numbers accepted lawful)
    where
      of_tiling : (B : List Tile) → HasHeights R B others → AreLawful R others
      of_tiling B has = heights-lawful R B others accepted has.0 has.1

      go : (A : List Tile) × IsTrue (is_tiling R A) × AreHeights R A numbers × ((B : List Tile) → IsTrue (is_tiling R B) → AreHeights R B numbers → B ≡ A) → AreLawful R others
      go (A, tiling, heights, only) = of_tiling (after A) (kept A (tiling, heights))

  pub stepped-lawful : (v : Corner) (bit : Bool) → is_inner R v ≡ true → AreStepped R numbers others v bit → AreLawful R others
  stepped-lawful v bit inner stepped =
      by-tiling (λ A. step R A v bit) (λ A has. step-heights R A numbers others v accepted has.0 has.1 inner bit stepped)

  pub chosen-lawful : (bits : ℕ → Bool) (k : ℕ) (chosen : List (ℕ × Corner)) → AreChosenOf R k chosen → AreSwept R numbers others bits (is_among chosen) → AreLawful R others
  chosen-lawful bits k chosen of_class swept =
      by-tiling (λ A. fold (λ B p. step R B p.1 (bits p.0)) A chosen) (λ A has. chosen-heights R bits k accepted chosen A numbers others has of_class swept)

  pub class-lawful : (bits : ℕ → Bool) (k : ℕ) → AreSwept R numbers others bits (is_of_class R k) → AreLawful R others
  class-lawful bits k swept = by-tiling (sweep_class R bits k) (λ A has. class-heights R A numbers others bits k accepted has swept)
