-- From the greatest and the least lawful heights to the top and the bottom tiling.
use Rattle.std.proofs.Common.{◌≡◌, List, refl, ◌∙◌, ℤ, pos}
use Rattle.std.specs.Prelude.{◌≢◌, IsTrue}
use Rattle.tl_definitions.specs.declared.Tile.{Tile}
use Rattle.tl_definitions.specs.Region.{Region}
use Rattle.tl_definitions.specs.Accepted.{Accepted}
use Rattle.tl_definitions.specs.Tiling.{is_tiling}
use Rattle.tl_definitions.specs.Obstruction as why
use Rattle.tl_definitions.specs.Obstruction.{IsObstruction, total}
use Rattle.tl_definitions.specs.Heights.{AreHeights}
use Rattle.tl_closing.proofs.Stated.{has-tiling}
use Rattle.tl_lawful.specs.Order.{AreGreatest, AreLeast}
use Rattle.tl_lawful.proofs.Stated.{bottom-least, one-bottom, one-top, top-greatest}
use Rattle.tl_height.specs.HeightFunction.{HeightFunction}
use Rattle.tl_obstruction.proofs.AlongPaths.{no-tiling}
use Rattle.tl_extreme.specs.Undercuts.{IsGapForm}
use Rattle.tl_extreme.specs.Verdicts.{AreTopHeights, AreBottomHeights, IsReason}

-- ---- the two tilings

abbrev pub heights-by : List ℤ → Region → HeightFunction
heights-by numbers R = record { region = R; numbers = numbers }

module _ (R : Region) (accepted : Accepted R) where
  pub top-heights : (numbers : List ℤ) → AreGreatest R numbers → AreTopHeights R (heights-by numbers R)
  top-heights numbers greatest = go (has-tiling R numbers accepted greatest.0)
    where
      go : (A : List Tile) × IsTrue (is_tiling R A) × AreHeights R A numbers × ((B : List Tile) → IsTrue (is_tiling R B) → AreHeights R B numbers → B ≡ A)
          → AreTopHeights R (heights-by numbers R)
      go (A, tiling, heights, only) =
          let top = (top-greatest R accepted A numbers tiling heights).1 greatest in
          record { region = refl; greatest = greatest; tiles = A; top = top; heights = heights; only = λ B other. one-top R accepted B A other top }

  pub bottom-heights : (numbers : List ℤ) → AreLeast R numbers → AreBottomHeights R (heights-by numbers R)
  bottom-heights numbers least = go (has-tiling R numbers accepted least.0)
    where
      go : (A : List Tile) × IsTrue (is_tiling R A) × AreHeights R A numbers × ((B : List Tile) → IsTrue (is_tiling R B) → AreHeights R B numbers → B ≡ A)
          → AreBottomHeights R (heights-by numbers R)
      go (A, tiling, heights, only) =
          let bottom = (bottom-least R accepted A numbers tiling heights).1 least in
          record { region = refl; least = least; tiles = A; bottom = bottom; heights = heights; only = λ B other. one-bottom R accepted B A other bottom }

  -- ---- reasons

  pub open-reason : (n : ℤ) → n ≡ total R → n ≢ pos 0 → IsReason R (why.Open n)
  open-reason n is other =
      record {
        holds = (is, other);
        is_open = (λ _. tt, λ _ e. other (is ∙ e));
        no_tiling = no-tiling R accepted (why.Open n) (is, other);
      }

  pub gap-reason : total R ≡ pos 0 → (o : why.Obstruction) → IsObstruction R o → IsGapForm o → IsReason R o
  gap-reason balanced (why.Open n) holds form = absurd form
  gap-reason balanced (why.Gap rise path) holds form =
      record {
        holds = holds;
        is_open = (λ unbalanced. unbalanced balanced, λ none. absurd none);
        no_tiling = no-tiling R accepted (why.Gap rise path) holds;
      }
