-- Which flips are lawful, and what they do, by the heights of the tiling.
use Rattle.std.proofs.Common.{◌≡◌, ◌-◌, true, false, ◌||◌, List, refl, ◌∙◌, ℤ, pos, negsuc}
use Rattle.std.proofs.lemmas.Bool.{or_left, or_right}
use Rattle.tl_definitions.specs.declared.Corner.{Corner}
use Rattle.tl_definitions.specs.declared.Tile.{Tile}
use Rattle.tl_definitions.specs.Lattice.{rise}
use Rattle.tl_definitions.specs.Region.{Region, is_inner}
use Rattle.tl_definitions.specs.Accepted.{Accepted}
use Rattle.tl_definitions.specs.Heights.{height}
use Rattle.tl_definitions.specs.Flip.{can_flip, flip}
use Rattle.tl_closing.specs.Changed.{IsChangedAt}
use Rattle.tl_closing.specs.Standing.{falls_from, falls_to}
use Rattle.tl_closing.proofs.Stated.{lowered-flip, raised-flip, standing-heights}
use Rattle.tl_flip.specs.Flips.{IsTilingOf}

module _ (R : Region) (numbers : List ℤ) (v : Corner) where
  -- at an inner corner
  pub can-by : (A : List Tile) → IsTilingOf R numbers A → is_inner R v ≡ true → can_flip R A v ≡ (falls_from R numbers v || falls_to R numbers v)
  can-by A (tiling, heights) inner =
      let both = standing-heights R A (height R numbers) v tiling heights.along inner in
      λ i. both.0 i || both.1 i

  -- and at another
  pub can-outside : (A : List Tile) → is_inner R v ≡ false → can_flip R A v ≡ false
  can-outside A outside = rw outside refl

  pub can-raised : (A : List Tile) → IsTilingOf R numbers A → is_inner R v ≡ true → falls_to R numbers v ≡ true → can_flip R A v ≡ true
  can-raised A tiled inner falls = can-by A tiled inner ∙ or_right (falls_from R numbers v) (falls_to R numbers v) falls

  pub can-lowered : (A : List Tile) → IsTilingOf R numbers A → is_inner R v ≡ true → falls_from R numbers v ≡ true → can_flip R A v ≡ true
  can-lowered A tiled inner falls = can-by A tiled inner ∙ or_left (falls_from R numbers v) (falls_to R numbers v) falls

  pub raised-tiling : (others : List ℤ) (A : List Tile) → Accepted R → IsTilingOf R numbers A → is_inner R v ≡ true → falls_to R numbers v ≡ true
      → IsChangedAt R numbers others v (pos (rise R.kind)) → IsTilingOf R others (flip R A v)
  raised-tiling others A accepted (tiling, heights) inner falls changed =
      raised-flip R A numbers others v accepted tiling heights ((standing-heights R A (height R numbers) v tiling heights.along inner).1 ∙ falls) changed

  pub lowered-tiling : (others : List ℤ) (A : List Tile) → Accepted R → IsTilingOf R numbers A → is_inner R v ≡ true → falls_from R numbers v ≡ true
      → IsChangedAt R numbers others v (negsuc (rise R.kind - 1)) → IsTilingOf R others (flip R A v)
  lowered-tiling others A accepted (tiling, heights) inner falls changed =
      lowered-flip R A numbers others v accepted tiling heights ((standing-heights R A (height R numbers) v tiling heights.along inner).0 ∙ falls) changed
