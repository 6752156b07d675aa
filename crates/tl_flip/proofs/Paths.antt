-- Flip paths with one flip more.
use Rattle.std.proofs.Common.{List, [], ◌∷◌, ◌++◌, subst, ap, sym}
use Rattle.std.specs.Prelude.{IsTrue}
use Rattle.tl_definitions.specs.declared.Corner.{Corner}
use Rattle.tl_definitions.specs.declared.Tile.{Tile}
use Rattle.tl_definitions.specs.Region.{Region}
use Rattle.tl_definitions.specs.Flip.{can_flip, flip, IsFlipPath}

pub path-more : (R : Region) (A H : List Tile) (path : List Corner) (v : Corner) → IsFlipPath R A path H → IsTrue (can_flip R H v)
    → IsFlipPath R A (path ++ v ∷ []) (flip R H v)
path-more R A H [] v same can = (subst (λ (C : List Tile). IsTrue (can_flip R C v)) (sym same) can, ap (λ (C : List Tile). flip R C v) same)
path-more R A H (u ∷ path) v (first, rest) can = (first, path-more R (flip R A u) H path v rest can)
