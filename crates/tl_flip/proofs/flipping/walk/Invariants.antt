use Rattle.std.proofs.Common.{◌≡◌, List}
use Rattle.tl_definitions.specs.declared.Tile.{Tile}
use Rattle.tl_flip.specs.Flips.{IsTilingOf}
use Rattle.tl_flip.proofs.Walks.{HasMade}
use Rattle.tl_flip.proofs.flipping.walk.Given as goal

abbrev pub invariant-loop-k : goal.invariant-loop-k
invariant-loop-k l = record {
  region : l.heights.region ≡ l.fn.heights.region;
  made : (A : List Tile) → IsTilingOf l.fn.heights.region l.fn.heights.numbers A → HasMade l.fn.heights.region l.heights.numbers A l.corners l.k;
}
