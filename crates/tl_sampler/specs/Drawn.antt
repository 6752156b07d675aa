-- What a drawn sample is, by its heights.
use Rattle.std.specs.Prelude.{◌≡◌, ℕ, Bool, List, ℤ}
use Rattle.tl_definitions.specs.declared.Tile.{Tile}
use Rattle.tl_definitions.specs.Region.{Region}
use Rattle.tl_definitions.specs.Heights.{AreHeights, AreLawful}
use Rattle.tl_definitions.specs.Sweep.{IsSample}
use Rattle.tl_height.specs.HeightFunction.{HeightFunction}
use Rattle.tl_packed.specs.PackedTiling.{PackedTiling}

-- These are the heights of the sample with these bits, whose start this is.
pub record AreHeightsOfSample (R : Region) (bits : ℕ → ℕ → Bool) (bound T : ℕ) (h : HeightFunction) : Type 0 where
  pub tiles : List Tile
  pub sample : IsSample R bits bound T tiles
  pub heights : AreHeights R tiles h.numbers

-- A sampler's two states are of the chain whose bottom this is, and so are the region of the sample and the spare numbers.
pub record IsOfChain (bottom low high : PackedTiling) (R : Region) (spare : List ℤ) : Type 0 where
  pub low_layout : low.layout ≡ bottom.layout
  pub low_region : low.heights.region ≡ bottom.heights.region
  pub high_layout : high.layout ≡ bottom.layout
  pub high_region : high.heights.region ≡ bottom.heights.region
  pub sample_region : R ≡ bottom.heights.region
  pub spare_lawful : AreLawful bottom.heights.region spare
