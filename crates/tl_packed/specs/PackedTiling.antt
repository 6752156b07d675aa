-- Packed tilings as contracts see them.
use Rattle.tl_layout.specs.declared.layout.Layout.{Layout}
use Rattle.tl_height.specs.HeightFunction.{HeightFunction}

-- the heights of a tiling, and the layout of the strings that hold their marks
pub record PackedTiling : Type 0 where
  pub layout : Layout
  pub heights : HeightFunction
