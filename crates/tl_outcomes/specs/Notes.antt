-- What is noted of the sample of some heights.
use Rattle.tl_flip.specs.Flips.{IsDistanceBetween}
use Rattle.tl_height.specs.HeightFunction.{HeightFunction}
use Rattle.tl_height.specs.Letters.{IsDrawnFrom}
use Rattle.tl_outcomes.specs.declared.noted.Noted.{Noted}
use Rattle.tl_outcomes.specs.declared.noted.Noted.TheVariants.{Drawing, Rank}

-- its drawing, or its flip distance from the tiling of other heights
abbrev pub IsNoteOf : HeightFunction → HeightFunction → Noted → Type 0
IsNoteOf bottom sample (Drawing letters) = IsDrawnFrom sample.region sample.numbers letters.items
IsNoteOf bottom sample (Rank rank) = IsDistanceBetween bottom.region bottom.numbers sample.numbers rank
