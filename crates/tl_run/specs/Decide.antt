-- What `decide` answers: the top tiling of a region, or why it has no tiling.
use Rattle.std.specs.Prelude.{◌⊎◌, ℕ, List, [], ◌∷◌, ◌++◌, codes}
use Rattle.tl_definitions.specs.declared.Tile.{Tile}
use Rattle.tl_definitions.specs.Region.{Region}
use Rattle.tl_definitions.specs.Flip.{IsTop}
use Rattle.tl_definitions.specs.Obstruction.{Obstruction}
use Rattle.tl_formats.specs.Texts.{line}
use Rattle.tl_formats.specs.Drawing.{drawing}
use Rattle.tl_formats.specs.ObstructionText.{obstruction_text}
use Rattle.tl_extreme.specs.Verdicts.{IsReason}
use Rattle.tl_run.specs.Answers.{Answer, answer, Allows, Is}
use Rattle.tl_run.specs.Readers.{OfRegion, AtEnd}

-- a tiling
abbrev pub tiled : Region → List Tile → Answer
tiled R A = answer (line (codes "tiling" ∷ []) ++ drawing R A) 0

-- why there is none
abbrev pub blocked : Obstruction → Answer
blocked o = answer (obstruction_text o) 1

-- the region has no tiling, for this reason, an open one exactly where the total isn't 0
abbrev pub IsBlocked : Region → Allows
IsBlocked R a = (o : Obstruction) × IsReason R o × Is (blocked o) a

-- the region has a tiling, and this is the top one; or it has none
abbrev pub Decided : Region → Allows
Decided R a = ((A : List Tile) × IsTop R A × Is (tiled R A) a) ⊎ IsBlocked R a

abbrev pub RegionReply : Region → List ℕ → Allows
RegionReply R rest = AtEnd rest (Decided R)

abbrev pub DecideReply : List ℕ → Allows
DecideReply input = OfRegion input RegionReply
