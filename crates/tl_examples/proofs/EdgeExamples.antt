-- Cases at the edges of the rules, which the larger examples do not reach.
use Rattle.std.proofs.Common.{◌≡◌, ℕ, false, [], ◌∷◌, length, refl, codes, replicate, Some, None, Err}
use Rattle.std.specs.Prelude.{find}
use Rattle.std.specs.List.{list_any}
use Rattle.tl_definitions.specs.declared.Kind.TheVariants.{Square, Triangle}
use Rattle.tl_text.specs.declared.Command.TheVariants.{Sample}
use Rattle.tl_text.specs.declared.SampleJob.{SampleJob}
use Rattle.tl_text.specs.declared.Shape.TheVariants.{Aztec, Hexagon}
use Rattle.tl_definitions.specs.Lattice.{cell, corner}
use Rattle.tl_definitions.specs.Region.{corner_places}
use Rattle.tl_definitions.specs.Accepted.{is_pinch}
use Rattle.tl_formats.specs.RegionText.{region_of, region_of_lines, too_large, is_too_large}
use Rattle.tl_formats.specs.Drawing.{drawing_refusal, unmatched}
use Rattle.tl_definitions.specs.Flip.{can_flip}
use Rattle.tl_text.specs.Words.{command}
use Rattle.tl_text.specs.Shapes.{shape_text}
use Rattle.tl_formats.proofs.Cases.{input, drawn}

-- a pinch whose runs go round the beginning of the ring
pinch_turned : (let R = region_of Square (codes "###" ∷ codes "#.#" ∷ codes ".##" ∷ []) in find (is_pinch R) (corner_places R)) ≡ Some (corner 2 1)
pinch_turned = refl

-- one run that goes round the beginning of the ring
no_pinch : list_any (is_pinch (region_of Square (codes "##" ∷ codes "#." ∷ []))) (corner_places (region_of Square (codes "##" ∷ codes "#." ∷ []))) ≡ false
no_pinch = refl

no_pinch_turned : list_any (is_pinch (region_of Square (codes "#." ∷ codes "##" ∷ []))) (corner_places (region_of Square (codes "#." ∷ codes "##" ∷ []))) ≡ false
no_pinch_turned = refl

rows_512 : is_too_large (region_of Square (replicate 512 (codes "#"))) ≡ false
rows_512 = refl

rows_513 : region_of_lines (codes "square" ∷ replicate 513 (codes "#")) ≡ Err too_large
rows_513 = refl

columns_512 : is_too_large (region_of Square (replicate 512 35 ∷ [])) ≡ false
columns_512 = refl

-- a triangle that points down has no neighbour below
not_below : drawing_refusal (region_of Triangle (codes ".#" ∷ codes ".#" ∷ [])) (codes ".v" ∷ codes ".^" ∷ []) ≡ Some (unmatched (cell 0 1))
not_below = refl

-- a letter that names a cell outside, and one that names a negative column
names_outside : drawing_refusal (region_of Square (codes "##" ∷ [])) (codes "<>" ∷ []) ≡ Some (unmatched (cell 0 0))
names_outside = refl

-- a corner of the boundary can't be flipped, also where its cells share a tile
boundary_stays : can_flip (region_of Square (codes "##" ∷ codes "##" ∷ [])) (drawn (region_of Square (codes "##" ∷ codes "##" ∷ [])) (codes "><" ∷ codes "><" ∷ [])) (corner 0 1) ≡ false
boundary_stays = refl

job : ℕ → SampleJob
job seed = record { seed = seed; count = 1; bound = 24; workers = 1; bands = 1 }

digits_20 : command (codes "sample" ∷ codes "--seed" ∷ codes "00000000000000000007" ∷ []) ≡ Some (Sample (job 7))
unfolding job
digits_20 = refl

digits_21 : command (codes "sample" ∷ codes "--seed" ∷ codes "000000000000000000007" ∷ []) ≡ None
digits_21 = refl

no_value : command (codes "sample" ∷ codes "--seed" ∷ []) ≡ None
no_value = refl

empty_value : command (codes "sample" ∷ codes "--seed=" ∷ []) ≡ None
empty_value = refl

flag_value : command (codes "gen" ∷ codes "--shape=aztec" ∷ codes "--order=2" ∷ codes "--summary=1" ∷ []) ≡ None
flag_value = refl

help : command (codes "sample" ∷ codes "--help" ∷ []) ≡ None
help = refl

aztec_1 : shape_text Aztec 1 ≡ input (codes "square" ∷ codes "##" ∷ codes "##" ∷ [])
aztec_1 = refl

hexagon_2 : shape_text Hexagon 2 ≡ input (codes "triangle" ∷ codes "..#####" ∷ codes ".#######" ∷ codes ".#######" ∷ codes "..#####" ∷ [])
hexagon_2 = refl

hexagon_cells : length ((region_of Triangle (codes "..#####" ∷ codes ".#######" ∷ codes ".#######" ∷ codes "..#####" ∷ [])).cells) ≡ 24
hexagon_cells = refl
