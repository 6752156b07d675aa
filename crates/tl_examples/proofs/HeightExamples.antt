-- Heights of the two tilings of the square of four cells, by evaluation.
use Rattle.std.proofs.Common.{◌≡◌, List, [], ◌∷◌, map, refl, codes, pos, negsuc, ℤ}
use Rattle.std.specs.Prelude.{flat_map, ◌-ℤ◌}
use Rattle.tl_definitions.specs.declared.Kind.TheVariants.{Square}
use Rattle.tl_definitions.specs.declared.Tile.{Tile}
use Rattle.tl_definitions.specs.Region.{Region, steps, corner_places}
use Rattle.tl_formats.specs.RegionText.{region_of}
use Rattle.tl_definitions.specs.Heights.{height, climb}
use Rattle.tl_formats.proofs.Cases.{drawn}

abbrev two_two : Region
two_two = region_of Square (codes "##" ∷ codes "##" ∷ [])

-- how much the numbers rise along each directed step, and how much they are to rise
abbrev rises : Region → List ℤ → List ℤ
rises R numbers = flat_map (λ u. map (λ v. height R numbers v -ℤ height R numbers u) (steps R u)) (corner_places R)

abbrev climbs : Region → List Tile → List ℤ
climbs R A = flat_map (λ u. map (λ v. climb R A u v) (steps R u)) (corner_places R)

-- three rows of the corner columns 0 to 3; no cell has a corner in column 3
abbrev with_middle : ℤ → List ℤ
with_middle h =
    pos 0 ∷ negsuc 0 ∷ pos 0 ∷ pos 0 ∷ pos 1 ∷ h ∷ pos 1 ∷ pos 0 ∷ pos 0 ∷ negsuc 0 ∷ pos 0 ∷ pos 0 ∷ []

level : rises two_two (with_middle (pos 2)) ≡ climbs two_two (drawn two_two (codes "><" ∷ codes "><" ∷ []))
level = refl

upright : rises two_two (with_middle (negsuc 1)) ≡ climbs two_two (drawn two_two (codes "vv" ∷ codes "^^" ∷ []))
upright = refl
