use Rattle.std.proofs.Common.{◌≡◌, ◌<◌, List, [], ◌∷◌, length, refl, sym, ◌∙◌, ap, subst, arith, pos, negsuc, ℤ, codes}
use Rattle.std.specs.Prelude.{IfOk}
use Rattle.tl_definitions.specs.Region.{Region, inner_corners}
use Rattle.tl_formats.specs.RegionText.{IsRegionText}
use Rattle.tl_definitions.specs.Heights.{AreLawful}
use Rattle.tl_lists.specs.Lists.{put_at}
use Rattle.tl_height.specs.HeightFunction.{HeightFunction}
use Rattle.tl_height.proofs.Examples.{two_two, two_two-text, with_middle, level_lawful, upright_lawful}
use Rattle.tl_height.proofs.tests.a_square_has_two_height_functions.Goals as goal
use Rattle.tl_height.proofs.tests.a_square_has_two_height_functions.Goals.{In-Ok, After-of_numbers-heights}
use Rattle.tl_height.proofs.tests.a_square_has_two_height_functions.Given.{Over}

region_is : (g : Over) (c : In-Ok g) → c.in-Ok.region ≡ two_two
region_is g c =
    two_two-text c.in-Ok.region
    (subst (λ r. IfOk r (λ p. IsRegionText (codes "square" ∷ codes "##" ∷ codes "##" ∷ []) p.0)) c.in-Ok.is c.read_region-read.ensures.region)

heights_are : (g : Over) (c : After-of_numbers-heights g) → c.in-Ok.region ≡ two_two → (c.of_numbers-heights.result.region ≡ two_two) × (c.of_numbers-heights.result.numbers ≡ with_middle (pos 2))
heights_are g c same = (
  ap (λ (f : HeightFunction). f.region) c.of_numbers-heights.ensures ∙ same,
  ap (λ (f : HeightFunction). f.numbers) c.of_numbers-heights.ensures ∙ c.in_ok-level.ensures.items,
)

some_inner : (R : Region) → R ≡ two_two → 0 < length (inner_corners R)
some_inner R same = subst (λ (S : Region). 0 < length (inner_corners S)) (sym same) one
  where
    one : 0 < length (inner_corners two_two)
    one = let count : length (inner_corners two_two) ≡ 1 = refl in omega (arith, count)

pub of_numbers-heights-requires : goal.of_numbers-heights-requires
of_numbers-heights-requires g c =
    subst (λ (R : Region). AreLawful R c.in_ok-level.level.items) (sym (region_is g (goal.at.of_numbers-heights-requires g c).In-Ok))
    (subst (AreLawful two_two) (sym c.in_ok-level.ensures.items) level_lawful)

pub standing-requires : goal.standing-requires
standing-requires g c = some_inner c.of_numbers-heights.result.region (heights_are g (goal.at.standing-requires g c).After-of_numbers-heights (region_is g (goal.at.standing-requires g c).In-Ok)).0

pub put-requires-clause-lawful : goal.put-requires-clause-lawful
put-requires-clause-lawful g c =
    let same = heights_are g (goal.at.put-requires-clause-lawful g c).After-of_numbers-heights (region_is g (goal.at.put-requires-clause-lawful g c).In-Ok) in
    subst (λ (R : Region). AreLawful R (put_at 5 (negsuc 1 ∷ []) c.of_numbers-heights.result.numbers)) (sym same.0)
    (subst (λ (ns : List ℤ). AreLawful two_two (put_at 5 (negsuc 1 ∷ []) ns)) (sym same.1) upright_lawful)

pub standing-requires-in-Ok : goal.standing-requires-in-Ok
standing-requires-in-Ok g c =
    some_inner c.put.new.self.region (c.put.ensures.region ∙ (heights_are g (goal.at.standing-requires-in-Ok g c).After-of_numbers-heights (region_is g (goal.at.standing-requires-in-Ok g c).In-Ok)).0)
