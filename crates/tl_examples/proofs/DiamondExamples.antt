-- The Aztec diamond of order 2: its start is 4.
use Rattle.std.proofs.Common.{◌≡◌, [], ◌∷◌, length, refl, codes}
use Rattle.tl_definitions.specs.declared.Kind.TheVariants.{Square}
use Rattle.tl_definitions.specs.Region.{Region}
use Rattle.tl_formats.specs.RegionText.{region_of}
use Rattle.tl_formats.proofs.Cases.{input, all_tilings, reached, first_bits}

abbrev diamond : Region
diamond = region_of Square (codes ".##" ∷ codes "####" ∷ codes "####" ∷ codes ".##" ∷ [])

tilings : length (all_tilings diamond) ≡ 8
tilings = refl

start_1 : length (reached diamond first_bits 1) ≡ 2
start_1 = refl

start_2 : length (reached diamond first_bits 2) ≡ 2
start_2 = refl

start_4 : reached diamond first_bits 4
    ≡ input (codes ".><." ∷ codes "vv><" ∷ codes "^^><" ∷ codes ".><." ∷ []) ∷ []
start_4 = refl
